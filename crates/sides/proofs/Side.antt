-- A side is lawful when its rules are, and no entry of a datagram is answered by itself.
-- Assumes nothing.
use Prim.Native.Nat.{ℕ}
use mathlib.Core.Path.{◌≡◌}
use mathlib.Core.Bool.{false}
use Rattle.rtcp.specs.declared.Entry.{Entry}
use Rattle.serving.proofs.Faithful.{Lawful}
use Rattle.sides.specs.Calls.{Side}

pub record LawfulSide {S E R : Type 0} (D : Side S E R) : Type 0 where
  pub rules : Lawful D.rules
  -- an entry of a datagram is not answered by itself
  pub entered : (t : ℕ) (e : Entry) → D.rules.called (D.entered t e) ≡ false
