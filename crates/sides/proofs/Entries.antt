-- A datagram's entries one after the other: one entry more.
-- Assumes nothing.
use Prim.Native.Nat.{ℕ, suc, ◌<◌}
use mathlib.Core.Path.{◌≡◌, refl}
use mathlib.Core.List.{List, [], ◌∷◌, ◌++◌}
use lib.ListN.{length, get_or, take}
use lib.Seq.{take-suc}
use Rattle.rtcp.specs.declared.Entry.{Entry}
use Rattle.serving.specs.Keeping.{Keeping}
use Rattle.serving.specs.Rules.{Rules}
use Rattle.sides.specs.Entries.{Between, turn, turns}

module _ {S E R A : Type 0} (M : Rules S E R) (entered : ℕ → Entry → E) (K : Keeping S A) (t : ℕ) where
  turns_after : (now : Between A R) (es fs : List Entry) → turns M entered K t now (es ++ fs) ≡ turns M entered K t (turns M entered K t now es) fs
  turns_after now [] fs = refl
  turns_after now (e ∷ es) fs = turns_after (turn M entered K t now e) es fs

  -- `past` is what a list gives past its end
  pub turns_next : (now : Between A R) (es : List Entry) (k : ℕ) (past : Entry) → k < length es
      → turns M entered K t now (take (suc k) es) ≡ turn M entered K t (turns M entered K t now (take k es)) (get_or es k past)
  turns_next now es k past h = rw (take-suc es k past h) (turns_after now (take k es) (get_or es k past ∷ []))
