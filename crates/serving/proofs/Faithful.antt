-- Rules are lawful when an event keeps a record's identity, messages are from its own stream, and what is refused stays and is silent. A way of keeping
-- records is faithful when it reads back what it stores.
-- Assumes nothing.
use Prim.Native.Nat.{ℕ}
use mathlib.Core.Path.{◌≡◌, refl, ap, ◌∙◌}
use mathlib.Core.Bool.{Bool, true, false, ◌&&◌, false≢true}
use mathlib.Core.List.{List, [], ◌∷◌}
use lib.ListN.{set}
use lib.Seq.{set-get_or}
use Rattle.serving.specs.Keeping.{Keeping}
use Rattle.serving.specs.Rules.{Rules}
use Rattle.serving.specs.Serve.{kept_at}

-- every message is from one SSRC
abbrev pub AllFrom : {S E R : Type 0} → Rules S E R → ℕ → List R → Type 0
AllFrom M x [] = Unit {0}
AllFrom M x (m ∷ ms) = (M.from m ≡ x) × AllFrom M x ms

pub record Lawful {S E R : Type 0} (M : Rules S E R) : Type 0 where
  -- an event keeps "in use" and the SSRC
  pub used : (e : E) (s : S) → M.used (M.ruled e s).next ≡ M.used s
  pub ssrc : (e : E) (s : S) → M.ssrc (M.ruled e s).next ≡ M.ssrc s
  -- a message is from its own stream
  pub own : (e : E) (s : S) → AllFrom M (M.ssrc s) (M.ruled e s).sent
  -- what is refused, that is says anything but Done, case 0, stays and is silent
  pub stays : (e : E) (s : S) → ¬ ((M.ruled e s).said.0 ≡ 0) → (M.ruled e s).next ≡ s
  pub quiet : (e : E) (s : S) → ¬ ((M.ruled e s).said.0 ≡ 0) → (M.ruled e s).sent ≡ []

pub record Faithful {S E R A : Type 0} (M : Rules S E R) (K : Keeping S A) : Type 0 where
  -- what stands past the table's end is not in use
  pub past : M.used (K.read K.none) ≡ false
  -- the record that an event leaves is read back
  pub back : (a : A) (e : E) → K.read (K.store a (M.ruled e (K.read a)).next) ≡ (M.ruled e (K.read a)).next
  -- of every record that is stored "in use" and the SSRC are read back
  pub used : (a : A) (s : S) → M.used (K.read (K.store a s)) ≡ M.used s
  pub ssrc : (a : A) (s : S) → M.ssrc (K.read (K.store a s)) ≡ M.ssrc s
  -- the record that stood there already is stored without a change
  pub same : (a : A) → K.store a (K.read a) ≡ a
  -- what is cleared is not in use
  pub cleared : (a : A) → M.used (K.read (K.clear a)) ≡ false

-- the record that stands at a place already, stored there once more, leaves the table as it was
pub stored_stays : {S A : Type 0} (K : Keeping S A) → ((a : A) → K.store a (K.read a) ≡ a) → (t : List A) (i : ℕ) → set t i (K.store (kept_at K t i) (K.read (kept_at K t i))) ≡ t
stored_stays K same t i = ap (set t i) (same (kept_at K t i)) ∙ set-get_or t i K.none

pub both : (a b : Bool) → a && b ≡ true → (a ≡ true) × (b ≡ true)
both true b h = (refl, h)
both false b h = (h, absurd (false≢true h))
