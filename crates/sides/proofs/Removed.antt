-- The remove of a table is: find the record, decide, clear. For any rules and any way of keeping the records.
-- Assumes nothing.
use mathlib.Core.Bool.{Bool, true, false, not, cond}
use mathlib.Core.List.{List, []}
use mathlib.Core.Path.{◌≡◌, refl}
use Prim.Native.Nat.{ℕ}
use lib.ListN.{length}
use Rattle.std.specs.Prelude.{Some, None, Result, Err}
use Rattle.serving.specs.Keeping.{Keeping}
use Rattle.serving.specs.Rules.{Rules}
use Rattle.serving.specs.Serve.{answers, place}
use Rattle.sides.specs.Calls.{Came, wrong_size, refusal, refuse_if, stored, remove_call}
use Rattle.sides.specs.Said.{change_said}
use Rattle.sides.specs.code.Places.{released, released_at, answer_of, clearing, cleared_by}
use Rattle.sides.specs.code.Search.{found_at}
use Rattle.sides.proofs.Search.{found_inside}
use Rattle.sides.specs.declared.ChangeRefusal.{ChangeRefusal}
use Rattle.sides.specs.declared.ChangeRefusal.TheVariants as change

module _ {S E R A : Type 0} (M : Rules S E R) (K : Keeping S A) (t : List A) (ssrc : ℕ) where
  abbrev shown : Result ℕ ChangeRefusal → Came A
  shown decided = record { said = change_said (answer_of decided); table = cleared_by K t decided; buffer = [] }

  remove_by : (wrong found : Bool)
      → cond wrong (refusal 11 0 t []) (cond (not found) (refusal 12 0 t []) (stored (clearing K t (place M K t ssrc))))
      ≡ shown (cond wrong (Err change.Size) (released_at (cond found (Some (place M K t ssrc)) None)))
  remove_by true found = refl
  remove_by false false = refl
  remove_by false true = refl

  remove_is : remove_call M K ssrc t ≡ shown (released (length t) (found_at t (place M K t ssrc)))
  unfolding remove_call refuse_if
  remove_is = rw (found_inside t (place M K t ssrc)) (remove_by (wrong_size (length t)) (answers M K t ssrc))

  -- from what find, release and clear each promise
  pub removed : (decided : Result ℕ ChangeRefusal) → decided ≡ released (length t) (found_at t (place M K t ssrc))
      → remove_call M K ssrc t ≡ record { said = change_said (answer_of decided); table = cleared_by K t decided; buffer = [] }
  removed decided d = rw d remove_is
