-- A call is a chain of refusals and then what it does: what holds of each refusal, and of what it does where no test held, holds of the call.
-- Assumes nothing.
use Prim.Native.Nat.{ℕ, ◌<◌}
use mathlib.Core.Path.{◌≡◌, refl}
use mathlib.Core.Bool.{Bool, true, false, not, cond}
use mathlib.Core.List.{List, [], ◌∷◌}
use borrow.Author.Tests.{ltb-true, not-false}
use lib.Dec.{ltb}
use lib.ListN.{length, set}
use Rattle.serving.specs.Keeping.{Keeping}
use Rattle.serving.specs.Rules.{Rules}
use Rattle.serving.specs.Serve.{answers, place, kept_at}
use Rattle.sides.specs.Calls.{Came, wrong_size, refusal, refuse_if, vacant, stored, admitted, after_start, add_call, remove_call}

module _ {A : Type 0} (test : Bool) (case : ℕ) (t : List A) (buffer : List ℕ) (other : Came A) where
  pub accepted : test ≡ false → refuse_if test case t buffer other ≡ other
  unfolding refuse_if
  accepted e = rw e

  pub refused : test ≡ true → refuse_if test case t buffer other ≡ refusal case 0 t buffer
  unfolding refuse_if
  refused e = rw e

  pub refuse_cases : (P : Came A → Type 0) → P (refusal case 0 t buffer) → (test ≡ false → P other) → P (refuse_if test case t buffer other)
  unfolding refuse_if
  refuse_cases P refused done = go test refl
    where
      go : (b : Bool) → test ≡ b → P (cond b (refusal case 0 t buffer) other)
      go true e = refused
      go false e = done e

module _ {S E R A : Type 0} (M : Rules S E R) (K : Keeping S A) (t : List A) (P : Came A → Type 0) (refused : (case : ℕ) → P (refusal case 0 t [])) where
  pub remove_cases : (ssrc : ℕ) → (answers M K t ssrc ≡ true → P (stored (set t (place M K t ssrc) (K.clear (kept_at K t (place M K t ssrc))))))
      → P (remove_call M K ssrc t)
  unfolding remove_call
  remove_cases ssrc done =
      refuse_cases (wrong_size (length t)) 11 t [] _ P (refused 11)
      (λ sized. refuse_cases (not (answers M K t ssrc)) 12 t [] _ P (refused 12) (λ found. done (not-false (answers M K t ssrc) found)))

  module _ (done : (s : S) → answers M K t (M.ssrc s) ≡ false → vacant M K t < length t → P (stored (set t (vacant M K t) (K.store (kept_at K t (vacant M K t)) s)))) where
    admitted_cases : (s : S) → P (admitted M K s t)
    admitted_cases s =
        refuse_cases (answers M K t (M.ssrc s)) 15 t [] _ P (refused 15)
        (λ new. refuse_cases (not (ltb (vacant M K t) (length t))) 16 t [] _ P (refused 16)
        (λ room. done s new (ltb-true (vacant M K t) (length t) (not-false (ltb (vacant M K t) (length t)) room))))

    pub add_cases : (start : ℕ × List S) → P (add_call M K start t)
    unfolding add_call
    add_cases start = refuse_cases (wrong_size (length t)) 11 t [] _ P (refused 11) (λ sized. go start.0 start.1)
      where
        go : (case : ℕ) (came : List S) → P (after_start M K case came t)
        go case [] = refused case
        go case (s ∷ rest) = admitted_cases s
