-- The place of the first that passes a test, sought from the front: what a search knows after i places.
-- Assumes nothing.
use mathlib.Core.Bool.{Bool, true, false}
use mathlib.Core.List.{List}
use mathlib.Core.Path.{◌≡◌, sym, ◌∙◌}
use Prim.Native.Nat.{ℕ, ◌+◌, ◌<◌, ◌≤◌}
use native.Mathlib.Nat.{zero-add}
use native.Mathlib.Numerals.{add-one}
use native.Mathlib.Omega.{arith}
use lib.ListN.{length, get_or, drop, drop_of_length-le}
use lib.Seq.{drop-cons}
use Rattle.serving.specs.Serve.{first}

-- none of the first i passes: the first that does is i past the first of the rest
abbrev pub Sought : {A : Type 0} → (A → Bool) → List A → ℕ → Type 0
Sought test t i = first test t ≡ i + first test (drop i t)

pub sought_none : {A : Type 0} (test : A → Bool) (t : List A) → Sought test t 0
sought_none test t = sym (zero-add (first test t))

module _ {A : Type 0} (test : A → Bool) (t : List A) (blank : A) (i : ℕ) (s : Sought test t i) where
  pub hit : i < length t → test (get_or t i blank) ≡ true → i ≡ first test t
  hit h e = sym (s ∙ rw (drop-cons t i blank h, e) (omega arith))

  pub miss : i < length t → test (get_or t i blank) ≡ false → Sought test t (i + 1)
  miss h e = s ∙ rw (drop-cons t i blank h, e, add-one i) (omega arith)

  pub nowhere : length t ≤ i → i ≤ length t → i ≡ first test t
  nowhere h k = sym (s ∙ rw (drop_of_length-le t h) (omega arith))
