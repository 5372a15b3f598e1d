-- A choice by a test.
use Rattle.std.specs.Prelude.{◌≡◌, refl, Bool, true, false}

unfoldable pub pick : {A : Type 0} → Bool → A → A → A
pick true a b = a
pick false a b = b

pub pick_cases : {A : Type 0} (P : A → Type 0) {b : Bool} {x y : A} → (b ≡ true → P x) → (b ≡ false → P y) → P (pick b x y)
unfolding pick
pick_cases P {b = true} f g = f refl
pick_cases P {b = false} f g = g refl
