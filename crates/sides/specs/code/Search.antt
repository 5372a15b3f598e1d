-- The searches of a table: what each gives is a place, as an option.
use Rattle.std.specs.Prelude.{Bool, cond, not, Option, Some, None, List, ℕ, ◌+◌, ltb, length, drop}
use Rattle.serving.specs.Keeping.{Keeping}
use Rattle.serving.specs.Rules.{Rules}
use Rattle.serving.specs.Serve.{holds, first}

-- a place as an option: none where it is past the table's end
abbrev pub found_at : {A : Type 0} → List A → ℕ → Option ℕ
found_at t i = cond (ltb i (length t)) (Some i) None

-- the first that passes a test at a place or behind it; the table's length where there is none
unfoldable pub first_from : {A : Type 0} → (A → Bool) → List A → ℕ → ℕ
first_from test t i = cond (ltb i (length t)) (i + first test (drop i t)) (length t)

-- the first record in use with the SSRC at a place or behind it; the table's length where there is none
abbrev pub place_from : {S E R A : Type 0} → Rules S E R → Keeping S A → List A → ℕ → ℕ → ℕ
place_from M K t ssrc i = first_from (λ a. holds M (K.read a) ssrc) t i

module _ {S A : Type 0} (K : Keeping S A) where
  -- the first record in use with the SSRC, where `held` tells that of a record
  abbrev pub found_in : (S → ℕ → Bool) → List A → ℕ → Option ℕ
  found_in held t ssrc = found_at t (first (λ a. held (K.read a) ssrc) t)

  -- the same, from a place on
  abbrev pub found_from : (S → ℕ → Bool) → List A → ℕ → ℕ → Option ℕ
  found_from held t ssrc i = found_at t (first_from (λ a. held (K.read a) ssrc) t i)

  -- the first record not in use, where `used` tells that of a record
  abbrev pub vacant_in : (S → Bool) → List A → Option ℕ
  vacant_in used t = found_at t (first (λ a. not (used (K.read a))) t)
