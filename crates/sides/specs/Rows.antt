-- Document 01, "The table": "No value in a lent record is illegal." A record kept as a row of numbers, the first of which is "in use", on any side: S is the
-- record, n how many numbers a row has, `read` the record that a row is read as, `row_of` the row that a record is written as.
use Rattle.std.specs.Prelude.{Bool, true, false, cond, ◌&&◌, List, [], ℕ, zero, suc, get_or, set, eqb}
use Rattle.serving.specs.Keeping.{Keeping}

-- number k of a row; past its end every number is 0
abbrev pub number_at : List ℕ → ℕ → ℕ
number_at row k = get_or row k 0

-- "in use" as it is written; as it is read, every number but 0 is in use
abbrev pub used_number : Bool → ℕ
used_number true = 1
used_number false = 0

-- two rows have the same first numbers, so many of them
abbrev pub same_first : ℕ → List ℕ → List ℕ → Bool
same_first zero a b = true
same_first (suc k) a b = same_first k a b && eqb (number_at a k) (number_at b k)

module _ {S : Type 0} (n : ℕ) (read : List ℕ → S) (row_of : S → List ℕ) where
  -- A record stored over a row: the row keeps every number it had where the record is the one it is read as already, and is written whole where it is not.
  unfoldable pub store_row : List ℕ → S → List ℕ
  store_row row s = cond (same_first n (row_of (read row)) (row_of s)) row (row_of s)

  -- records kept as such rows
  abbrev pub in_rows : Keeping S (List ℕ)
  in_rows = record { none = []; read = read; store = store_row; clear = λ row. set row 0 0 }
