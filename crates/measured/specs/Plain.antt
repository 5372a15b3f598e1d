-- An answer as plain numbers: the case and up to three values, of which those that a case does not have are 0.
use Rattle.std.specs.Prelude.{List, ◌≡◌, ℕ, get_or}
use Rattle.sender.specs.Calls.{Came}
use Rattle.measured.specs.declared.Numbers.{Numbers}

abbrev pub numbers_of : ℕ × List ℕ → Numbers
numbers_of said = record { case = said.0; first = get_or said.1 0 0; second = get_or said.1 1 0; third = get_or said.1 2 0 }

-- what a call came to, with its answer as plain numbers
pub record Measures (came : Came (List ℕ)) (numbers : Numbers) (table : List (List ℕ)) (buffer : List ℕ) : Type 0 where
  pub said : numbers ≡ numbers_of came.said
  pub rows : table ≡ came.table
  pub bytes : buffer ≡ came.buffer
