-- Document 01, "The table": "No value in a lent record is illegal." A row of eight numbers and the record that it is read as. In order: in use, SSRC, state,
-- deadline, current PauseID, next sequence number, hold-off, repeats left.
use Rattle.std.specs.Prelude.{not, cond, List, [], ◌∷◌, ℕ, ◌%◌, ◌^◌, eqb}
use Rattle.stream.specs.declared.State.{State}
use Rattle.stream.specs.declared.State.TheVariants.{Playing, Pausing, Paused, LocalPaused}
use Rattle.stream.specs.declared.Stream.{Stream}
use Rattle.sides.specs.Rows.{number_at, used_number}
use Rattle.sides.specs.Rows as sides
use Rattle.sender.specs.Keeping.{Keeping}

-- 0 Playing, 1 Pausing, 2 Paused; 3 and every other number Local paused, so that what nobody wrote is held
abbrev pub state_of : ℕ → ℕ → State
state_of n deadline =
    cond (eqb n 0) Playing
    (cond (eqb n 1) (Pausing deadline)
    (cond (eqb n 2) Paused LocalPaused))

abbrev pub state_number : State → ℕ
state_number Playing = 0
state_number (Pausing d) = 1
state_number Paused = 2
state_number LocalPaused = 3

-- "Only Pausing holds a deadline."
abbrev pub deadline_number : State → ℕ
deadline_number Playing = 0
deadline_number (Pausing d) = d
deadline_number Paused = 0
deadline_number LocalPaused = 0

-- The record that a row is read as: in use where the first number is not 0; of a number wider than its field the low bits count.
abbrev pub read_row : List ℕ → Stream
read_row row =
    record {
      state = state_of (number_at row 2) (number_at row 3);
      ssrc = number_at row 1;
      holdoff = number_at row 6;
      current = record { 0 = number_at row 4 % 2 ^ 16 };
      next = record { 0 = number_at row 5 % 2 ^ 16 };
      used = not (eqb (number_at row 0) 0);
      repeats = number_at row 7 % 2 ^ 8;
    }

-- The row that a record is written as.
abbrev pub row_of : Stream → List ℕ
row_of s =
    used_number s.used
    ∷ s.ssrc
    ∷ state_number s.state
    ∷ deadline_number s.state
    ∷ s.current.0
    ∷ s.next.0
    ∷ s.holdoff
    ∷ s.repeats
    ∷ []

-- a row has eight numbers
abbrev pub numbers : ℕ
numbers = 8

-- a record stored over a row: a row that is read as the record already keeps every number it had
abbrev pub store_row : List ℕ → Stream → List ℕ
store_row = sides.store_row numbers read_row row_of

-- rows of numbers; past the end every number is 0
abbrev pub rows : Keeping (List ℕ)
rows = sides.in_rows numbers read_row row_of
