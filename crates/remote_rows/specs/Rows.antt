-- Document 02, "One", on document 01's "The table": "No value in a lent record is illegal." A row of five numbers and the record of a remote stream that it is
-- read as. In order: in use, SSRC, state, repeats left, believed PauseID.
use Rattle.std.specs.Prelude.{not, cond, List, [], ◌∷◌, ℕ, ◌%◌, ◌^◌, eqb}
use Rattle.remote.specs.declared.State.{State}
use Rattle.remote.specs.declared.State.TheVariants.{Receiving, AskedToPause, Paused, AskedToResume}
use Rattle.remote.specs.declared.Remote.{Remote}
use Rattle.sides.specs.Rows.{number_at, used_number}
use Rattle.sides.specs.Rows as sides
use Rattle.receiver.specs.Keeping.{Keeping}

-- 1 Asked to pause, 2 Paused, 3 Asked to resume; 0 and every other number Receiving, so that for what nobody wrote nothing is sent
abbrev pub state_of : ℕ → ℕ → State
state_of n left =
    cond (eqb n 1) (AskedToPause left)
    (cond (eqb n 2) Paused
    (cond (eqb n 3) (AskedToResume left) Receiving))

abbrev pub state_number : State → ℕ
state_number Receiving = 0
state_number (AskedToPause left) = 1
state_number Paused = 2
state_number (AskedToResume left) = 3

-- only the two Asked states hold a count
abbrev pub left_number : State → ℕ
left_number Receiving = 0
left_number (AskedToPause left) = left
left_number Paused = 0
left_number (AskedToResume left) = left

-- The record that a row is read as: in use where the first number is not 0; of a number wider than its field the low bits count.
abbrev pub read_row : List ℕ → Remote
read_row row =
    record {
      ssrc = number_at row 1;
      id = record { 0 = number_at row 4 % 2 ^ 16 };
      state = state_of (number_at row 2) (number_at row 3 % 2 ^ 8);
      used = not (eqb (number_at row 0) 0);
    }

-- The row that a record is written as.
abbrev pub row_of : Remote → List ℕ
row_of s = used_number s.used ∷ s.ssrc ∷ state_number s.state ∷ left_number s.state ∷ s.id.0 ∷ []

-- a row has five numbers
abbrev pub numbers : ℕ
numbers = 5

-- rows of numbers: a row that is read as the record already keeps every number it had; past the end every number is 0
abbrev pub rows : Keeping (List ℕ)
rows = sides.in_rows numbers read_row row_of
