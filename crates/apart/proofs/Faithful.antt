-- A way of keeping records is faithful when it reads back what it stores. Rows of numbers are, and records themselves are.
-- Assumes nothing.
use Prim.Native.Nat.{ℕ}
use mathlib.Core.Path.{◌≡◌, refl, ap}
use mathlib.Core.Bool.{not}
use mathlib.Core.List.{List, [], ◌∷◌}
use native.Mathlib.Nat.{mod-lt, mod-eq_of_lt}
use lib.Dec.{eqb, lit<}
use Rattle.stream.proofs.Keeps.{Fits, keeps}
use Rattle.stream.specs.Rules.{ruled}
use Rattle.stream.specs.declared.State.{State}
use Rattle.stream.specs.declared.State.TheVariants.{Playing, Pausing, Paused, LocalPaused}
use Rattle.stream.specs.declared.Stream.{Stream}
use Rattle.serving.proofs.Faithful as serving
use Rattle.sender.specs.Keeping.{Keeping, unused, records}
use Rattle.sender.specs.Serve.{streams}
use Rattle.sides.specs.Rows.{number_at}
use Rattle.sides.proofs.Rows.{used_back}
use Rattle.sides.proofs.Rows as sides
use Rattle.rows.specs.Rows.{state_of, state_number, deadline_number, read_row, row_of, numbers, rows}

abbrev pub Faithful : {A : Type 0} → Keeping A → Type 0
Faithful K = serving.Faithful streams K

pub records_faithful : Faithful records
records_faithful =
    record { past = refl; back = λ a e. refl; used = λ a s. refl; ssrc = λ a s. refl; same = λ a. refl; cleared = λ a. refl }

-- ---- rows of numbers

state_back : (s : State) → state_of (state_number s) (deadline_number s) ≡ s
state_back Playing = refl
state_back (Pausing d) = refl
state_back Paused = refl
state_back LocalPaused = refl

-- the record of eight numbers, with no remainders taken
abbrev of_numbers : List ℕ → Stream
of_numbers row =
    record {
      state = state_of (number_at row 2) (number_at row 3);
      ssrc = number_at row 1;
      holdoff = number_at row 6;
      current = record { 0 = number_at row 4 };
      next = record { 0 = number_at row 5 };
      used = not (eqb (number_at row 0) 0);
      repeats = number_at row 7;
    }

numbers_back : (s : Stream) → of_numbers (row_of s) ≡ s
numbers_back s = rw (state_back s.state, used_back s.used)

fits_back : (s : Stream) → Fits s → read_row (row_of s) ≡ s
fits_back s f = rw (state_back s.state, used_back s.used, mod-eq_of_lt f.current, mod-eq_of_lt f.next, mod-eq_of_lt f.repeats)

read_fits : (row : List ℕ) → Fits (read_row row)
read_fits row = record { current = mod-lt (number_at row 4) (lit< tt); next = mod-lt (number_at row 5) (lit< tt); repeats = mod-lt (number_at row 7) (lit< tt) }

-- clear clears "in use" alone
pub rows_cleared : (row : List ℕ) → read_row (rows.clear row) ≡ unused (read_row row)
rows_cleared [] = refl
rows_cleared (n ∷ rest) = refl

pub rows_faithful : Faithful rows
rows_faithful =
    sides.rows_faithful numbers read_row row_of (sides.one_record numbers read_row row_of of_numbers numbers_back (λ s. refl)) streams refl
    (λ row e. fits_back (ruled e (read_row row)).stream ((keeps e (read_row row)).fits (read_fits row)))
    (λ s. used_back s.used)
    (λ s. refl)
    (λ row. ap (λ s. s.used) (rows_cleared row))
