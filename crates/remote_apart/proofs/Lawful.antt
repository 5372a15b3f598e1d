-- The rules of one remote stream are lawful, and so is the receiver's side, whatever its house SSRC; rows of numbers are a faithful keeping of its records.
-- Assumes nothing.
use Prim.Native.Nat.{ℕ, ◌%◌, ◌^◌, ◌<◌}
use mathlib.Core.Path.{◌≡◌, refl, ap}
use mathlib.Core.Bool.{Bool, true, false, not, cond}
use mathlib.Core.List.{List, [], ◌∷◌}
use native.Mathlib.Nat.{mod-lt, mod-eq_of_lt}
use Rattle.std.specs.Prelude.{Option, Some, None}
use lib.Dec.{eqb, lit<}
use Rattle.remote.proofs.Keeps.{For, FewLeft, Fits, keeps}
use Rattle.remote.specs.Rules.{ruled}
use Rattle.remote.specs.declared.State.{State}
use Rattle.remote.specs.declared.State.TheVariants.{Receiving, AskedToPause, Paused, AskedToResume}
use Rattle.remote.specs.declared.Remote.{Remote}
use Rattle.remote.specs.declared.AskEntry.{AskEntry}
use Rattle.serving.proofs.Faithful.{AllFrom, Lawful}
use Rattle.serving.proofs.Faithful as serving
use Rattle.sides.specs.Rows.{number_at}
use Rattle.sides.proofs.Rows.{used_back}
use Rattle.sides.proofs.Rows as sides
use Rattle.sides.proofs.Side.{LawfulSide}
use Rattle.receiver.specs.Calls.{receiver}
use Rattle.receiver.specs.Keeping.{Keeping}
use Rattle.receiver.specs.Serve.{listed, remotes}
use Rattle.remote_rows.specs.Rows.{state_of, state_number, left_number, read_row, row_of, numbers, rows}

from_own : (x : ℕ) (m : Option AskEntry) → For x m → AllFrom remotes x (listed m)
from_own x None h = tt
from_own x (Some e) h = (h, tt)

pub remotes_lawful : Lawful remotes
remotes_lawful =
    record {
      used = λ e s. (keeps s e).used;
      ssrc = λ e s. (keeps s e).ssrc;
      own = λ e s. from_own s.ssrc (ruled e s).sent (keeps s e).own;
      stays = λ e s refused. (keeps s e).stays refused;
      quiet = λ e s refused. ap listed ((keeps s e).quiet refused);
    }

pub receiver_lawful : (house : ℕ) → LawfulSide (receiver house)
receiver_lawful house = record { rules = remotes_lawful; entered = λ t e. refl }

abbrev pub Faithful : {A : Type 0} → Keeping A → Type 0
Faithful K = serving.Faithful remotes K

-- ---- rows of numbers

state_back : (s : State) → state_of (state_number s) (left_number s) ≡ s
state_back Receiving = refl
state_back (AskedToPause left) = refl
state_back Paused = refl
state_back (AskedToResume left) = refl

-- the record of five numbers, with no remainders taken
abbrev of_numbers : List ℕ → Remote
of_numbers row =
    record {
      ssrc = number_at row 1;
      id = record { 0 = number_at row 4 };
      state = state_of (number_at row 2) (number_at row 3);
      used = not (eqb (number_at row 0) 0);
    }

numbers_back : (s : Remote) → of_numbers (row_of s) ≡ s
numbers_back s = rw (state_back s.state, used_back s.used)

fits_state : (s : State) → FewLeft s → state_of (state_number s) (left_number s % 2 ^ 8) ≡ s
fits_state Receiving few = refl
fits_state (AskedToPause left) few = ap AskedToPause (mod-eq_of_lt few)
fits_state Paused few = refl
fits_state (AskedToResume left) few = ap AskedToResume (mod-eq_of_lt few)

fits_back : (s : Remote) → Fits s → read_row (row_of s) ≡ s
fits_back s f = rw (fits_state s.state f.left, used_back s.used, mod-eq_of_lt f.id)

few_left : (n left : ℕ) → left < 2 ^ 8 → FewLeft (state_of n left)
few_left n left few = go (eqb n 1) (eqb n 2) (eqb n 3)
  where
    go : (one two three : Bool) → FewLeft (cond one (AskedToPause left) (cond two Paused (cond three (AskedToResume left) Receiving)))
    go true two three = few
    go false true three = tt
    go false false true = few
    go false false false = tt

read_fits : (row : List ℕ) → Fits (read_row row)
read_fits row =
    record { id = mod-lt (number_at row 4) (lit< tt); left = few_left (number_at row 2) (number_at row 3 % 2 ^ 8) (mod-lt (number_at row 3) (lit< tt)) }

rows_cleared : (row : List ℕ) → (read_row (rows.clear row)).used ≡ false
rows_cleared [] = refl
rows_cleared (n ∷ rest) = refl

pub rows_faithful : Faithful rows
rows_faithful =
    sides.rows_faithful numbers read_row row_of (sides.one_record numbers read_row row_of of_numbers numbers_back (λ s. refl)) remotes refl
    (λ row e. fits_back (ruled e (read_row row)).remote ((keeps (read_row row) e).fits (read_fits row)))
    (λ s. used_back s.used)
    (λ s. refl)
    rows_cleared
