-- The numbers of "What can come back" tell the cases of the writer apart; and the number of an answer is the first part of what it says.
-- Assumes nothing.
use mathlib.Core.Path.{◌≡◌, refl}
use mathlib.Core.List.{List}
use Rattle.std.specs.Prelude.{Result, Ok, Err}
use Prim.Native.Nat.{ℕ}
use lib.Dec.{eqb}
use lib.ListN.{get_or}
use Rattle.cases.specs.Case.{number_of}
use Rattle.rtcp.specs.Pick.{pick}
use Rattle.rtcp.proofs.Cases.{from_back}
use Rattle.writer.specs.Said.{written_said, written_number}
use Rattle.writer.specs.declared.WriteRefusal.{WriteRefusal}
use Rattle.writer.specs.declared.WriteRefusal.TheVariants.{Limit, Room}

written : ℕ × List ℕ → Result ℕ WriteRefusal
unfolding pick
written t = pick (eqb t.0 0) (Ok (get_or t.1 0 0)) (pick (eqb t.0 14) (Err Limit) (Err Room))

written_back : (r : Result ℕ WriteRefusal) → written (written_said r) ≡ r
unfolding written
written_back (Ok n) = refl
written_back (Err Limit) = refl
written_back (Err Room) = refl

pub written_apart : (r s : Result ℕ WriteRefusal) → written_said r ≡ written_said s → r ≡ s
written_apart = from_back written_said written written_back

-- the number of an answer, which `cases::number` gives, is the first part of what the answer says: 0 of Done, and its refusal's
pub written_answer_number : (a : Result ℕ WriteRefusal) → number_of written_number a ≡ (written_said a).0
written_answer_number (Ok n) = refl
written_answer_number (Err refusal) = refl
