-- The document's number and values tell the cases of each answer apart: each answer is read back from them; and the number of an answer is the
-- first part of what it says.
-- Assumes nothing.
use Rattle.std.proofs.Common.{◌≡◌, refl, ℕ, cond, eqb, ne_eqb, List, [], ◌∷◌, get_or, arith, Result, Ok, Err}
use Rattle.cases.specs.Case.{number_of}
use Rattle.rtcp.specs.Said.{number}
use Rattle.rtcp.specs.declared.Fault.{Fault}
use Rattle.rtcp.proofs.Cases.{fault_of, fault_back, fault_number, from_back}
use Rattle.receiver.specs.Said.{datagram_said, datagram_number, ask_said, ask_number, add_said, add_number}
use Rattle.receiver.specs.declared.Counts.{Counts}
use Rattle.receiver.specs.declared.DatagramRefusal.{DatagramRefusal}
use Rattle.receiver.specs.declared.DatagramRefusal.TheVariants as datagram
use Rattle.receiver.specs.declared.AskRefusal.{AskRefusal}
use Rattle.receiver.specs.declared.AskRefusal.TheVariants as ask
use Rattle.receiver.specs.declared.AddRefusal.{AddRefusal}
use Rattle.receiver.specs.declared.AddRefusal.TheVariants as add

abbrev Said : Type 0
Said = ℕ × List ℕ

-- value k of what was said
abbrev value : Said → ℕ → ℕ
value said k = get_or said.1 k 0

datagram_of : Said → Result Counts DatagramRefusal
datagram_of said =
    cond (eqb said.0 0) (Ok (record { entries = value said 0; unknown = value said 1 }))
    (Err (cond (eqb said.0 11) datagram.Size (datagram.Refused (record { fault = fault_of said.0; place = value said 0 }))))

refused_back : (f : Fault) (place : ℕ) → datagram_of (number f, place ∷ []) ≡ Err (datagram.Refused (record { fault = f; place = place }))
unfolding datagram_of
refused_back f place =
    let low = (fault_number f).0 in
    let high = (fault_number f).1 in
    rw (ne_eqb (number f) 0 (λ e. absurd (omega arith)), ne_eqb (number f) 11 (λ e. absurd (omega arith)), fault_back f)

datagram_back : (r : Result Counts DatagramRefusal) → datagram_of (datagram_said r) ≡ r
unfolding datagram_of
datagram_back (Ok counts) = refl
datagram_back (Err (datagram.Refused refusal)) = refused_back refusal.fault refusal.place
datagram_back (Err datagram.Size) = refl

ask_of : Said → Result ℕ AskRefusal
ask_of said =
    cond (eqb said.0 0) (Ok (value said 0))
    (Err (cond (eqb said.0 10) ask.Room (cond (eqb said.0 11) ask.Size (cond (eqb said.0 12) ask.NoStream ask.Busy))))

ask_back : (r : Result ℕ AskRefusal) → ask_of (ask_said r) ≡ r
unfolding ask_of
ask_back (Ok n) = refl
ask_back (Err ask.Room) = refl
ask_back (Err ask.Size) = refl
ask_back (Err ask.NoStream) = refl
ask_back (Err ask.Busy) = refl

add_of : Said → Result Unit AddRefusal
add_of said = cond (eqb said.0 0) (Ok tt) (Err (cond (eqb said.0 11) add.Size (cond (eqb said.0 15) add.Duplicate add.Full)))

add_back : (r : Result Unit AddRefusal) → add_of (add_said r) ≡ r
unfolding add_of
add_back (Ok done) = refl
add_back (Err add.Size) = refl
add_back (Err add.Duplicate) = refl
add_back (Err add.Full) = refl

pub datagram_apart : (r s : Result Counts DatagramRefusal) → datagram_said r ≡ datagram_said s → r ≡ s
datagram_apart = from_back datagram_said datagram_of datagram_back

pub ask_apart : (r s : Result ℕ AskRefusal) → ask_said r ≡ ask_said s → r ≡ s
ask_apart = from_back ask_said ask_of ask_back

pub add_apart : (r s : Result Unit AddRefusal) → add_said r ≡ add_said s → r ≡ s
add_apart = from_back add_said add_of add_back

-- ---- the number of an answer, which `cases::number` gives, is the first part of what the answer says: 0 of Done, and its refusal's

pub datagram_answer_number : (a : Result Counts DatagramRefusal) → number_of datagram_number a ≡ (datagram_said a).0
datagram_answer_number (Ok counts) = refl
datagram_answer_number (Err refusal) = refl

pub ask_answer_number : (a : Result ℕ AskRefusal) → number_of ask_number a ≡ (ask_said a).0
ask_answer_number (Ok n) = refl
ask_answer_number (Err refusal) = refl

pub add_answer_number : (a : Result Unit AddRefusal) → number_of add_number a ≡ (add_said a).0
add_answer_number (Ok done) = refl
add_answer_number (Err refusal) = refl
