-- The document's number and values tell the cases of each answer apart: each answer is read back from them; and the number of an answer is the
-- first part of what it says.
-- Assumes nothing.
use mathlib.Core.Bool.{cond}
use mathlib.Core.List.{List, [], ◌∷◌}
use mathlib.Core.Path.{◌≡◌, refl}
use Prim.Native.Nat.{ℕ}
use native.Mathlib.Omega.{arith}
use borrow.Author.Tests.{ne_eqb}
use lib.Dec.{eqb}
use lib.ListN.{get_or}
use Rattle.std.specs.Prelude.{Result, Ok, Err}
use Rattle.cases.specs.Case.{number_of}
use Rattle.counters.specs.declared.Seq.{Seq}
use Rattle.rtcp.specs.Said.{number}
use Rattle.rtcp.specs.declared.Fault.{Fault}
use Rattle.rtcp.proofs.Cases.{fault_of, fault_back, fault_number, from_back}
use Rattle.sender.specs.Said.{datagram_said, datagram_number, send_said, send_number, add_said, add_number}
use Rattle.sender.specs.declared.Counts.{Counts}
use Rattle.sender.specs.declared.DatagramRefusal.{DatagramRefusal}
use Rattle.sender.specs.declared.DatagramRefusal.TheVariants as datagram
use Rattle.sender.specs.declared.SendRefusal.{SendRefusal}
use Rattle.sender.specs.declared.SendRefusal.TheVariants as send
use Rattle.sender.specs.declared.AddRefusal.{AddRefusal}
use Rattle.sender.specs.declared.AddRefusal.TheVariants as add

abbrev Said : Type 0
Said = ℕ × List ℕ

abbrev Datagram : Type 0
Datagram = Result Counts DatagramRefusal

abbrev Send : Type 0
Send = Result Seq SendRefusal

abbrev Add : Type 0
Add = Result (Unit {0}) AddRefusal

-- value k of what was said
abbrev value : Said → ℕ → ℕ
value said k = get_or said.1 k 0

datagram_of : Said → Datagram
datagram_of said =
    cond (eqb said.0 0) (Ok (record { length = value said 0; entries = value said 1; unknown = value said 2 }))
    (cond (eqb said.0 10) (Err datagram.Room)
    (cond (eqb said.0 11) (Err datagram.Size) (Err (datagram.Refused (record { fault = fault_of said.0; place = value said 0 })))))

refused_back : (f : Fault) (place : ℕ) → datagram_of (number f, place ∷ []) ≡ Err (datagram.Refused (record { fault = f; place = place }))
unfolding datagram_of
refused_back f place =
    let low = (fault_number f).0 in
    let high = (fault_number f).1 in
    rw (
      ne_eqb (number f) 0 (λ e. absurd (omega arith)),
      ne_eqb (number f) 10 (λ e. absurd (omega arith)),
      ne_eqb (number f) 11 (λ e. absurd (omega arith)),
      fault_back f,
    )

datagram_back : (r : Datagram) → datagram_of (datagram_said r) ≡ r
unfolding datagram_of
datagram_back (Ok counts) = refl
datagram_back (Err (datagram.Refused refusal)) = refused_back refusal.fault refusal.place
datagram_back (Err datagram.Room) = refl
datagram_back (Err datagram.Size) = refl

send_of : Said → Send
send_of said =
    cond (eqb said.0 0) (Ok (record { 0 = value said 0 }))
    (Err (cond (eqb said.0 11) send.Size (cond (eqb said.0 12) send.NoStream send.Held)))

send_back : (r : Send) → send_of (send_said r) ≡ r
unfolding send_of
send_back (Ok q) = refl
send_back (Err send.Size) = refl
send_back (Err send.NoStream) = refl
send_back (Err send.Held) = refl

add_of : Said → Add
add_of said =
    cond (eqb said.0 0) (Ok tt)
    (Err (cond (eqb said.0 11) add.Size (cond (eqb said.0 14) add.Limit (cond (eqb said.0 15) add.Duplicate add.Full))))

add_back : (r : Add) → add_of (add_said r) ≡ r
unfolding add_of
add_back (Ok tt) = refl
add_back (Err add.Size) = refl
add_back (Err add.Limit) = refl
add_back (Err add.Duplicate) = refl
add_back (Err add.Full) = refl

pub datagram_apart : (r s : Datagram) → datagram_said r ≡ datagram_said s → r ≡ s
datagram_apart = from_back datagram_said datagram_of datagram_back

pub send_apart : (r s : Send) → send_said r ≡ send_said s → r ≡ s
send_apart = from_back send_said send_of send_back

pub add_apart : (r s : Add) → add_said r ≡ add_said s → r ≡ s
add_apart = from_back add_said add_of add_back

-- ---- the number of an answer, which `cases::number` gives, is the first part of what the answer says: 0 of Done, and its refusal's

pub datagram_answer_number : (a : Datagram) → number_of datagram_number a ≡ (datagram_said a).0
datagram_answer_number (Ok counts) = refl
datagram_answer_number (Err refusal) = refl

pub send_answer_number : (a : Send) → number_of send_number a ≡ (send_said a).0
send_answer_number (Ok q) = refl
send_answer_number (Err refusal) = refl

pub add_answer_number : (a : Add) → number_of add_number a ≡ (add_said a).0
add_answer_number (Ok done) = refl
add_answer_number (Err refusal) = refl
