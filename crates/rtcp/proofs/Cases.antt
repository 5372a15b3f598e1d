-- The numbers of "What can come back" tell the cases apart; and the marked cases on bytes.
-- Assumes nothing.
use mathlib.Core.Path.{◌≡◌, refl, sym, ap, ◌∙◌}
use mathlib.Core.List.{List, [], ◌∷◌}
use Prim.Native.Nat.{ℕ, ◌≤◌}
use native.Mathlib.Omega.{arith}
use borrow.Author.Tests.{ne_eqb}
use lib.ListN.{get_or}
use lib.Dec.{eqb}
use Rattle.std.specs.Prelude.{Result, Ok, Err}
use Rattle.cases.specs.Case.{number_of}
use Rattle.rtcp.specs.Pick.{pick}
use Rattle.rtcp.specs.Walk.{walk}
use Rattle.rtcp.specs.Datagram.{refuse_if, contents, opened, packets, Reading, refused, entries, reading, counted}
use Rattle.rtcp.specs.Said.{number, checked_said, refusal_number, reading_said}
use Rattle.rtcp.specs.declared.Fault.{Fault}
use Rattle.rtcp.specs.declared.Fault.TheVariants.{TooLong, Short, Version, Overrun, PadPlace, PadCount, NoHead, NoEntry, Entry}
use Rattle.rtcp.specs.declared.Refusal.{Refusal}

-- ---- each answer from its number and value

unfoldable pub fault_of : ℕ → Fault
fault_of n = get_or (TooLong ∷ TooLong ∷ Short ∷ Version ∷ Overrun ∷ PadPlace ∷ PadCount ∷ NoHead ∷ NoEntry ∷ Entry ∷ []) n TooLong

pub fault_back : (f : Fault) → fault_of (number f) ≡ f
unfolding fault_of
fault_back TooLong = refl
fault_back Short = refl
fault_back Version = refl
fault_back Overrun = refl
fault_back PadPlace = refl
fault_back PadCount = refl
fault_back NoHead = refl
fault_back NoEntry = refl
fault_back Entry = refl

-- what is read back from what it says is told apart by that
pub from_back : {R S : Type 0} (said : R → S) (of : S → R) → ((r : R) → of (said r) ≡ r) → (r s : R) → said r ≡ said s → r ≡ s
from_back said of back r s e = sym (back r) ∙ ap of e ∙ back s

pub number_apart : (f g : Fault) → number f ≡ number g → f ≡ g
number_apart = from_back number fault_of fault_back

-- the numbers of the refusals of a datagram: 1 to 9
pub fault_number : (f : Fault) → (1 ≤ number f) × (number f ≤ 9)
fault_number TooLong = (omega arith, omega arith)
fault_number Short = (omega arith, omega arith)
fault_number Version = (omega arith, omega arith)
fault_number Overrun = (omega arith, omega arith)
fault_number PadPlace = (omega arith, omega arith)
fault_number PadCount = (omega arith, omega arith)
fault_number NoHead = (omega arith, omega arith)
fault_number NoEntry = (omega arith, omega arith)
fault_number Entry = (omega arith, omega arith)

checked : ℕ × List ℕ → Result ℕ Refusal
unfolding pick
checked t = pick (eqb t.0 0) (Ok (get_or t.1 0 0)) (Err (record { fault = fault_of t.0; place = get_or t.1 0 0 }))

refused_back : (f : Fault) (place : ℕ) → checked (number f, place ∷ []) ≡ Err (record { fault = f; place = place })
unfolding checked
refused_back f place = rw (ne_eqb (number f) 0 (λ e. absurd (omega (arith, (fault_number f).0))), fault_back f)

checked_back : (r : Result ℕ Refusal) → checked (checked_said r) ≡ r
unfolding checked
checked_back (Ok n) = refl
checked_back (Err refusal) = refused_back refusal.fault refusal.place

pub checked_apart : (r s : Result ℕ Refusal) → checked_said r ≡ checked_said s → r ≡ s
checked_apart = from_back checked_said checked checked_back

-- the number of an answer, which `cases::number` gives, is the first part of what the answer says: 0 of Done, and its refusal's
pub checked_number : (a : Result ℕ Refusal) → number_of refusal_number a ≡ (checked_said a).0
checked_number (Ok n) = refl
checked_number (Err refusal) = refl

-- an answer that says what a reading says is the count of that reading
pub counted_said : (r : Reading) → checked_said (counted r) ≡ reading_said r
counted_said (refused fault place) = refl
counted_said (entries es) = refl

pub checked_is : (c : Result ℕ Refusal) (r : Reading) → checked_said c ≡ reading_said r → c ≡ counted r
checked_is c r e = checked_apart c (counted r) (e ∙ sym (counted_said r))

-- ---- "Bytes 89 cd 00 02 and eight more: NoEntry; 89 cd 00 01 and four more: NoHead."

pub no_entry : (a b c d e f g h : ℕ) → reading (0x89 ∷ 0xcd ∷ 0x00 ∷ 0x02 ∷ a ∷ b ∷ c ∷ d ∷ e ∷ f ∷ g ∷ h ∷ []) ≡ refused NoEntry 0
unfolding reading packets opened contents refuse_if walk
no_entry a b c d e f g h = refl

pub no_head : (a b c d : ℕ) → reading (0x89 ∷ 0xcd ∷ 0x00 ∷ 0x01 ∷ a ∷ b ∷ c ∷ d ∷ []) ≡ refused NoHead 0
unfolding reading packets opened contents refuse_if walk
no_head a b c d = refl
