-- The document's number and values tell the cases of the two answers that are of no side apart: each answer is read back from them;
-- and the number of an answer is the first part of what it says.
-- Assumes nothing.
use mathlib.Core.Bool.{cond}
use mathlib.Core.List.{List}
use mathlib.Core.Path.{◌≡◌, refl}
use Prim.Native.Nat.{ℕ}
use lib.Dec.{eqb}
use lib.ListN.{get_or}
use Rattle.std.specs.Prelude.{Result, Ok, Err}
use Rattle.cases.specs.Case.{number_of}
use Rattle.rtcp.proofs.Cases.{from_back}
use Rattle.sides.specs.Said.{packet_said, packet_number, change_said, change_number}
use Rattle.sides.specs.declared.PacketRefusal.{PacketRefusal}
use Rattle.sides.specs.declared.PacketRefusal.TheVariants as packet
use Rattle.sides.specs.declared.ChangeRefusal.{ChangeRefusal}
use Rattle.sides.specs.declared.ChangeRefusal.TheVariants as change

abbrev Said : Type 0
Said = ℕ × List ℕ

abbrev Packet : Type 0
Packet = Result ℕ PacketRefusal

abbrev Change : Type 0
Change = Result (Unit {0}) ChangeRefusal

packet_of : Said → Packet
packet_of said = cond (eqb said.0 0) (Ok (get_or said.1 0 0)) (Err (cond (eqb said.0 10) packet.Room (cond (eqb said.0 11) packet.Size packet.NoStream)))

packet_back : (r : Packet) → packet_of (packet_said r) ≡ r
unfolding packet_of
packet_back (Ok n) = refl
packet_back (Err packet.Room) = refl
packet_back (Err packet.Size) = refl
packet_back (Err packet.NoStream) = refl

change_of : Said → Change
change_of said = cond (eqb said.0 0) (Ok tt) (Err (cond (eqb said.0 11) change.Size change.NoStream))

change_back : (r : Change) → change_of (change_said r) ≡ r
unfolding change_of
change_back (Ok tt) = refl
change_back (Err change.Size) = refl
change_back (Err change.NoStream) = refl

pub packet_apart : (r s : Packet) → packet_said r ≡ packet_said s → r ≡ s
packet_apart = from_back packet_said packet_of packet_back

pub change_apart : (r s : Change) → change_said r ≡ change_said s → r ≡ s
change_apart = from_back change_said change_of change_back

-- ---- the number of an answer, which `cases::number` gives, is the first part of what the answer says: 0 of Done, and its refusal's

pub packet_answer_number : (a : Packet) → number_of packet_number a ≡ (packet_said a).0
packet_answer_number (Ok n) = refl
packet_answer_number (Err refusal) = refl

pub change_answer_number : (a : Change) → number_of change_number a ≡ (change_said a).0
change_answer_number (Ok done) = refl
change_answer_number (Err refusal) = refl
