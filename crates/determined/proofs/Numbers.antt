-- The number that `cases::number` gives of an answer is the first part of what the answer says, for each kind of answer: 0 of Done, and its refusal's. Each is a law
-- of the crate that says what the answer says.
-- Assumes nothing.
use mathlib.Core.Path.{◌≡◌}
use Prim.Native.Nat.{ℕ}
use Rattle.std.specs.Prelude.{Result}
use Rattle.cases.specs.Case.{number_of}
use Rattle.counters.specs.declared.Seq.{Seq}
use Rattle.rtcp.specs.Said.{checked_said, refusal_number}
use Rattle.rtcp.specs.declared.Refusal.{Refusal}
use Rattle.rtcp.proofs.Cases as rtcp_laws
use Rattle.stream.specs.Said.{number_said, started_said, held_number, limit_number}
use Rattle.stream.specs.declared.Stream.{Stream}
use Rattle.stream.specs.declared.Held.{Held}
use Rattle.stream.specs.declared.Limit.{Limit}
use Rattle.stream.proofs.Said as stream_laws
use Rattle.remote.specs.Said.{asked_said, busy_number}
use Rattle.remote.specs.declared.Outcome.{Outcome}
use Rattle.remote.specs.declared.Busy.{Busy}
use Rattle.remote.proofs.Said as remote_laws
use Rattle.writer.specs.Said.{written_said, written_number}
use Rattle.writer.specs.declared.WriteRefusal.{WriteRefusal}
use Rattle.writer.proofs.Cases as writer_laws
use Rattle.sides.specs.Said.{packet_said, packet_number, change_said, change_number}
use Rattle.sides.specs.declared.PacketRefusal.{PacketRefusal}
use Rattle.sides.specs.declared.ChangeRefusal.{ChangeRefusal}
use Rattle.sides.proofs.Said as sides_laws
use Rattle.sender.specs.Said as sender
use Rattle.sender.specs.declared.Counts.{Counts as SenderCounts}
use Rattle.sender.specs.declared.DatagramRefusal.{DatagramRefusal as SenderRefusal}
use Rattle.sender.specs.declared.SendRefusal.{SendRefusal}
use Rattle.sender.specs.declared.AddRefusal.{AddRefusal as SenderAdd}
use Rattle.sender.proofs.Said as sender_laws
use Rattle.receiver.specs.Said as receiver
use Rattle.receiver.specs.declared.Counts.{Counts as ReceiverCounts}
use Rattle.receiver.specs.declared.DatagramRefusal.{DatagramRefusal as ReceiverRefusal}
use Rattle.receiver.specs.declared.AskRefusal.{AskRefusal}
use Rattle.receiver.specs.declared.AddRefusal.{AddRefusal as ReceiverAdd}
use Rattle.receiver.proofs.Said as receiver_laws

pub checked_number : (a : Result ℕ Refusal) → number_of refusal_number a ≡ (checked_said a).0
checked_number = rtcp_laws.checked_number

pub sent_number : (a : Result Seq Held) → number_of held_number a ≡ (number_said a).0
sent_number = stream_laws.sent_number

pub started_number : (a : Result Stream Limit) → number_of limit_number a ≡ (started_said a).0
started_number = stream_laws.started_number

pub asked_number : (a : Result Outcome Busy) → number_of busy_number a ≡ (asked_said a).0
asked_number = remote_laws.asked_number

pub written_answer_number : (a : Result ℕ WriteRefusal) → number_of written_number a ≡ (written_said a).0
written_answer_number = writer_laws.written_answer_number

pub packet_answer_number : (a : Result ℕ PacketRefusal) → number_of packet_number a ≡ (packet_said a).0
packet_answer_number = sides_laws.packet_answer_number

pub change_answer_number : (a : Result (Unit {0}) ChangeRefusal) → number_of change_number a ≡ (change_said a).0
change_answer_number = sides_laws.change_answer_number

pub datagram_answer_number : (a : Result SenderCounts SenderRefusal) → number_of sender.datagram_number a ≡ (sender.datagram_said a).0
datagram_answer_number = sender_laws.datagram_answer_number

pub send_answer_number : (a : Result Seq SendRefusal) → number_of sender.send_number a ≡ (sender.send_said a).0
send_answer_number = sender_laws.send_answer_number

pub add_answer_number : (a : Result (Unit {0}) SenderAdd) → number_of sender.add_number a ≡ (sender.add_said a).0
add_answer_number = sender_laws.add_answer_number

pub remote_datagram_answer_number : (a : Result ReceiverCounts ReceiverRefusal) → number_of receiver.datagram_number a ≡ (receiver.datagram_said a).0
remote_datagram_answer_number = receiver_laws.datagram_answer_number

pub ask_answer_number : (a : Result ℕ AskRefusal) → number_of receiver.ask_number a ≡ (receiver.ask_said a).0
ask_answer_number = receiver_laws.ask_answer_number

pub remote_add_answer_number : (a : Result (Unit {0}) ReceiverAdd) → number_of receiver.add_number a ≡ (receiver.add_said a).0
remote_add_answer_number = receiver_laws.add_answer_number
