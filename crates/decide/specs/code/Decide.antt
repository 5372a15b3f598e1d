-- What the by-value decisions of src/ give: a refusal, or what is stored and written, from the record that answers for the SSRC, the table's size and the room.
-- proofs/Decided.antt and proofs/Opened.antt tie them to the calls of the crate `sender`.
use Rattle.std.specs.Prelude.{ℕ, Option, Some, None, Result, Ok, Err, cond, nat_lt}
use Rattle.rtcp.specs.declared.Entry.{Entry}
use Rattle.rtcp.specs.declared.Refusal.{Refusal}
use Rattle.counters.specs.Counters.{message_of}
use Rattle.stream.specs.Events.{received, time_row, local_pause_row, local_resume_row, report_row}
use Rattle.stream.specs.Record.{with_next}
use Rattle.stream.specs.Rules.{Event, time, local_pause, report}
use Rattle.stream.specs.declared.State.{State}
use Rattle.stream.specs.declared.State.TheVariants.{Playing, Pausing, Paused, LocalPaused}
use Rattle.stream.specs.declared.Stream.{Stream}
use Rattle.stream.specs.declared.Outcome.{Outcome}
use Rattle.stream.specs.declared.Sent.{Sent}
use Rattle.stream.specs.declared.Limit.{Limit}
use Rattle.writer.specs.Writer.{packet_of_one}
use Rattle.sides.specs.code.Places.{inside}
use Rattle.sides.specs.declared.PacketRefusal.{PacketRefusal}
use Rattle.sides.specs.declared.PacketRefusal.TheVariants as packet
use Rattle.sides.specs.declared.ChangeRefusal.{ChangeRefusal}
use Rattle.sides.specs.declared.ChangeRefusal.TheVariants as change
use Rattle.sender.specs.Calls.{wrong_size, no_room}
use Rattle.sender.specs.declared.DatagramRefusal.{DatagramRefusal}
use Rattle.sender.specs.declared.DatagramRefusal.TheVariants as datagram
use Rattle.sender.specs.declared.SendRefusal.{SendRefusal}
use Rattle.sender.specs.declared.SendRefusal.TheVariants as send
use Rattle.sender.specs.declared.AddRefusal.{AddRefusal}
use Rattle.sender.specs.declared.AddRefusal.TheVariants as add
use Rattle.decide.specs.declared.Call.{Call}
use Rattle.decide.specs.declared.Call.TheVariants as call

abbrev pub event_of : Call → Event
event_of call.LocalPause = local_pause
event_of (call.Time t) = time t
event_of call.Report = report

abbrev pub called_on : Call → Stream → Outcome
called_on call.LocalPause s = local_pause_row s.state s
called_on (call.Time t) s = time_row t s.state s
called_on call.Report s = report_row s.state s

-- local pause, time, report
abbrev pub reacted_by : Option Stream → Call → ℕ → Result Outcome PacketRefusal
reacted_by None call room = Err packet.NoStream
reacted_by (Some s) call room = cond (nat_lt room packet_of_one) (Err packet.Room) (Ok (called_on call s))

abbrev pub reacted : Option Stream → Call → ℕ → ℕ → Result Outcome PacketRefusal
reacted h call size room = cond (wrong_size size) (Err packet.Size) (reacted_by h call room)

-- local resume
abbrev pub resumed_by : Option Stream → Result Stream ChangeRefusal
resumed_by None = Err change.NoStream
resumed_by (Some s) = Ok (local_resume_row s.state s).stream

abbrev pub resumed : Option Stream → ℕ → Result Stream ChangeRefusal
resumed h size = cond (wrong_size size) (Err change.Size) (resumed_by h)

-- send: the record of a held stream is the same after it
abbrev pub sent_by : State → Stream → Sent
sent_by Playing s = record { stream = with_next s; number = Ok s.next }
sent_by (Pausing d) s = record { stream = with_next s; number = Ok s.next }
sent_by Paused s = record { stream = s; number = Err (record {}) }
sent_by LocalPaused s = record { stream = s; number = Err (record {}) }

abbrev pub sent_of : Option Stream → Result Sent SendRefusal
sent_of None = Err send.NoStream
sent_of (Some s) = Ok (sent_by s.state s)

abbrev pub sent : Option Stream → ℕ → Result Sent SendRefusal
sent h size = cond (wrong_size size) (Err send.Size) (sent_of h)

-- a datagram before its first event: "Size, 1, then packet by packet 2 to 9"
abbrev pub opened_by : Result ℕ Refusal → Result ℕ DatagramRefusal
opened_by (Err refusal) = Err (datagram.Refused refusal)
opened_by (Ok n) = Ok n

abbrev pub opened : ℕ → Result ℕ Refusal → Result ℕ DatagramRefusal
opened size checked = cond (wrong_size size) (Err datagram.Size) (opened_by checked)

-- "then Room", judged on the entries of every type; what is refused already stays so
abbrev pub roomed : Result ℕ DatagramRefusal → ℕ → Result ℕ DatagramRefusal
roomed (Err refusal) room = Err refusal
roomed (Ok n) room = cond (no_room n room) (Err datagram.Room) (Ok n)

-- one entry of a datagram; of a stranger's nothing comes
abbrev pub taken : Option Stream → Entry → ℕ → Option Outcome
taken None e t = None
taken (Some s) e t = Some (received (message_of e.kind) (record { 0 = e.id }) t s)

-- add, at the place of the record with the SSRC and that of the first not in use
abbrev pub placed_at : Option ℕ → Option ℕ → Stream → Result (ℕ × Stream) AddRefusal
placed_at (Some i) vacant s = Err add.Duplicate
placed_at None (Some j) s = Ok (j, s)
placed_at None None s = Err add.Full

abbrev pub admitted_by : Result Stream Limit → Option ℕ → Option ℕ → Result (ℕ × Stream) AddRefusal
admitted_by (Err limit) found vacant = Err add.Limit
admitted_by (Ok s) found vacant = placed_at found vacant s

abbrev pub admission : Result Stream Limit → ℕ → Option ℕ → Option ℕ → Result (ℕ × Stream) AddRefusal
admission new size found vacant = cond (wrong_size size) (Err add.Size) (admitted_by new (inside size found) (inside size vacant))
