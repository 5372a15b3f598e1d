-- Document 02, "One": "Demands 2 and 3 then hold for each table". A call of a run on the receiver's table, and what the table's contracts promise of it.
use Rattle.std.specs.Prelude.{List, [], map, ℕ, ◌≤◌, length}
use Rattle.writer.specs.Writer.{packet_of_one}
use Rattle.remote.specs.Rules.{Event}
use Rattle.remote.specs.Rules
use Rattle.sides.specs.Run.{asked}
use Rattle.sides.specs.Run as side
use Rattle.receiver.specs.Calls.{Came, receiver}
use Rattle.receiver.specs.Keeping.{Keeping}

-- A datagram, which is lent no buffer and has no time; each local call with its SSRC, and its buffer where it may send. Add and remove are not among them.
pub data Call : Type 0 where
  datagram : (bytes : List ℕ) → Call
  ask_to_pause : (ssrc : ℕ) (buffer : List ℕ) → Call
  ask_to_resume : (ssrc : ℕ) (buffer : List ℕ) → Call
  report : (ssrc : ℕ) (buffer : List ℕ) → Call
  media_seen : (ssrc : ℕ) → Call

-- as a call of any side: a local call is an event for its SSRC
abbrev pub as_call : Call → side.Call Event
as_call (datagram bytes) = side.datagram bytes 0 []
as_call (ask_to_pause ssrc buffer) = asked Rules.ask_to_pause ssrc buffer
as_call (ask_to_resume ssrc buffer) = asked Rules.ask_to_resume ssrc buffer
as_call (report ssrc buffer) = asked Rules.report ssrc buffer
as_call (media_seen ssrc) = asked Rules.media_seen ssrc []

abbrev pub as_calls : List Call → List (side.Call Event)
as_calls calls = map as_call calls

-- what a call leaves behind, by the definition that its contract cites (the crate `tied` holds each contract to it)
abbrev pub made : {A : Type 0} → Keeping A → ℕ → Call → List A → Came A
made K house call t = side.made (receiver house) K (as_call call) t

-- the buffer as it was lent
abbrev pub buffer_of : Call → List ℕ
buffer_of call = side.buffer_of (as_call call)

-- The buffer of a call that may send holds a message. Demand 3 speaks of 3,720 bytes or more; on this side 20 are enough.
abbrev pub Roomy : Call → Type 0
Roomy (datagram bytes) = Unit
Roomy (ask_to_pause ssrc buffer) = packet_of_one ≤ length buffer
Roomy (ask_to_resume ssrc buffer) = packet_of_one ≤ length buffer
Roomy (report ssrc buffer) = packet_of_one ≤ length buffer
Roomy (media_seen ssrc) = Unit
