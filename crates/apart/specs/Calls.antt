-- Demand 3, streams are apart: a call of a run, and what the table's contracts promise of it.
use Rattle.std.specs.Prelude.{List, [], map, ℕ, ◌≤◌, length}
use Rattle.stream.specs.Rules.{Event}
use Rattle.stream.specs.Rules
use Rattle.sides.specs.Run.{asked}
use Rattle.sides.specs.Run as side
use Rattle.sender.specs.Calls.{Came, sender}
use Rattle.sender.specs.Keeping.{Keeping}
use Rattle.sender.specs.Replies.{most_reply}

-- A datagram with its time and its reply buffer; each local call with its SSRC, and its reply buffer where it may reply. Add and remove are not among them.
pub data Call : Type 0 where
  datagram : (bytes : List ℕ) (time : ℕ) (buffer : List ℕ) → Call
  local_pause : (ssrc : ℕ) (buffer : List ℕ) → Call
  time : (ssrc : ℕ) (time : ℕ) (buffer : List ℕ) → Call
  report : (ssrc : ℕ) (buffer : List ℕ) → Call
  local_resume : (ssrc : ℕ) → Call
  send : (ssrc : ℕ) → Call

-- as a call of any side: a local call is an event for its SSRC
abbrev pub as_call : Call → side.Call Event
as_call (datagram bytes t buffer) = side.datagram bytes t buffer
as_call (local_pause ssrc buffer) = asked Rules.local_pause ssrc buffer
as_call (time ssrc t buffer) = asked (Rules.time t) ssrc buffer
as_call (report ssrc buffer) = asked Rules.report ssrc buffer
as_call (local_resume ssrc) = asked Rules.local_resume ssrc []
as_call (send ssrc) = asked Rules.send ssrc []

abbrev pub as_calls : List Call → List (side.Call Event)
as_calls calls = map as_call calls

-- what a call leaves behind, by the definition that its contract cites (the crate `tied` holds each contract to it)
abbrev pub made : {A : Type 0} → Keeping A → Call → List A → Came A
made K call t = side.made sender K (as_call call) t

-- the reply buffer as it was lent
abbrev pub buffer_of : Call → List ℕ
buffer_of call = side.buffer_of (as_call call)

-- the reply buffer: "buffers of 3,720 bytes or more"
abbrev pub Roomy : Call → Type 0
Roomy (datagram bytes t buffer) = most_reply ≤ length buffer
Roomy (local_pause ssrc buffer) = most_reply ≤ length buffer
Roomy (time ssrc t buffer) = most_reply ≤ length buffer
Roomy (report ssrc buffer) = most_reply ≤ length buffer
Roomy (local_resume ssrc) = Unit
Roomy (send ssrc) = Unit
