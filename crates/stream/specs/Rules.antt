-- Document 01, "One stream": the one-stream rules as one function of an event and a record. "Each event takes one stream's record and hands back the
-- record that follows, with at most one reply entry."
use Rattle.std.specs.Prelude.{ℕ, List, [], Option, None}
use Rattle.stream.specs.Events.{received, time_row, local_pause_row, local_resume_row, report_row, send_row}
use Rattle.counters.specs.declared.PauseId.{PauseId}
use Rattle.counters.specs.declared.Message.{Message}
use Rattle.stream.specs.declared.Stream.{Stream}
use Rattle.stream.specs.declared.ReplyEntry.{ReplyEntry}
use Rattle.stream.specs.declared.Outcome.{Outcome}

-- the events of the state table; a received entry has its type, its PauseID and its datagram's time
pub data Event : Type 0 where
  entry : Message → PauseId → ℕ → Event
  time : ℕ → Event
  local_pause : Event
  local_resume : Event
  report : Event
  send : Event

-- the record that follows, the reply, and what send gives: case and values
pub record Ruled : Type 0 where
  pub stream : Stream
  pub reply : Option ReplyEntry
  pub said : ℕ × List ℕ

abbrev pub with_reply : Outcome → Ruled
with_reply o = record { stream = o.stream; reply = o.reply; said = (0, []) }

abbrev pub with_number : Stream × (ℕ × List ℕ) → Ruled
with_number sent = record { stream = sent.0; reply = None; said = sent.1 }

unfoldable pub ruled : Event → Stream → Ruled
ruled (entry m p t) s = with_reply (received m p t s)
ruled (time t) s = with_reply (time_row t s.state s)
ruled local_pause s = with_reply (local_pause_row s.state s)
ruled local_resume s = with_reply (local_resume_row s.state s)
ruled report s = with_reply (report_row s.state s)
ruled send s = with_number (send_row s.state s)
