-- Document 02, "One. We pause other people's streams too": this request's rules for one stream, as one function of an event and a record.
use Rattle.std.specs.Prelude.{ℕ, ◌%◌, ◌^◌, List, [], ◌∷◌, Option, None, Result, Ok, Err}
use Rattle.counters.specs.declared.PauseId.{PauseId}
use Rattle.counters.specs.declared.Message.{Message}
use Rattle.remote.specs.Events.{ask_to_pause_row, ask_to_resume_row, report_row, media_row, received}
use Rattle.remote.specs.Said.{length_of, asked_said}
use Rattle.remote.specs.declared.Remote.{Remote}
use Rattle.remote.specs.declared.AskEntry.{AskEntry}
use Rattle.remote.specs.declared.Outcome.{Outcome}
use Rattle.remote.specs.declared.Busy.{Busy}

-- the events of the state table; a received entry has its type and the number that is its PauseID
pub data Event : Type 0 where
  entry : Message → ℕ → Event
  ask_to_pause : Event
  ask_to_resume : Event
  report : Event
  media_seen : Event

-- document 01, "One stream": "PauseID and RTP sequence number are both 16 bits"
abbrev pub pause_id : ℕ → PauseId
pause_id n = record { 0 = n % 2 ^ 16 }

-- the record that follows, the message, and what is answered: case and values
pub record Ruled : Type 0 where
  pub remote : Remote
  pub sent : Option AskEntry
  pub said : ℕ × List ℕ

-- what media seen and the entries of a datagram come to: nothing more is said
abbrev pub quietly : Outcome → Ruled
quietly o = record { remote = o.remote; sent = o.sent; said = (0, []) }

-- what a report comes to: the length of what goes out
abbrev pub with_length : Outcome → Ruled
with_length o = record { remote = o.remote; sent = o.sent; said = (0, length_of o.sent ∷ []) }

-- what an ask comes to; a refused one changes nothing
abbrev pub with_answer : Remote → Result Outcome Busy → Ruled
with_answer s (Ok o) = with_length o
with_answer s (Err busy) = record { remote = s; sent = None; said = asked_said (Err busy) }

unfoldable pub ruled : Event → Remote → Ruled
ruled (entry m n) s = quietly (received m (pause_id n) s)
ruled ask_to_pause s = with_answer s (ask_to_pause_row s.state s)
ruled ask_to_resume s = with_answer s (ask_to_resume_row s.state s)
ruled report s = with_length (report_row s.state s)
ruled media_seen s = quietly (media_row s.state s)
