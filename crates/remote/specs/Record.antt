-- Document 02, "One. We pause other people's streams too": a remote stream's record moved, a new one, and the messages.
use Rattle.std.specs.Prelude.{ℕ, true, Some, None}
use Rattle.counters.specs.declared.PauseId.{PauseId}
use Rattle.remote.specs.declared.State.{State}
use Rattle.remote.specs.declared.State.TheVariants.{Receiving}
use Rattle.remote.specs.declared.Remote.{Remote}
use Rattle.remote.specs.declared.Ask.{Ask}
use Rattle.remote.specs.declared.Ask.TheVariants as ask
use Rattle.remote.specs.declared.Outcome.{Outcome}

-- the record with another state and another believed ID
abbrev pub moved : Remote → State → PauseId → Remote
moved s state id = record { ssrc = s.ssrc; id = id; state = state; used = s.used }

-- the record in another state; the ID stays
abbrev pub to : State → Remote → Remote
to state s = moved s state s.id

-- "A stream is added in Receiving with an ID."
abbrev pub start_of : ℕ → PauseId → Remote
start_of ssrc id = record { ssrc = ssrc; id = id; state = Receiving; used = true }

-- the record that follows, with no message
abbrev pub silent : Remote → Outcome
silent s = record { remote = s; sent = None }

-- the record that follows, with a message about the stream that carries the ID believed then: "An ask sends PAUSE … or RESUME … with that ID"
abbrev pub asking : Ask → Remote → Outcome
asking message s = record { remote = s; sent = Some (record { target = s.ssrc; ask = message; id = s.id }) }

-- document 01, "The RTCP datagram": "Types: 0 PAUSE, 1 RESUME"
abbrev pub type_of : Ask → ℕ
type_of ask.Pause = 0
type_of ask.Resume = 1
