-- Document 01, "One stream": the state table. One definition a row, one clause a state, in the order of the table. `silent s` with the record as it was is
-- the table's "-": no change and no reply.
use Rattle.std.specs.Prelude.{ℕ, ◌-◌, cond, List, [], ◌∷◌, eqb}
use Rattle.counters.specs.Clock.{is_due}
use Rattle.counters.specs.Counters.{judged}
use Rattle.stream.specs.Record.{to_playing, to_pausing, to_paused, to_local_paused, with_repeats, with_next, silent, PAUSED, REFUSED}
use Rattle.counters.specs.declared.PauseId.{PauseId}
use Rattle.counters.specs.declared.Judgement.{Judgement}
use Rattle.counters.specs.declared.Judgement.TheVariants.{Past, Current, Future}
use Rattle.counters.specs.declared.Message.{Message}
use Rattle.counters.specs.declared.Message.TheVariants as message
use Rattle.stream.specs.declared.State.{State}
use Rattle.stream.specs.declared.State.TheVariants.{Playing, Pausing, Paused, LocalPaused}
use Rattle.stream.specs.declared.Stream.{Stream}
use Rattle.stream.specs.declared.Outcome.{Outcome}

-- | PAUSE or RESUME, past | - | - | - | - |
abbrev pub past_row : State → Stream → Outcome
past_row Playing s = silent s
past_row (Pausing d) s = silent s
past_row Paused s = silent s
past_row LocalPaused s = silent s

-- | PAUSE or RESUME, future | REFUSED | REFUSED | REFUSED | REFUSED |
abbrev pub future_row : State → Stream → Outcome
future_row Playing s = REFUSED s
future_row (Pausing d) s = REFUSED s
future_row Paused s = REFUSED s
future_row LocalPaused s = REFUSED s

-- | PAUSE, current | to Pausing with deadline; if H = 0, to Paused, PAUSED | - | PAUSED | PAUSED |
abbrev pub pause_row : ℕ → State → Stream → Outcome
pause_row t Playing s = cond (eqb s.holdoff 0) (PAUSED (to_paused s)) (silent (to_pausing t s))
pause_row t (Pausing d) s = silent s
pause_row t Paused s = PAUSED s
pause_row t LocalPaused s = PAUSED s

-- | RESUME, current | - | to Playing | to Playing | REFUSED |
abbrev pub resume_row : State → Stream → Outcome
resume_row Playing s = silent s
resume_row (Pausing d) s = silent (to_playing s)
resume_row Paused s = silent (to_playing s)
resume_row LocalPaused s = REFUSED s

-- | time, due | - | to Paused, PAUSED | - | - |
abbrev pub time_row : ℕ → State → Stream → Outcome
time_row t Playing s = silent s
time_row t (Pausing d) s = cond (is_due t d) (PAUSED (to_paused s)) (silent s)
time_row t Paused s = silent s
time_row t LocalPaused s = silent s

-- | local pause | to Local paused, PAUSED | same | same | - |
abbrev pub local_pause_row : State → Stream → Outcome
local_pause_row Playing s = PAUSED (to_local_paused s)
local_pause_row (Pausing d) s = PAUSED (to_local_paused s)
local_pause_row Paused s = PAUSED (to_local_paused s)
local_pause_row LocalPaused s = silent s

-- | local resume | - | - | - | to Playing |
abbrev pub local_resume_row : State → Stream → Outcome
local_resume_row Playing s = silent s
local_resume_row (Pausing d) s = silent s
local_resume_row Paused s = silent s
local_resume_row LocalPaused s = silent (to_playing s)

-- "if r > 0: PAUSED, r less 1"
abbrev pub repeated : Stream → Outcome
repeated s = cond (eqb s.repeats 0) (silent s) (PAUSED (with_repeats (s.repeats - 1) s))

-- | report | - | - | if r > 0: PAUSED, r less 1 | same as Paused |
abbrev pub report_row : State → Stream → Outcome
report_row Playing s = silent s
report_row (Pausing d) s = silent s
report_row Paused s = repeated s
report_row LocalPaused s = repeated s

-- the record after a send: the sequence number has advanced where one was given
-- | send | number | number | Held | Held |
abbrev pub send_row : State → Stream → Stream × (ℕ × List ℕ)
send_row Playing s = (with_next s, (0, s.next.0 ∷ []))
send_row (Pausing d) s = (with_next s, (0, s.next.0 ∷ []))
send_row Paused s = (s, (13, 0 ∷ []))
send_row LocalPaused s = (s, (13, 0 ∷ []))

-- the first four rows: a received PAUSE or RESUME goes by the judgement of its PauseID. "A received PAUSED or REFUSED does nothing here"; types 4 to 15
-- are passed over.
abbrev pub by_judgement : ℕ → Message → Judgement → Stream → Outcome
by_judgement t message.Pause Past s = past_row s.state s
by_judgement t message.Pause Current s = pause_row t s.state s
by_judgement t message.Pause Future s = future_row s.state s
by_judgement t message.Resume Past s = past_row s.state s
by_judgement t message.Resume Current s = resume_row s.state s
by_judgement t message.Resume Future s = future_row s.state s
by_judgement t message.Paused j s = silent s
by_judgement t message.Refused j s = silent s
by_judgement t message.Reserved j s = silent s

unfoldable pub received : Message → PauseId → ℕ → Stream → Outcome
received m p t s = by_judgement t m (judged p s.current) s
