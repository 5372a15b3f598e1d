-- Document 02, "One. We pause other people's streams too", as a state table. One definition a row, one clause a state. `silent s` with the record as it was is
-- the table's "-": no change and no message.
--
-- | event | Receiving | Asked to pause | Paused | Asked to resume |
-- |---|---|---|---|---|
-- | ask to pause | PAUSE, to Asked to pause | Busy | - | Busy |
-- | ask to resume | - | Busy | RESUME, to Asked to resume | Busy |
-- | report | - | PAUSE, one left less; with none left to Receiving | - | RESUME, one left less; with none left to Paused |
-- | PAUSED | to Paused with its ID | same | same | its ID |
-- | REFUSED | - | to Receiving with its ID | - | to Paused with its ID |
-- | media seen | - | - | to Receiving, ID and 1 | same |
-- | PAUSE or RESUME | - | - | - | - |
use Rattle.std.specs.Prelude.{ℕ, ◌-◌, cond, eqb, Result, Ok, Err}
use Rattle.counters.specs.Counters.{id_after}
use Rattle.counters.specs.declared.PauseId.{PauseId}
use Rattle.counters.specs.declared.Message.{Message}
use Rattle.counters.specs.declared.Message.TheVariants as message
use Rattle.remote.specs.Record.{moved, to, silent, asking}
use Rattle.remote.specs.declared.State.{State}
use Rattle.remote.specs.declared.State.TheVariants.{Receiving, AskedToPause, Paused, AskedToResume}
use Rattle.remote.specs.declared.Remote.{Remote}
use Rattle.remote.specs.declared.Ask.TheVariants as ask
use Rattle.remote.specs.declared.Busy.{Busy}
use Rattle.remote.specs.declared.Outcome.{Outcome}

-- "four reports repeat it"
abbrev pub repeats : ℕ
repeats = 4

-- no leave to ask
abbrev pub busy : Busy
busy = record {}

-- "An ask sends PAUSE (in Receiving) … the other ask does nothing"; "18 Busy, for asking while Asked"
abbrev pub ask_to_pause_row : State → Remote → Result Outcome Busy
ask_to_pause_row Receiving s = Ok (asking ask.Pause (to (AskedToPause repeats) s))
ask_to_pause_row (AskedToPause left) s = Err busy
ask_to_pause_row Paused s = Ok (silent s)
ask_to_pause_row (AskedToResume left) s = Err busy

-- "or RESUME (in Paused; the other ask does nothing)"; "18 Busy, for asking while Asked"
abbrev pub ask_to_resume_row : State → Remote → Result Outcome Busy
ask_to_resume_row Receiving s = Ok (silent s)
ask_to_resume_row (AskedToPause left) s = Err busy
ask_to_resume_row Paused s = Ok (asking ask.Resume (to (AskedToResume repeats) s))
ask_to_resume_row (AskedToResume left) s = Err busy

-- "four reports repeat it, with the ID believed at that report, the fifth drops back to the state asked from and sends nothing". A lent record may have more
-- than four left: it is followed as it stands.
abbrev pub repeated_pause : ℕ → Remote → Outcome
repeated_pause left s = cond (eqb left 0) (silent (to Receiving s)) (asking ask.Pause (to (AskedToPause (left - 1)) s))

abbrev pub repeated_resume : ℕ → Remote → Outcome
repeated_resume left s = cond (eqb left 0) (silent (to Paused s)) (asking ask.Resume (to (AskedToResume (left - 1)) s))

abbrev pub report_row : State → Remote → Outcome
report_row Receiving s = silent s
report_row (AskedToPause left) s = repeated_pause left s
report_row Paused s = silent s
report_row (AskedToResume left) s = repeated_resume left s

-- "PAUSED sets the ID and gives Paused from any state but Asked to resume, where it only sets the ID."
abbrev pub paused_row : PauseId → State → Remote → Outcome
paused_row id Receiving s = silent (moved s Paused id)
paused_row id (AskedToPause left) s = silent (moved s Paused id)
paused_row id Paused s = silent (moved s Paused id)
paused_row id (AskedToResume left) s = silent (moved s (AskedToResume left) id)

-- "REFUSED sets the ID and drops back; in Receiving and Paused it does nothing."
abbrev pub refused_row : PauseId → State → Remote → Outcome
refused_row id Receiving s = silent s
refused_row id (AskedToPause left) s = silent (moved s Receiving id)
refused_row id Paused s = silent s
refused_row id (AskedToResume left) s = silent (moved s Paused id)

-- "Media seen in Paused or Asked to resume gives Receiving and adds 1 to the ID; elsewhere it does nothing."
abbrev pub media_row : State → Remote → Outcome
media_row Receiving s = silent s
media_row (AskedToPause left) s = silent s
media_row Paused s = silent (moved s Receiving (id_after s.id))
media_row (AskedToResume left) s = silent (moved s Receiving (id_after s.id))

-- a received entry, by its type: "here PAUSE and RESUME do nothing"; types 4 to 15 are passed over
abbrev pub received : Message → PauseId → Remote → Outcome
received message.Pause id s = silent s
received message.Resume id s = silent s
received message.Paused id s = paused_row id s.state s
received message.Refused id s = refused_row id s.state s
received message.Reserved id s = silent s
