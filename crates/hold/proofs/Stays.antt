-- One stream: a local pause puts it on hold, every event but a local resume leaves it so, a send then says Held, and a local resume starts it.
-- Assumes nothing.
use Prim.Native.Nat.{ℕ, ◌-◌}
use mathlib.Core.Path.{◌≡◌, refl, ap, ◌∙◌}
use mathlib.Core.Bool.{Bool, true, false, cond}
use lib.Dec.{eqb}
use Rattle.counters.specs.Counters.{judged}
use Rattle.stream.specs.Events.{local_pause_row, repeated, report_row, by_judgement, received}
use Rattle.stream.specs.Record.{PAUSED, silent, with_repeats}
use Rattle.stream.specs.Rules.{Event, entry, time, local_pause, local_resume, report, send, ruled}
use Rattle.counters.specs.declared.Judgement.{Judgement}
use Rattle.counters.specs.declared.Judgement.TheVariants.{Past, Current, Future}
use Rattle.counters.specs.declared.Message.{Message}
use Rattle.counters.specs.declared.Message.TheVariants as message
use Rattle.stream.specs.declared.Outcome.{Outcome}
use Rattle.stream.specs.declared.State.{State}
use Rattle.stream.specs.declared.State.TheVariants.{Playing, Pausing, Paused, LocalPaused}
use Rattle.stream.specs.declared.Stream.{Stream}
use Rattle.hold.specs.Hold.{OnHold, held}

-- every event but a local resume
abbrev pub NoResume : Event → Type 0
NoResume (entry m p t) = Unit
NoResume (time t) = Unit
NoResume local_pause = Unit
NoResume local_resume = ⊥
NoResume report = Unit
NoResume send = Unit

pub pause_holds : (s : Stream) → OnHold (ruled local_pause s).stream
unfolding ruled
pause_holds s = go s.state refl
  where
    go : (state : State) → s.state ≡ state → OnHold (local_pause_row state s).stream
    go Playing e = refl
    go (Pausing d) e = refl
    go Paused e = refl
    go LocalPaused e = e

-- a received entry, by its message and the judgement of its PauseID
entry_stays : (t : ℕ) (m : Message) (j : Judgement) (s : Stream) → OnHold s → OnHold (by_judgement t m j s).stream
entry_stays t message.Pause Past s h = rw h
entry_stays t message.Pause Current s h = rw h
entry_stays t message.Pause Future s h = rw h
entry_stays t message.Resume Past s h = rw h
entry_stays t message.Resume Current s h = rw h
entry_stays t message.Resume Future s h = rw h
entry_stays t message.Paused j s h = h
entry_stays t message.Refused j s h = h
entry_stays t message.Reserved j s h = h

repeat_stays : (s : Stream) → OnHold s → OnHold (repeated s).stream
repeat_stays s h = go (eqb s.repeats 0)
  where
    go : (b : Bool) → OnHold (cond b (silent s) (PAUSED (with_repeats (s.repeats - 1) s))).stream
    go true = h
    go false = h

pub event_stays : (e : Event) (s : Stream) → NoResume e → OnHold s → OnHold (ruled e s).stream
unfolding ruled received
event_stays (entry m p t) s other h = entry_stays t m (judged p s.current) s h
event_stays (time t) s other h = rw h
event_stays local_pause s other h = rw h
event_stays local_resume s other h = absurd other
event_stays report s other h = ap (λ (o : Outcome). o.stream.state) (ap (λ state. report_row state s) h) ∙ repeat_stays s h
event_stays send s other h = rw h

pub send_held : (s : Stream) → OnHold s → (ruled send s).said ≡ held
unfolding ruled
send_held s h = rw h

pub resume_starts : (s : Stream) → OnHold s → (ruled local_resume s).stream.state ≡ Playing
unfolding ruled
resume_starts s h = rw h
