-- Document 01, "Both sides of each line": the cases marked [P], in their order, as questions to the definitions that the contracts cite, and the answers that
-- the document prints.
use Rattle.std.specs.Prelude.{ℕ, Bool, true, false, List, [], ◌∷◌, ◌++◌, Option, Some, None}
use Rattle.rtcp.specs.Datagram.{Reading, refused, reading}
use Rattle.rtcp.specs.declared.Fault.TheVariants as fault
use Rattle.counters.specs.Clock.{deadline_of, is_due}
use Rattle.counters.specs.Counters.{judged}
use Rattle.stream.specs.Rules.{Event, entry, report, ruled}
use Rattle.counters.specs.declared.Judgement.{Judgement}
use Rattle.counters.specs.declared.Judgement.TheVariants.{Past, Future}
use Rattle.counters.specs.declared.Message.TheVariants.{Pause, Resume}
use Rattle.counters.specs.declared.Notice.{Notice}
use Rattle.counters.specs.declared.Notice.TheVariants as notice
use Rattle.stream.specs.declared.ReplyEntry.{ReplyEntry}
use Rattle.stream.specs.declared.State.{State}
use Rattle.stream.specs.declared.State.TheVariants.{Playing, Paused, LocalPaused}
use Rattle.stream.specs.declared.Stream.{Stream}

-- what is asked
pub data Question : Type 0 where
  -- how a PauseID p is judged where c is current
  judged_with : (c p : ℕ) → Question
  -- the deadline of a PAUSE at a time, with a hold-off
  deadline_of_pause : (time holdoff : ℕ) → Question
  -- whether a deadline is due at a time
  due_at : (deadline time : ℕ) → Question
  -- what a stream is after some events, and what it replied
  after_events : Stream → List Event → Question
  -- how a datagram is read
  read_as : List ℕ → Question

-- what is answered
pub data Answer : Type 0 where
  judgement : Judgement → Answer
  number : ℕ → Answer
  is : Bool → Answer
  -- state, c, r, and the replies
  stream : State → ℕ → ℕ → List Notice → Answer
  datagram : Reading → Answer

abbrev pub notice_of : Option ReplyEntry → List Notice
notice_of None = []
notice_of (Some e) = e.notice ∷ []

-- the events one after the other, by the one-stream rules
abbrev pub followed : Stream → List Notice → List Event → Answer
followed s sent [] = stream s.state s.current.0 s.repeats sent
followed s sent (e ∷ es) = followed (ruled e s).stream (sent ++ notice_of (ruled e s).reply) es

abbrev pub answer : Question → Answer
answer (judged_with c p) = judgement (judged (record { 0 = p }) (record { 0 = c }))
answer (deadline_of_pause time holdoff) = number (deadline_of time holdoff)
answer (due_at deadline time) = is (is_due time deadline)
answer (after_events s es) = followed s [] es
answer (read_as bytes) = datagram (reading bytes)

pub record Line : Type 0 where
  pub asked : Question
  pub told : Answer

infix 5 ◌⇒◌
abbrev pub ◌⇒◌ : Question → Answer → Line
q ⇒ a = record { asked = q; told = a }

-- a stream of SSRC 1 in a state, with c, H and r
abbrev pub stream_in : State → ℕ → ℕ → ℕ → Stream
stream_in state c holdoff r =
    record { state = state; ssrc = 1; holdoff = holdoff; current = record { 0 = c }; next = record { 0 = 0 }; used = true; repeats = r }

abbrev pub PAUSE : ℕ → Event
PAUSE p = entry Pause (record { 0 = p }) 0

abbrev pub RESUME : ℕ → Event
RESUME p = entry Resume (record { 0 = p }) 0

-- the lines of the document; the last two hold for any bytes a to h
abbrev pub marked : (a b c d e f g h : ℕ) → List Line
marked a b c d e f g h =
    -- "c = 0: p = 32,767 future, 32,768 past. c = 65,535: p = 0 future."
    (judged_with 0 32767 ⇒ judgement Future)
    ∷ (judged_with 0 32768 ⇒ judgement Past)
    ∷ (judged_with 65535 0 ⇒ judgement Future)
    -- "Time 4,294,967,040 and H 400: deadline 144; 143 not due, 144 due, 2,147,483,791 due, 2,147,483,792 not."
    ∷ (deadline_of_pause 4294967040 400 ⇒ number 144)
    ∷ (due_at 144 143 ⇒ is false)
    ∷ (due_at 144 144 ⇒ is true)
    ∷ (due_at 144 2147483791 ⇒ is true)
    ∷ (due_at 144 2147483792 ⇒ is false)
    -- "RESUME 7 in Paused with c = 7: Playing, c = 8; again RESUME 7: nothing."
    ∷ (after_events (stream_in Paused 7 400 2) (RESUME 7 ∷ []) ⇒ stream Playing 8 0 [])
    ∷ (after_events (stream_in Paused 7 400 2) (RESUME 7 ∷ RESUME 7 ∷ []) ⇒ stream Playing 8 0 [])
    -- "c = 65,535 resumed: c = 0."
    ∷ (after_events (stream_in Paused 65535 400 2) (RESUME 65535 ∷ []) ⇒ stream Playing 0 0 [])
    -- "Local paused, RESUME current: REFUSED."
    ∷ (after_events (stream_in LocalPaused 7 400 2) (RESUME 7 ∷ []) ⇒ stream LocalPaused 7 2 (notice.Refused ∷ []))
    -- "H = 0, PAUSE current: Paused, r = 2."
    ∷ (after_events (stream_in Playing 7 0 0) (PAUSE 7 ∷ []) ⇒ stream Paused 7 2 (notice.Paused ∷ []))
    -- "r = 2: two reports send PAUSED, a third nothing."
    ∷ (after_events (stream_in Paused 7 400 2) (report ∷ report ∷ []) ⇒ stream Paused 7 0 (notice.Paused ∷ notice.Paused ∷ []))
    ∷ (after_events (stream_in Paused 7 400 2) (report ∷ report ∷ report ∷ []) ⇒ stream Paused 7 0 (notice.Paused ∷ notice.Paused ∷ []))
    -- "Bytes 89 cd 00 02 and eight more: NoEntry; 89 cd 00 01 and four more: NoHead."
    ∷ (read_as (0x89 ∷ 0xcd ∷ 0x00 ∷ 0x02 ∷ a ∷ b ∷ c ∷ d ∷ e ∷ f ∷ g ∷ h ∷ []) ⇒ datagram (refused fault.NoEntry 0))
    ∷ (read_as (0x89 ∷ 0xcd ∷ 0x00 ∷ 0x01 ∷ a ∷ b ∷ c ∷ d ∷ []) ⇒ datagram (refused fault.NoHead 0))
    ∷ []
