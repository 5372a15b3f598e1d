-- What every event of the state table keeps: "in use" and the SSRC stay, a reply has the stream's own SSRC as its target, and the counters stay within
-- their widths. That streams are apart rests on these laws and not on the rules' texts; what a call decides, what passes and what a hold keeps look at the rows.
-- Assumes nothing.
use Prim.Native.Nat.{ℕ, ◌+◌, ◌-◌, ◌^◌, ◌<◌}
use mathlib.Core.Path.{◌≡◌, refl}
use mathlib.Core.Bool.{Bool, true, false, cond}
use native.Mathlib.Nat.{mod-lt}
use native.Mathlib.Omega.{arith}
use lib.Dec.{eqb, lit<}
use Rattle.std.specs.Prelude.{Option, Some, None}
use Rattle.counters.specs.Clock.{deadline_of, is_due}
use Rattle.counters.specs.Counters.{id_after, judged}
use Rattle.stream.specs.Record.{moved, to_playing, to_pausing, to_paused, to_local_paused, silent, replying, PAUSED}
use Rattle.stream.specs.Events.{past_row, future_row, pause_row, resume_row, time_row, local_pause_row, local_resume_row, repeated, report_row, send_row, by_judgement, received}
use Rattle.stream.specs.Rules.{Event, entry, time, local_pause, local_resume, report, send, Ruled, with_reply, with_number, ruled}
use Rattle.counters.specs.declared.PauseId.{PauseId}
use Rattle.counters.specs.declared.Judgement.{Judgement}
use Rattle.counters.specs.declared.Judgement.TheVariants.{Past, Current, Future}
use Rattle.counters.specs.declared.Message.{Message}
use Rattle.counters.specs.declared.Message.TheVariants as message
use Rattle.stream.specs.declared.State.{State}
use Rattle.stream.specs.declared.State.TheVariants.{Playing, Pausing, Paused, LocalPaused}
use Rattle.stream.specs.declared.Stream.{Stream}
use Rattle.counters.specs.declared.Notice.{Notice}
use Rattle.counters.specs.declared.Notice.TheVariants as notice
use Rattle.stream.specs.declared.ReplyEntry.{ReplyEntry}
use Rattle.stream.specs.declared.Outcome.{Outcome}
use Rattle.stream.proofs.Rows.{past_silent, future_refused}

-- a reply is for the SSRC x
abbrev pub For : ℕ → Option ReplyEntry → Type 0
For x None = Unit {0}
For x (Some e) = e.target ≡ x

-- the counters of a record are within their widths: 16 bits for c and the next number, 8 for r
pub record Fits (s : Stream) : Type 0 where
  pub current : s.current.0 < 2 ^ 16
  pub next : s.next.0 < 2 ^ 16
  pub repeats : s.repeats < 2 ^ 8

-- what an event keeps of a record
pub record Kept (s : Stream) (r : Ruled) : Type 0 where
  pub used : r.stream.used ≡ s.used
  pub ssrc : r.stream.ssrc ≡ s.ssrc
  pub own : For s.ssrc r.reply
  pub fits : Fits s → Fits r.stream

abbrev KeptBy : Stream → Outcome → Type 0
KeptBy s o = Kept s (with_reply o)

-- "no change and no reply", and the replies that change nothing
stays : (s : Stream) → KeptBy s (silent s)
stays s = record { used = refl; ssrc = refl; own = tt; fits = λ f. f }

says : (s : Stream) (kind : Notice) → KeptBy s (replying kind s)
says s kind = record { used = refl; ssrc = refl; own = refl; fits = λ f. f }

module _ (s : Stream) (state : State) (c : PauseId) (r : ℕ) (hc : Fits s → c.0 < 2 ^ 16) (hr : Fits s → r < 2 ^ 8) where
  moved_fits : Fits s → Fits (moved s state c r)
  moved_fits f = record { current = hc f; next = f.next; repeats = hr f }

  moves : KeptBy s (silent (moved s state c r))
  moves = record { used = refl; ssrc = refl; own = tt; fits = moved_fits }

  moves_saying : (kind : Notice) → KeptBy s (replying kind (moved s state c r))
  moves_saying kind = record { used = refl; ssrc = refl; own = refl; fits = moved_fits }

picked : {s : Stream} (b : Bool) {x y : Outcome} → KeptBy s x → KeptBy s y → KeptBy s (cond b x y)
picked true k l = k
picked false k l = l

playing : (s : Stream) → KeptBy s (silent (to_playing s))
playing s = moves s Playing (id_after s.current) 0 (λ f. mod-lt (s.current.0 + 1) (lit< tt)) (λ f. lit< tt)

pausing : (t : ℕ) (s : Stream) → KeptBy s (silent (to_pausing t s))
pausing t s = moves s (Pausing (deadline_of t s.holdoff)) s.current s.repeats (λ f. f.current) (λ f. f.repeats)

paused : (s : Stream) → KeptBy s (PAUSED (to_paused s))
paused s = moves_saying s Paused s.current 2 (λ f. f.current) (λ f. lit< tt) notice.Paused

local_paused : (s : Stream) → KeptBy s (PAUSED (to_local_paused s))
local_paused s = moves_saying s LocalPaused s.current 2 (λ f. f.current) (λ f. lit< tt) notice.Paused

past_keeps : (state : State) (s : Stream) → KeptBy s (past_row state s)
past_keeps state s = rw (← past_silent state s) (stays s)

future_keeps : (state : State) (s : Stream) → KeptBy s (future_row state s)
future_keeps state s = rw (← future_refused state s) (says s notice.Refused)

pause_keeps : (t : ℕ) (state : State) (s : Stream) → KeptBy s (pause_row t state s)
pause_keeps t Playing s = picked (eqb s.holdoff 0) (paused s) (pausing t s)
pause_keeps t (Pausing d) s = stays s
pause_keeps t Paused s = says s notice.Paused
pause_keeps t LocalPaused s = says s notice.Paused

resume_keeps : (state : State) (s : Stream) → KeptBy s (resume_row state s)
resume_keeps Playing s = stays s
resume_keeps (Pausing d) s = playing s
resume_keeps Paused s = playing s
resume_keeps LocalPaused s = says s notice.Refused

time_keeps : (t : ℕ) (state : State) (s : Stream) → KeptBy s (time_row t state s)
time_keeps t Playing s = stays s
time_keeps t (Pausing d) s = picked (is_due t d) (paused s) (stays s)
time_keeps t Paused s = stays s
time_keeps t LocalPaused s = stays s

local_pause_keeps : (state : State) (s : Stream) → KeptBy s (local_pause_row state s)
local_pause_keeps Playing s = local_paused s
local_pause_keeps (Pausing d) s = local_paused s
local_pause_keeps Paused s = local_paused s
local_pause_keeps LocalPaused s = stays s

local_resume_keeps : (state : State) (s : Stream) → KeptBy s (local_resume_row state s)
local_resume_keeps Playing s = stays s
local_resume_keeps (Pausing d) s = stays s
local_resume_keeps Paused s = stays s
local_resume_keeps LocalPaused s = playing s

repeated_keeps : (s : Stream) → KeptBy s (repeated s)
repeated_keeps s =
    picked (eqb s.repeats 0) (stays s)
    (moves_saying s s.state s.current (s.repeats - 1) (λ f. f.current) (λ f. omega (arith, f.repeats)) notice.Paused)

report_keeps : (state : State) (s : Stream) → KeptBy s (report_row state s)
report_keeps Playing s = stays s
report_keeps (Pausing d) s = stays s
report_keeps Paused s = repeated_keeps s
report_keeps LocalPaused s = repeated_keeps s

numbered_keeps : (s : Stream) → Kept s (with_number (send_row Playing s))
numbered_keeps s =
    record {
      used = refl;
      ssrc = refl;
      own = tt;
      fits = λ f. record { current = f.current; next = mod-lt (s.next.0 + 1) (lit< tt); repeats = f.repeats };
    }

held_keeps : (s : Stream) → Kept s (with_number (send_row Paused s))
held_keeps s = record { used = refl; ssrc = refl; own = tt; fits = λ f. f }

send_keeps : (state : State) (s : Stream) → Kept s (with_number (send_row state s))
send_keeps Playing s = numbered_keeps s
send_keeps (Pausing d) s = numbered_keeps s
send_keeps Paused s = held_keeps s
send_keeps LocalPaused s = held_keeps s

by_judgement_keeps : (t : ℕ) (m : Message) (j : Judgement) (s : Stream) → KeptBy s (by_judgement t m j s)
by_judgement_keeps t message.Pause Past s = past_keeps s.state s
by_judgement_keeps t message.Pause Current s = pause_keeps t s.state s
by_judgement_keeps t message.Pause Future s = future_keeps s.state s
by_judgement_keeps t message.Resume Past s = past_keeps s.state s
by_judgement_keeps t message.Resume Current s = resume_keeps s.state s
by_judgement_keeps t message.Resume Future s = future_keeps s.state s
by_judgement_keeps t message.Paused j s = stays s
by_judgement_keeps t message.Refused j s = stays s
by_judgement_keeps t message.Reserved j s = stays s

-- Every event keeps "in use" and the SSRC, replies only for its own stream, and leaves the counters within their widths.
pub keeps : (e : Event) (s : Stream) → Kept s (ruled e s)
unfolding ruled received
keeps (entry m p t) s = by_judgement_keeps t m (judged p s.current) s
keeps (time t) s = time_keeps t s.state s
keeps local_pause s = local_pause_keeps s.state s
keeps local_resume s = local_resume_keeps s.state s
keeps report s = report_keeps s.state s
keeps send s = send_keeps s.state s
