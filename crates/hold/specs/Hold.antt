-- "Once I put a camera stream on hold, what can start it again?" Only you: what that says. proofs/Hold.antt proves it for every way of keeping records that
-- reads back what it stores, and so for rows of numbers and for records themselves.
use Rattle.std.specs.Prelude.{true, ◌≡◌, List, [], ◌∷◌, ℕ}
use Rattle.stream.specs.Rules
use Rattle.stream.specs.declared.State.TheVariants.{Playing, LocalPaused}
use Rattle.stream.specs.declared.Stream.{Stream}
use Rattle.sender.specs.Calls.{Came, reply_call}
use Rattle.sender.specs.Keeping.{Keeping}
use Rattle.sender.specs.Serve.{answers, place}
use Rattle.apart.specs.Apart.{record_at, ssrc_at, InUse, NoTwo}
use Rattle.apart.specs.Calls.{Call, datagram, local_pause, time, report, local_resume, send, made}
use Rattle.apart.specs.Run.{run}

-- ---- you put the stream on hold

-- the local pause for it, by the definition that its contract cites
abbrev pub paused : {A : Type 0} → Keeping A → ℕ → List ℕ → List A → Came A
paused K x buffer t = reply_call K Rules.local_pause x t buffer

-- case 0, Done
abbrev pub Done : {A : Type 0} → Came A → Type 0
Done came = came.said.0 ≡ 0

-- it was answered Done; a refusal (10 Room, 11 Size, 12 NoStream) puts nothing on hold
abbrev pub PutOnHold : {A : Type 0} → Keeping A → ℕ → List ℕ → List A → Type 0
PutOnHold K x buffer t = Done (paused K x buffer t)

-- ---- what follows is not yours

-- A call of anybody, but for the owner's own local resume for this stream. (Add and remove are not among the calls.)
abbrev pub NotYours : ℕ → Call → Type 0
NotYours x (datagram bytes t buffer) = Unit
NotYours x (local_pause ssrc buffer) = Unit
NotYours x (time ssrc t buffer) = Unit
NotYours x (report ssrc buffer) = Unit
NotYours x (local_resume ssrc) = ¬ (ssrc ≡ x)
NotYours x (send ssrc) = Unit

abbrev pub WithoutYou : ℕ → List Call → Type 0
WithoutYou x [] = Unit
WithoutYou x (call ∷ calls) = NotYours x call × WithoutYou x calls

-- the table after the hold and the calls that followed it
abbrev pub after : {A : Type 0} → Keeping A → ℕ → List ℕ → List Call → List A → List A
after K x buffer calls t = (run K calls (paused K x buffer t).table).table

-- ---- and it stays on hold

-- on hold: Local paused
abbrev pub OnHold : Stream → Type 0
OnHold s = s.state ≡ LocalPaused

-- what answers for the stream: "The first record in use with an SSRC answers for it."
abbrev pub record_of : {A : Type 0} → Keeping A → ℕ → List A → Stream
record_of K x t = record_at K t (place K t x)

-- case 13, Held, with place 0
abbrev pub held : ℕ × List ℕ
held = (13, 0 ∷ [])

-- a send for this stream said Held; of other calls nothing is asked
abbrev pub SaidHeld : ℕ → Call → ℕ × List ℕ → Type 0
SaidHeld x (datagram bytes t buffer) said = Unit
SaidHeld x (local_pause ssrc buffer) said = Unit
SaidHeld x (time ssrc t buffer) said = Unit
SaidHeld x (report ssrc buffer) said = Unit
SaidHeld x (local_resume ssrc) said = Unit
SaidHeld x (send ssrc) said = ssrc ≡ x → said ≡ held

-- so for each call of a run, on the table that the one before it left
abbrev pub SendsHeld : {A : Type 0} → Keeping A → ℕ → List Call → List A → Type 0
SendsHeld K x [] t = Unit
SendsHeld K x (call ∷ calls) t = SaidHeld x call (made K call t).said × SendsHeld K x calls (made K call t).table

-- ---- only you

-- what is so of the stream x, put on hold on the table t, after the calls that followed
pub record Hold {A : Type 0} (K : Keeping A) (x : ℕ) (buffer : List ℕ) (calls : List Call) (t : List A) : Type 0 where
  -- it is in use, and what answers for it is on hold
  pub in_use : answers K (after K x buffer calls t) x ≡ true
  pub on_hold : OnHold (record_of K x (after K x buffer calls t))
  -- where no two in use share an SSRC: the record in use with its SSRC, wherever it stands, is on hold
  pub on_hold_at : NoTwo K t → (i : ℕ) → InUse K (after K x buffer calls t) i → ssrc_at K (after K x buffer calls t) i ≡ x
      → OnHold (record_at K (after K x buffer calls t) i)
  -- every send for it among the calls was answered Held, and so is one made after them
  pub sends_held : SendsHeld K x calls (paused K x buffer t).table
  pub next_send_held : (made K (send x) (after K x buffer calls t)).said ≡ held
  -- and you can: the owner's own local resume is answered Done, and it plays
  pub you_can : ((made K (local_resume x) (after K x buffer calls t)).said ≡ (0, []))
      × ((record_of K x (made K (local_resume x) (after K x buffer calls t)).table).state ≡ Playing)
