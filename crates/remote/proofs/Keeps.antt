-- What every event of the state table keeps: "in use" and the SSRC stay, a message has the stream's own SSRC as its target, what is refused stays and is silent,
-- and the numbers stay within their widths. That streams are apart rests on these laws and not on the rules' texts.
-- Assumes nothing.
use Rattle.std.specs.Prelude.{ℕ, ◌%◌, ◌^◌, ◌<◌, ◌≡◌, refl, Option, Some, None, Result, Ok, Err}
use mathlib.Core.Bool.{Bool, true, false, cond}
use mathlib.Core.List.{List}
use borrow.Author.Rules.{rules}
use native.Mathlib.Nat.{mod-lt}
use native.Mathlib.Omega.{arith}
use lib.Dec.{eqb, lit<}
use Rattle.counters.specs.declared.Message.{Message}
use Rattle.counters.specs.declared.Message.TheVariants as message
use Rattle.remote.specs.Events.{ask_to_pause_row, ask_to_resume_row, report_row, paused_row, refused_row, media_row, received}
use Rattle.remote.specs.Rules.{Event, entry, ask_to_pause, ask_to_resume, report, media_seen, pause_id, Ruled, with_answer, ruled}
use Rattle.remote.specs.declared.State.{State}
use Rattle.remote.specs.declared.State.TheVariants.{Receiving, AskedToPause, Paused, AskedToResume}
use Rattle.remote.specs.declared.Remote.{Remote}
use Rattle.remote.specs.declared.AskEntry.{AskEntry}
use Rattle.remote.specs.declared.Outcome.{Outcome}
use Rattle.remote.specs.declared.Busy.{Busy}

-- a message is for the SSRC x
abbrev pub For : ℕ → Option AskEntry → Type 0
For x None = Unit {0}
For x (Some e) = e.target ≡ x

-- the numbers of a record are within their widths: 16 bits for the ID, 8 for what is left of an ask
abbrev pub FewLeft : State → Type 0
FewLeft Receiving = Unit {0}
FewLeft (AskedToPause left) = left < 2 ^ 8
FewLeft Paused = Unit {0}
FewLeft (AskedToResume left) = left < 2 ^ 8

pub record Fits (s : Remote) : Type 0 where
  pub id : s.id.0 < 2 ^ 16
  pub left : FewLeft s.state

-- what an event keeps of a record
pub record Kept (s : Remote) (r : Ruled) : Type 0 where
  pub used : r.remote.used ≡ s.used
  pub ssrc : r.remote.ssrc ≡ s.ssrc
  pub own : For s.ssrc r.sent
  pub fits : Fits s → Fits r.remote
  pub stays : ¬ (r.said.0 ≡ 0) → r.remote ≡ s
  pub quiet : ¬ (r.said.0 ≡ 0) → r.sent ≡ None

-- what an outcome keeps, whatever is said with it
record KeptBy (s : Remote) (o : Outcome) : Type 0 where
  used : o.remote.used ≡ s.used
  ssrc : o.remote.ssrc ≡ s.ssrc
  own : For s.ssrc o.sent
  fits : Fits s → Fits o.remote

-- said with Done, case 0
done : {s : Remote} {o : Outcome} {values : List ℕ} → KeptBy s o → Kept s (record { remote = o.remote; sent = o.sent; said = (0, values) })
done k = record { used = k.used; ssrc = k.ssrc; own = k.own; fits = k.fits; stays = λ n. absurd (n refl); quiet = λ n. absurd (n refl) }

-- a number modulo 65,536 has 16 bits
sixteen : (n : ℕ) → n % 2 ^ 16 < 2 ^ 16
sixteen n = mod-lt n (lit< tt)

-- of what an ask comes to: what is refused has no record
abbrev KeptAs : Remote → Result Outcome Busy → Type 0
KeptAs s (Ok o) = KeptBy s o
KeptAs s (Err busy) = Unit {0}

answered : (s : Remote) (c : Result Outcome Busy) → KeptAs s c → Kept s (with_answer s c)
answered s (Ok o) k = done k
answered s (Err busy) k = record { stays = λ n. refl; quiet = λ n. refl; used = refl; ssrc = refl; own = tt; fits = λ f. record { id = omega (arith, f.id); left = search (rules, f.left) } }

-- Each clause shows the same of its cell, whatever the cell's text is: a wrong rule that breaks no law here is refused by the function that does not follow it.
module _ (s : Remote) where
  ask_to_pause_keeps : (state : State) → KeptAs s (ask_to_pause_row state s)
  ask_to_pause_keeps Receiving = search (rules, arith)
  ask_to_pause_keeps (AskedToPause left) = search (rules, arith)
  ask_to_pause_keeps Paused = search (rules, arith)
  ask_to_pause_keeps (AskedToResume left) = search (rules, arith)

  ask_to_resume_keeps : (state : State) → KeptAs s (ask_to_resume_row state s)
  ask_to_resume_keeps Receiving = search (rules, arith)
  ask_to_resume_keeps (AskedToPause left) = search (rules, arith)
  ask_to_resume_keeps Paused = search (rules, arith)
  ask_to_resume_keeps (AskedToResume left) = search (rules, arith)

  picked : (b : Bool) {x y : Outcome} → KeptBy s x → KeptBy s y → KeptBy s (cond b x y)
  picked true k l = k
  picked false k l = l

  report_keeps : (state : State) → (Fits s → FewLeft state) → KeptBy s (report_row state s)
  report_keeps Receiving few = search (rules, arith, few)
  report_keeps (AskedToPause left) few = picked (eqb left 0) (search (rules, arith, few)) (record { used = refl; ssrc = refl; own = search rules; fits = λ f. record { id = omega (arith, f.id); left = omega (arith, few f) } })
  report_keeps Paused few = search (rules, arith, few)
  report_keeps (AskedToResume left) few = picked (eqb left 0) (search (rules, arith, few)) (record { used = refl; ssrc = refl; own = search rules; fits = λ f. record { id = omega (arith, f.id); left = omega (arith, few f) } })

  module _ (n : ℕ) where
    paused_keeps : (state : State) → (Fits s → FewLeft state) → KeptBy s (paused_row (pause_id n) state s)
    paused_keeps Receiving few = search (rules, arith, few, sixteen)
    paused_keeps (AskedToPause left) few = search (rules, arith, few, sixteen)
    paused_keeps Paused few = search (rules, arith, few, sixteen)
    paused_keeps (AskedToResume left) few = search (rules, arith, few, sixteen)

    refused_keeps : (state : State) → (Fits s → FewLeft state) → KeptBy s (refused_row (pause_id n) state s)
    refused_keeps Receiving few = search (rules, arith, few, sixteen)
    refused_keeps (AskedToPause left) few = search (rules, arith, few, sixteen)
    refused_keeps Paused few = search (rules, arith, few, sixteen)
    refused_keeps (AskedToResume left) few = search (rules, arith, few, sixteen)

    paused : KeptBy s (paused_row (pause_id n) s.state s)
    paused = paused_keeps s.state (λ f. f.left)

    refused : KeptBy s (refused_row (pause_id n) s.state s)
    refused = refused_keeps s.state (λ f. f.left)

    received_keeps : (m : Message) → KeptBy s (received m (pause_id n) s)
    received_keeps message.Pause = search (rules, arith, paused, refused)
    received_keeps message.Resume = search (rules, arith, paused, refused)
    received_keeps message.Paused = search (rules, arith, paused, refused)
    received_keeps message.Refused = search (rules, arith, paused, refused)
    received_keeps message.Reserved = search (rules, arith, paused, refused)

  media_keeps : (state : State) → (Fits s → FewLeft state) → KeptBy s (media_row state s)
  media_keeps Receiving few = search (rules, arith, few, sixteen)
  media_keeps (AskedToPause left) few = search (rules, arith, few, sixteen)
  media_keeps Paused few = search (rules, arith, few, sixteen)
  media_keeps (AskedToResume left) few = search (rules, arith, few, sixteen)

  -- Every event keeps "in use" and the SSRC, sends only for its own stream, and leaves the numbers within their widths; what is refused changes nothing.
  pub keeps : (e : Event) → Kept s (ruled e s)
  unfolding ruled
  keeps (entry m n) = done (received_keeps n m)
  keeps ask_to_pause = answered s (ask_to_pause_row s.state s) (ask_to_pause_keeps s.state)
  keeps ask_to_resume = answered s (ask_to_resume_row s.state s) (ask_to_resume_keeps s.state)
  keeps report = done (report_keeps s.state (λ f. f.left))
  keeps media_seen = done (media_keeps s.state (λ f. f.left))
