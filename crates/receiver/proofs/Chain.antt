-- The local calls of the receiver's table as document 02 has them, refusal by refusal. For any way of keeping the records; an ask for any that stores what stands
-- there already without a change.
-- Assumes nothing.
use Rattle.std.proofs.Common.{◌≡◌, refl, ap, ℕ, Bool, true, false, not, cond, ◌&&◌, eqb, ltb, List, [], length, set, Result, Err}
use mathlib.Core.Bool.{and-false}
use Rattle.writer.specs.Writer.{packet_of_one}
use Rattle.remote.specs.Events.{busy, ask_to_pause_row, ask_to_resume_row}
use Rattle.remote.specs.Rules.{Event, ask_to_pause, ask_to_resume, report, media_seen, Ruled, with_answer, ruled}
use Rattle.remote.specs.declared.Busy.{Busy}
use Rattle.remote.specs.declared.Outcome.{Outcome}
use Rattle.remote.specs.declared.State.{State}
use Rattle.remote.specs.declared.State.TheVariants.{Receiving, AskedToPause, Paused, AskedToResume}
use Rattle.remote.specs.declared.Remote.{Remote}
use Rattle.serving.specs.Serve as serving
use Rattle.serving.proofs.Faithful.{stored_stays}
use Rattle.sides.specs.Calls.{allowed, over}
use Rattle.sides.specs.Calls as side
use Rattle.sides.proofs.Chain.{accepted}
use Rattle.receiver.specs.Calls.{Came, wrong_size, refuse_if, refusal, receiver, ask_call, media_call}
use Rattle.receiver.specs.Keeping.{Keeping}
use Rattle.receiver.specs.Serve.{answers, place, kept_at, listed, Served, serve}

-- "while Asked"
abbrev pub is_asked : State → Bool
is_asked Receiving = false
is_asked (AskedToPause left) = true
is_asked Paused = false
is_asked (AskedToResume left) = true

module _ {A : Type 0} (K : Keeping A) (ssrc : ℕ) (t : List A) where
  -- the record that answers for the SSRC, and the request served with its message written
  abbrev here : Remote
  here = K.read (kept_at K t (place K t ssrc))

  abbrev spoken : Event → List ℕ → ℕ → Came A
  spoken e buffer house = side.spoken (receiver house) (serve K (record { ssrc = ssrc; event = e }) t) buffer

  -- ask to pause and ask to resume: Size, NoStream, Busy ("after NoStream and before Room"), Room ("under 20 bytes")
  abbrev pub Asks : Event → List ℕ → ℕ → Type 0
  Asks e buffer house =
      ask_call K e ssrc t buffer house
      ≡ refuse_if (wrong_size (length t)) 11 t buffer
      (refuse_if (not (answers K t ssrc)) 12 t buffer
      (refuse_if (is_asked here.state) 18 t buffer
      (refuse_if (ltb (length buffer) packet_of_one) 10 t buffer (spoken e buffer house))))

  -- report: Size, NoStream, Room
  pub report_chain : (buffer : List ℕ) (house : ℕ)
      → ask_call K report ssrc t buffer house
      ≡ refuse_if (wrong_size (length t)) 11 t buffer
      (refuse_if (not (answers K t ssrc)) 12 t buffer
      (refuse_if (ltb (length buffer) packet_of_one) 10 t buffer (spoken report buffer house)))
  unfolding side.local_call ruled
  report_chain buffer house = refl

  -- media seen: Size, NoStream
  pub media_chain : media_call K ssrc t ≡ refuse_if (wrong_size (length t)) 11 t [] (refuse_if (not (answers K t ssrc)) 12 t [] (spoken media_seen [] 0))
  unfolding side.local_call
  media_chain =
      let may = allowed (receiver 0) K media_seen ssrc t in
      ap (λ (came : Came A). refuse_if (wrong_size (length t)) 11 t [] (refuse_if (not (answers K t ssrc)) 12 t [] came))
      (accepted (may && false) 10 t [] _ (and-false may))

  module _ (same : (a : A) → K.store a (K.read a) ≡ a) (buffer : List ℕ) (house : ℕ) where
    -- the request served where the rules give this
    abbrev served_as : Ruled → Served A
    served_as r = record { table = set t (place K t ssrc) (K.store (kept_at K t (place K t ssrc)) r.remote); replies = listed r.sent; said = r.said }

    abbrev write : Served A → Came A
    write served = side.spoken (receiver house) served buffer

    -- what the rules refuse before Room, the document has as a case of its own
    abbrev Same : Bool → Result Outcome Busy → Type 0
    Same asked c =
        cond (eqb (with_answer here c).said.0 0 && ltb (length buffer) packet_of_one) (refusal 10 0 t buffer) (write (served_as (with_answer here c)))
        ≡ cond asked (refusal 18 0 t buffer) (cond (ltb (length buffer) packet_of_one) (refusal 10 0 t buffer) (write (served_as (with_answer here c))))

    refused : Same true (Err busy)
    unfolding over
    refused = ap (λ (l : List A). refusal 18 0 l buffer) (stored_stays K same t (place K t ssrc))

    pause_same : (state : State) → Same (is_asked state) (ask_to_pause_row state here)
    pause_same Receiving = refl
    pause_same (AskedToPause left) = refused
    pause_same Paused = refl
    pause_same (AskedToResume left) = refused

    resume_same : (state : State) → Same (is_asked state) (ask_to_resume_row state here)
    resume_same Receiving = refl
    resume_same (AskedToPause left) = refused
    resume_same Paused = refl
    resume_same (AskedToResume left) = refused

    found_same : (asked : Bool) (c : Result Outcome Busy) → Same asked c → (found : Bool)
        → cond (not found) (refusal 12 0 t buffer)
        (cond (eqb (with_answer here c).said.0 0 && ltb (length buffer) packet_of_one) (refusal 10 0 t buffer) (write (cond found (served_as (with_answer here c)) (serving.unserved t))))
        ≡ cond (not found) (refusal 12 0 t buffer)
        (cond asked (refusal 18 0 t buffer)
        (cond (ltb (length buffer) packet_of_one) (refusal 10 0 t buffer) (write (cond found (served_as (with_answer here c)) (serving.unserved t)))))
    found_same asked c e false = refl
    found_same asked c e true = e

    pub ask_to_pause_chain : Asks ask_to_pause buffer house
    unfolding side.local_call refuse_if serving.serve ruled
    ask_to_pause_chain =
        ap (cond (wrong_size (length t)) (refusal 11 0 t buffer))
        (found_same (is_asked here.state) (ask_to_pause_row here.state here) (pause_same here.state) (answers K t ssrc))

    pub ask_to_resume_chain : Asks ask_to_resume buffer house
    unfolding side.local_call refuse_if serving.serve ruled
    ask_to_resume_chain =
        ap (cond (wrong_size (length t)) (refusal 11 0 t buffer))
        (found_same (is_asked here.state) (ask_to_resume_row here.state here) (resume_same here.state) (answers K t ssrc))
