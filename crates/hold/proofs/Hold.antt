-- Only you: a stream that a local pause answered Done stays on hold, whatever calls come for whatever streams, until a local resume for it.
-- Assumes nothing.
use Prim.Native.Nat.{ℕ}
use mathlib.Core.Path.{◌≡◌, refl, ap, ◌∙◌, subst}
use mathlib.Core.Bool.{false, not, ◌&&◌, and-false}
use mathlib.Core.List.{List, [], ◌∷◌}
use native.Mathlib.Omega.{arith}
use borrow.Author.Tests.{not-false}
use lib.ListN.{length}
use Rattle.stream.specs.Rules.{Event, ruled}
use Rattle.stream.specs.Rules
use Rattle.stream.specs.declared.State.TheVariants.{Playing}
use Rattle.stream.specs.declared.Stream.{Stream}
use Rattle.serving.proofs.Place.{in_use_place}
use Rattle.serving.proofs.Request.{serve_found, serve_length}
use Rattle.sides.specs.Calls.{allowed}
use Rattle.sides.specs.Calls as side
use Rattle.sides.proofs.Cases.{local_spoken}
use Rattle.sides.proofs.Chain.{refuse_cases}
use Rattle.sender.specs.Calls.{Came, wrong_size, short, sender, spoken, reply_call}
use Rattle.sender.specs.Keeping.{Keeping, records}
use Rattle.sender.specs.Serve.{answers, said_of, Served, serve, streams}
use Rattle.rows.specs.Rows.{rows}
use Rattle.apart.specs.Apart.{record_at}
use Rattle.apart.specs.Calls.{Call, datagram, local_pause, time, report, local_resume, send, made}
use Rattle.apart.specs.Run.{run}
use Rattle.apart.proofs.Faithful.{Faithful, records_faithful, rows_faithful}
use Rattle.apart.proofs.Invariant.{call_keeps_size, run_keeps_no_two}
use Rattle.hold.specs.Hold.{paused, Done, PutOnHold, NotYours, WithoutYou, after, OnHold, record_of, held, SaidHeld, SendsHeld, Hold}
use Rattle.hold.proofs.Answering.{Answering, own_answering, call_answering}
use Rattle.hold.proofs.Stays.{pause_holds, event_stays, send_held, resume_starts}

module _ {A : Type 0} (K : Keeping A) (F : Faithful K) (x : ℕ) where
  -- a table of 1 to 64 records where the one that answers for the stream is on hold
  record Holding (t : List A) : Type 0 where
    pub sized : wrong_size (length t) ≡ false
    pub now : Answering K F x OnHold t

  -- a call of its own that says Done, with an event that puts a stream on hold
  done_holds : (e : Event) → ((s : Stream) → OnHold (ruled e s).stream) → (buffer : List ℕ) (t : List A)
      → Done (reply_call K e x t buffer) → Holding (reply_call K e x t buffer).table
  unfolding side.local_call
  done_holds e puts buffer t =
      refuse_cases (wrong_size (length t)) 11 t buffer _ P (λ done. absurd (omega arith))
      (λ sized. refuse_cases (not (answers K t x)) 12 t buffer _ P (λ done. absurd (omega arith))
      (λ found. refuse_cases (allowed sender K e x t && short e (length buffer)) 10 t buffer _ P (λ done. absurd (omega arith))
      (λ room done.
      record {
        sized = ap wrong_size (serve_length streams K _ t) ∙ sized;
        now = own_answering K F x OnHold e t (not-false (answers K t x) found) (puts (record_of K x t));
      })))
    where
      P : Came A → Type 0
      P came = Done came → Holding came.table

  call_holding : (call : Call) (t : List A) → NotYours x call → Holding t → Holding (made K call t).table
  call_holding call t other h =
      record {
        sized = ap wrong_size (call_keeps_size K F call t) ∙ h.sized;
        now = call_answering K F x OnHold event_stays call t other h.now;
      }

  run_holding : (calls : List Call) (t : List A) → WithoutYou x calls → Holding t → Holding (run K calls t).table
  run_holding [] t others h = h
  run_holding (call ∷ calls) t others h = run_holding calls (made K call t).table others.1 (call_holding call t others.0 h)

  -- local resume and send are served: they have no Room
  quiet_served : (e : Event) → short e 0 ≡ false → (t : List A) → Holding t → reply_call K e x t [] ≡ spoken (serve K (record { ssrc = x; event = e }) t) []
  quiet_served e quiet t h =
      local_spoken sender K t [] e x h.sized h.now.found
      (ap (λ b. allowed sender K e x t && b) quiet ∙ and-false (allowed sender K e x t))

  quiet_says : (e : Event) → short e 0 ≡ false → (t : List A) → Holding t → (reply_call K e x t []).said ≡ said_of e (ruled e (record_of K x t))
  quiet_says e quiet t h =
      ap (λ (c : Came A). c.said) (quiet_served e quiet t h)
      ∙ ap (λ (d : Served A). d.said) (serve_found streams K (record { ssrc = x; event = e }) t h.now.found)

  send_says : (t : List A) → Holding t → (made K (send x) t).said ≡ held
  send_says t h = quiet_says Rules.send refl t h ∙ send_held (record_of K x t) h.now.has

  resume_plays : (t : List A) → Holding t → (record_of K x (made K (local_resume x) t).table).state ≡ Playing
  resume_plays t h =
      ap (λ (c : Came A). (record_of K x c.table).state) (quiet_served Rules.local_resume refl t h)
      ∙ (own_answering K F x (λ s. s.state ≡ Playing) Rules.local_resume t h.now.found (resume_starts (record_of K x t) h.now.has)).has

  call_says : (call : Call) (t : List A) → Holding t → SaidHeld x call (made K call t).said
  call_says (datagram bytes at buffer) t h = tt
  call_says (local_pause ssrc buffer) t h = tt
  call_says (time ssrc at buffer) t h = tt
  call_says (report ssrc buffer) t h = tt
  call_says (local_resume ssrc) t h = tt
  call_says (send ssrc) t h = λ is. ap (λ y. (made K (send y) t).said) is ∙ send_says t h

  run_says : (calls : List Call) (t : List A) → WithoutYou x calls → Holding t → SendsHeld K x calls t
  run_says [] t others h = tt
  run_says (call ∷ calls) t others h = (call_says call t h, run_says calls (made K call t).table others.1 (call_holding call t others.0 h))

  pub hold : (buffer : List ℕ) (calls : List Call) (t : List A) → PutOnHold K x buffer t → WithoutYou x calls → Hold K x buffer calls t
  hold buffer calls t done others =
      let first : Holding (paused K x buffer t).table = done_holds Rules.local_pause pause_holds buffer t done in
      let u : List A = after K x buffer calls t in
      let last : Holding u = run_holding calls (paused K x buffer t).table others first in
      record {
        in_use = last.now.found;
        on_hold = last.now.has;
        on_hold_at = λ no_two i used is.
            subst (λ p. OnHold (record_at K u p))
            (in_use_place streams K F u i x (run_keeps_no_two K F (local_pause x buffer ∷ calls) t no_two) used is)
            last.now.has;
        sends_held = run_says calls (paused K x buffer t).table others first;
        next_send_held = send_says u last;
        you_can = (quiet_says Rules.local_resume refl u last, resume_plays u last);
      }

-- ---- the two tables

-- rows of numbers, which the host lends to the calls of `table`
pub rows_hold : (x : ℕ) (buffer : List ℕ) (calls : List Call) (t : List (List ℕ)) → PutOnHold rows x buffer t → WithoutYou x calls
    → Hold rows x buffer calls t
rows_hold = hold rows rows_faithful

-- records themselves, which the host lends to the calls of `lent`
pub records_hold : (x : ℕ) (buffer : List ℕ) (calls : List Call) (t : List Stream) → PutOnHold records x buffer t → WithoutYou x calls
    → Hold records x buffer calls t
records_hold = hold records records_faithful
