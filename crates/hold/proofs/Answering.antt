-- The record that answers for an SSRC, with any table and any buffer, also where two in use share an SSRC: which one it is does not change, and what each of
-- its own events but a local resume keeps of it, every call but a local resume for it keeps.
-- Assumes nothing.
use Prim.Native.Nat.{ℕ}
use mathlib.Core.Path.{◌≡◌, refl, sym, ap, ◌∙◌, subst}
use mathlib.Core.Bool.{Bool, true, false}
use mathlib.Core.List.{List, [], ◌∷◌, map}
use borrow.Author.Tests.{eqb-true, eqb-false, ne_eqb}
use lib.Dec.{eqb}
use Rattle.rtcp.specs.Datagram.{Reading, refused, entries, reading}
use Rattle.rtcp.specs.declared.Entry.{Entry}
use Rattle.stream.specs.Rules.{Event, ruled}
use Rattle.stream.specs.Rules
use Rattle.stream.specs.declared.Stream.{Stream}
use Rattle.serving.proofs.Answering.{serve_place, serve_answers, own_record}
use Rattle.serving.proofs.Place.{answering}
use Rattle.serving.proofs.Request.{serve_other}
use Rattle.sides.specs.Run.{entries_carried}
use Rattle.sides.proofs.Outcome.{Outcome, refuses, serves, outcome}
use Rattle.sender.specs.Calls.{Came, sender}
use Rattle.sender.specs.Keeping.{Keeping}
use Rattle.sender.specs.Serve.{Request, request_of, place, answers, kept_at, serve, entered, streams}
use Rattle.apart.specs.Apart.{record_at, ssrc_at}
use Rattle.apart.specs.Calls.{Call, datagram, local_pause, time, report, local_resume, send, as_call, made, buffer_of}
use Rattle.apart.specs.History.{carried}
use Rattle.apart.specs.Run.{serving, answers_of}
use Rattle.apart.proofs.Faithful.{Faithful}
use Rattle.apart.proofs.Lawful.{streams_lawful, sender_lawful}
use Rattle.hold.specs.Hold.{NotYours, record_of}
use Rattle.hold.proofs.Stays.{NoResume}

-- which record answers, and what each of its own events does, is proved in `serving` for any rules
module _ {A : Type 0} (K : Keeping A) (F : Faithful K) (x : ℕ) where
  same_place : (r : Request) (t : List A) → place K (serve K r t).table x ≡ place K t x
  same_place = serve_place streams K streams_lawful F x

  same_answers : (r : Request) (t : List A) → answers K (serve K r t).table x ≡ answers K t x
  same_answers = serve_answers streams K streams_lawful F x

  -- ---- what the record that answers has

  pub record Answering (P : Stream → Type 0) (t : List A) : Type 0 where
    pub found : answers K t x ≡ true
    pub has : P (record_of K x t)

  -- an event of its own that leads to it
  pub own_answering : (P : Stream → Type 0) (e : Event) (t : List A) → answers K t x ≡ true → P (ruled e (record_of K x t)).stream
      → Answering P (serve K (record { ssrc = x; event = e }) t).table
  own_answering P e t found has =
      let r : Request = record { ssrc = x; event = e } in
      record {
        found = same_answers r t ∙ found;
        has = subst P (sym (ap (record_at K (serve K r t).table) (same_place r t) ∙ own_record streams K streams_lawful F x e t found)) has;
      }

  -- ---- what every event but a local resume keeps

  abbrev NotResumed : Request → Type 0
  NotResumed r = r.ssrc ≡ x → NoResume r.event

  abbrev NoneResumed : List Request → Type 0
  NoneResumed [] = Unit
  NoneResumed (r ∷ rs) = NotResumed r × NoneResumed rs

  entries_no_resume : (at : ℕ) (es : List Entry) → NoneResumed (map (request_of at) es)
  entries_no_resume at [] = tt
  entries_no_resume at (e ∷ es) = (λ is. tt, entries_no_resume at es)

  resume_of_another : (ssrc : ℕ) → ¬ (ssrc ≡ x) → NotResumed (record { ssrc = ssrc; event = Rules.local_resume })
  resume_of_another ssrc other is = absurd (other is)

  carried_no_resume : (call : Call) → NotYours x call → NoneResumed (carried call)
  carried_no_resume (datagram bytes at buffer) other = go (reading bytes)
    where
      go : (r : Reading) → NoneResumed (entries_carried entered at r)
      go (refused f p) = tt
      go (entries es) = entries_no_resume at es
  carried_no_resume (local_pause ssrc buffer) other = (λ is. tt, tt)
  carried_no_resume (time ssrc at buffer) other = (λ is. tt, tt)
  carried_no_resume (report ssrc buffer) other = (λ is. tt, tt)
  carried_no_resume (local_resume ssrc) other = (resume_of_another ssrc other, tt)
  carried_no_resume (send ssrc) other = (λ is. tt, tt)

  module _ (P : Stream → Type 0) (keeps : (e : Event) (s : Stream) → NoResume e → P s → P (ruled e s).stream) where
    serve_answering : (r : Request) (t : List A) → NotResumed r → Answering P t → Answering P (serve K r t).table
    serve_answering r t other now = go (eqb r.ssrc x) refl
      where
        go : (b : Bool) → eqb r.ssrc x ≡ b → Answering P (serve K r t).table
        go true e =
            let is : r.ssrc ≡ x = eqb-true r.ssrc x e in
            subst (λ y. Answering P (serve K (record { ssrc = y; event = r.event }) t).table) (sym is)
            (own_answering P r.event t now.found (keeps r.event _ (other is) now.has))
        go false e =
            let p : ℕ = place K t x in
            let stays : kept_at K (serve K r t).table p ≡ kept_at K t p =
            serve_other streams K r t p (ne_eqb r.ssrc (ssrc_at K t p) (λ is. eqb-false r.ssrc x e (is ∙ (answering streams K t x now.found).1))) in
            record {
              found = same_answers r t ∙ now.found;
              has = subst P (sym (ap (record_at K (serve K r t).table) (same_place r t) ∙ ap K.read stays)) now.has;
            }

    serving_answering : (rs : List Request) (t : List A) → NoneResumed rs → Answering P t → Answering P (serving K rs t).table
    serving_answering [] t others now = now
    serving_answering (r ∷ rs) t others now = serving_answering rs (serve K r t).table others.1 (serve_answering r t others.0 now)

    pub call_answering : (call : Call) (t : List A) → NotYours x call → Answering P t → Answering P (made K call t).table
    call_answering call t other now = go (outcome sender sender_lawful K F t (as_call call))
      where
        go : Outcome sender K t (buffer_of call) (answers_of call) (carried call) (made K call t) → Answering P (made K call t).table
        go (refuses case at not_done e) = subst (Answering P) (sym (ap (λ (c : Came A). c.table) e)) now
        go (serves came e stays) = subst (Answering P) (sym came.table) (serving_answering (carried call) t (carried_no_resume call other) now)
