-- The house SSRC of a side is in the packets of what it sends. A call that sends nothing is the same from every house; and runs from two houses in which every stream
-- has the same own history are alike.
-- Assumes nothing.
use Prim.Native.Nat.{ℕ, ◌≤◌}
use mathlib.Core.Path.{◌≡◌, refl, ap, ◌∙◌}
use mathlib.Core.Bool.{cond, not, ◌&&◌}
use mathlib.Core.List.{List, [], ◌∷◌, map}
use lib.Dec.{eqb}
use lib.ListN.{length}
use Rattle.rtcp.specs.Datagram.{Reading, refused, entries, reading}
use Rattle.rtcp.specs.declared.Entry.{Entry}
use Rattle.serving.specs.Apart.{record_at, NoTwo}
use Rattle.serving.specs.History.{own}
use Rattle.serving.specs.Keeping.{Keeping}
use Rattle.serving.specs.Order.{Alike}
use Rattle.serving.specs.Rules.{Rules}
use Rattle.serving.specs.Run.{serving}
use Rattle.serving.specs.Serve.{Request, Served, answers, place, serve}
use Rattle.serving.proofs.Faithful.{Faithful}
use Rattle.serving.proofs.Filters.{either_way}
use Rattle.serving.proofs.Order.{alike_serving}
use Rattle.serving.proofs.Request.{serve_cases}
use Rattle.sides.specs.Calls.{Side, Came, most_records, wrong_size, refuse_if, finished, after_reading, datagram_call, spoken, allowed, local_call}
use Rattle.sides.specs.Entries.{request_of, Between, starts, turns}
use Rattle.sides.specs.Run.{Call, datagram, asked, entries_carried, carried, history, AllRoomy, made, sent, run}
use Rattle.sides.proofs.Called.{turns_replies, run_serves}
use Rattle.sides.proofs.Side.{LawfulSide}

-- whatever the record, the rules send nothing for the events of a call
module _ {S E R : Type 0} (D : Side S E R) where
  abbrev pub Silent : Call E → Type 0
  Silent (datagram bytes at buffer) = (e : Entry) (s : S) → (D.rules.ruled (D.entered at e) s).sent ≡ []
  Silent (asked e ssrc buffer) = (s : S) → (D.rules.ruled e s).sent ≡ []

  -- the side from another house
  abbrev pub from_house : (R → List ℕ) → Side S E R
  from_house packet = record { rules = D.rules; entered = D.entered; packet = packet; no_room = D.no_room; short = D.short; counts = D.counts }

  pub house_lawful : LawfulSide D → (packet : R → List ℕ) → LawfulSide (from_house packet)
  house_lawful U packet = record { rules = U.rules; entered = U.entered }

module _ {S E R A : Type 0} (D : Side S E R) (K : Keeping S A) where
  abbrev M : Rules S E R
  M = D.rules

  -- ---- a silent call sends nothing

  serve_silent : (r : Request E) (t : List A) → ((s : S) → (M.ruled r.event s).sent ≡ []) → (serve M K r t).replies ≡ []
  serve_silent r t silent = serve_cases M K r t (λ d. d.replies ≡ []) (λ h. silent (record_at K t (place M K t r.ssrc))) refl

  pub entries_silent : (at : ℕ) → ((e : Entry) (s : S) → (M.ruled (D.entered at e) s).sent ≡ []) → (es : List Entry) (t : List A)
      → (serving M K (map (request_of D.entered at) es) t).replies ≡ []
  entries_silent at silent [] t = refl
  entries_silent at silent (e ∷ es) t =
      let r : Request E = request_of D.entered at e in
      rw (serve_silent r t (silent e)) (entries_silent at silent es (serve M K r t).table)

  carried_silent : (call : Call E) (t : List A) → Silent D call → (serving M K (carried D.entered call) t).replies ≡ []
  carried_silent (datagram bytes at buffer) t silent = go (reading bytes)
    where
      go : (r : Reading) → (serving M K (entries_carried D.entered at r) t).replies ≡ []
      go (refused f p) = refl
      go (entries es) = entries_silent at silent es t
  carried_silent (asked e x buffer) t silent = rw (serve_silent (record { ssrc = x; event = e }) t silent)

  pub silent_sends : (call : Call E) (t : List A) → Silent D call → sent D K call t ≡ []
  silent_sends call t silent =
      ap (λ l. cond (eqb (made D K call t).said.0 0) l []) (carried_silent call t silent) ∙ either_way (eqb (made D K call t).said.0 0) []

  -- ---- and is the same from every house

  module _ (packet : R → List ℕ) (t : List A) where
    spoken_same : (d : Served A R) (buffer : List ℕ) → d.replies ≡ [] → spoken (from_house D packet) d buffer ≡ spoken D d buffer
    spoken_same d buffer e = rw e

    finished_same : (now : Between A R) (n : ℕ) (buffer : List ℕ) → now.replies ≡ [] → finished (from_house D packet) now n buffer ≡ finished D now n buffer
    finished_same now n buffer e = rw e

    pub any_house : (call : Call E) → Silent D call → made (from_house D packet) K call t ≡ made D K call t
    unfolding datagram_call local_call
    any_house (datagram d at buffer) silent = ap (refuse_if (wrong_size (length t)) 11 t buffer) (go (reading d))
      where
        go : (r : Reading) → after_reading (from_house D packet) K r at t buffer ≡ after_reading D K r at t buffer
        go (refused f p) = refl
        go (entries es) =
            ap (refuse_if (D.no_room (length es) (length buffer)) 10 t buffer)
            (finished_same (turns M D.entered K at (starts t) es) (length es) buffer
            (turns_replies M D.entered K at es (starts t) ∙ entries_silent at silent es t))
    any_house (asked e x buffer) silent =
        ap
        (λ (came : Came A). refuse_if (wrong_size (length t)) 11 t buffer
        (refuse_if (not (answers M K t x)) 12 t buffer (refuse_if (allowed D K e x t && D.short e (length buffer)) 10 t buffer came)))
        (spoken_same (serve M K r t) buffer (serve_silent r t silent))
      where
        r : Request E
        r = record { ssrc = x; event = e }

-- ---- two runs, from two houses

module _ {S E R A : Type 0} (D : Side S E R) (U : LawfulSide D) (packet : R → List ℕ) (K : Keeping S A)
    (F : Faithful D.rules K) (t : List A) (some : 1 ≤ length t) (few : length t ≤ most_records) (no_two : NoTwo D.rules K t) where
  -- however the requests of several streams are mixed, and whatever datagrams they come in
  pub any_mix : (calls calls' : List (Call E)) → AllRoomy D calls → AllRoomy D calls'
      → ((ssrc : ℕ) → own ssrc (history D.entered calls) ≡ own ssrc (history D.entered calls'))
      → Alike D.rules (run D K calls t) (run (from_house D packet) K calls' t)
  any_mix calls calls' roomy roomy' same =
      rw (
        run_serves D U K calls t roomy some few,
        run_serves (from_house D packet) (house_lawful D U packet) K calls' t roomy' some few,
      )
      (alike_serving D.rules K U.rules F (history D.entered calls) (history D.entered calls') t no_two same)
