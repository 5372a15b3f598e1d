-- What every call comes to, with any table and any buffer: a refusal, which leaves the table and the buffer as they were lent; or its requests, served, with
-- what they send written.
-- Assumes nothing.
use Prim.Native.Nat.{ℕ}
use mathlib.Core.Path.{◌≡◌, refl, sym, ap, ◌∙◌}
use mathlib.Core.Bool.{Bool, not, ◌&&◌}
use mathlib.Core.List.{List, [], ◌∷◌, append-nil}
use native.Mathlib.Omega.{arith}
use lib.ListN.{length, set}
use Rattle.rtcp.specs.Said.{number}
use Rattle.rtcp.specs.Datagram.{Reading, refused, entries, reading}
use Rattle.rtcp.specs.declared.Fault.{Fault}
use Rattle.rtcp.proofs.Cases.{fault_number}
use Rattle.serving.specs.Apart.{record_at}
use Rattle.serving.specs.Keeping.{Keeping}
use Rattle.serving.specs.Rules.{Rules}
use Rattle.serving.specs.Run.{Answer, answered, serving}
use Rattle.serving.specs.Serve.{Request, answers, place, kept_at, serve}
use Rattle.serving.proofs.Faithful.{Faithful, stored_stays}
use Rattle.serving.proofs.Request.{serve_cases}
use Rattle.sides.specs.Calls.{Side, sent_bytes, Came, wrong_size, refusal, refuse_if, over, after_reading, datagram_call, allowed, local_call}
use Rattle.sides.specs.Entries.{starts}
use Rattle.sides.specs.Run.{Call, datagram, asked, buffer_of, entries_carried, carried, answers_of, made}
use Rattle.sides.proofs.Called.{CameTo, turns_replies, spoken_serves, finished_serves}
use Rattle.sides.proofs.Chain.{refuse_cases}
use Rattle.sides.proofs.Side.{LawfulSide}

pub data Outcome {S E R A : Type 0} (D : Side S E R) (K : Keeping S A) (t : List A) (buffer : List ℕ) (told : ℕ × List ℕ → List Answer)
    (rs : List (Request E)) (came : Came A)
    : Type 0 where
  refuses : (case place : ℕ) → ¬ (case ≡ 0) → came ≡ refusal case place t buffer → Outcome D K t buffer told rs came
  serves : CameTo came told (serving D.rules K rs t) → came.buffer ≡ over (sent_bytes D (serving D.rules K rs t).replies) buffer
      → (¬ (came.said.0 ≡ 0) → came.table ≡ t) → Outcome D K t buffer told rs came

-- no fault of a datagram is case 0, Done
pub fault_refuses : (f : Fault) → ¬ (number f ≡ 0)
fault_refuses f e = let some = (fault_number f).0 in absurd (omega arith)

module _ {S E R A : Type 0} (D : Side S E R) (U : LawfulSide D) (K : Keeping S A) (F : Faithful D.rules K) (t : List A) where
  abbrev M : Rules S E R
  M = D.rules

  refusing : (buffer : List ℕ) (told : ℕ × List ℕ → List Answer) (rs : List (Request E)) (test : Bool) (case : ℕ) (other : Came A)
      → ¬ (case ≡ 0) → Outcome D K t buffer told rs other → Outcome D K t buffer told rs (refuse_if test case t buffer other)
  refusing buffer told rs test case other not_done o =
      refuse_cases test case t buffer other (Outcome D K t buffer told rs) (refuses case 0 not_done refl) (λ e. o)

  serve_stays : (r : Request E) → ¬ ((serve M K r t).said.0 ≡ 0) → (serve M K r t).table ≡ t
  serve_stays r =
      serve_cases M K r t (λ d. ¬ (d.said.0 ≡ 0) → d.table ≡ t)
      (λ h not_done.
      let i : ℕ = place M K t r.ssrc in
      ap (λ s. set t i (K.store (kept_at K t i) s)) (U.rules.stays r.event (record_at K t i) not_done)
      ∙ stored_stays K F.same t i)
      (λ not_done. refl)

  local_outcome : (e : E) (x : ℕ) (buffer : List ℕ)
      → Outcome D K t buffer (answered M (record { ssrc = x; event = e })) (record { ssrc = x; event = e } ∷ []) (local_call D K e x t buffer)
  unfolding local_call
  local_outcome e x buffer =
      refusing buffer _ _ (wrong_size (length t)) 11 _ (omega arith)
      (refusing buffer _ _ (not (answers M K t x)) 12 _ (omega arith)
      (refusing buffer _ _ (allowed D K e x t && D.short e (length buffer)) 10 _ (omega arith)
      (serves (spoken_serves D U K t r buffer) (ap (λ l. over (sent_bytes D l) buffer) (sym (append-nil (serve M K r t).replies))) (serve_stays r))))
    where
      r : Request E
      r = record { ssrc = x; event = e }

  datagram_outcome : (bytes : List ℕ) (at : ℕ) (buffer : List ℕ)
      → Outcome D K t buffer (λ said. []) (entries_carried D.entered at (reading bytes)) (datagram_call D K bytes at t buffer)
  unfolding datagram_call
  datagram_outcome bytes at buffer = refusing buffer _ _ (wrong_size (length t)) 11 _ (omega arith) (go (reading bytes))
    where
      go : (r : Reading) → Outcome D K t buffer (λ said. []) (entries_carried D.entered at r) (after_reading D K r at t buffer)
      go (refused f p) = refuses (number f) p (fault_refuses f) refl
      go (entries es) =
          refusing buffer _ _ (D.no_room (length es) (length buffer)) 10 _ (omega arith)
          (serves (finished_serves D U K t at es (length es) buffer) (ap (λ l. over (sent_bytes D l) buffer) (turns_replies M D.entered K at es (starts t)))
          (λ not_done. absurd (not_done refl)))

  pub outcome : (call : Call E) → Outcome D K t (buffer_of call) (answers_of D.rules call) (carried D.entered call) (made D K call t)
  outcome (datagram bytes at buffer) = datagram_outcome bytes at buffer
  outcome (asked e x buffer) = local_outcome e x buffer
