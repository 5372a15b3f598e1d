-- One decision, two tables: a call on any faithful table, read as records, is the same call on the table of those records; and so for a run.
-- Assumes nothing.
use Prim.Native.Nat.{ℕ, zero, suc, ◌<◌}
use mathlib.Core.Path.{◌≡◌, refl, ap, ap₂, ◌∙◌}
use mathlib.Core.Bool.{Bool, true, false, not, cond, ◌&&◌}
use mathlib.Core.List.{List, [], ◌∷◌, map}
use native.Mathlib.Omega.{arith}
use lib.Dec.{eqb, ltb}
use lib.ListN.{length, set, length-map}
use Rattle.rtcp.specs.Datagram.{Reading, refused, entries, reading}
use Rattle.rtcp.specs.declared.Entry.{Entry}
use Rattle.serving.specs.Apart.{record_at}
use Rattle.serving.specs.Keeping.{Keeping, plainly}
use Rattle.serving.specs.Rules.{Rules}
use Rattle.serving.specs.Run.{Run, serving}
use Rattle.serving.specs.Serve.{Request, holds, answers, place, kept_at, Served, served_at, unserved, serve}
use Rattle.serving.proofs.Faithful.{Faithful}
use Rattle.serving.proofs.Place.{answering}
use Rattle.sides.specs.Calls.{Side, Came, wrong_size, refuse_if, finished, after_reading, datagram_call, spoken, allowed, local_call}
use Rattle.sides.specs.Entries.{request_of, Between, starts, turn, turns}
use Rattle.sides.specs.Run.{Call, datagram, asked, carried, made, run}

-- a table, what was served, what runs, what a call leaves and what a run comes to, read as records
module _ {S A : Type 0} (K : Keeping S A) where
  abbrev pub seen : List A → List S
  seen t = map K.read t

  abbrev pub came_seen : Came A → Came S
  came_seen came = record { said = came.said; table = seen came.table; buffer = came.buffer }

  module _ {R : Type 0} where
    abbrev pub served_seen : Served A R → Served S R
    served_seen d = record { table = seen d.table; replies = d.replies; said = d.said }

    abbrev pub between_seen : Between A R → Between S R
    between_seen now = record { table = seen now.table; replies = now.replies; unknown = now.unknown }

    abbrev pub run_seen : Run A R → Run S R
    run_seen after = record { table = seen after.table; replies = after.replies; answers = after.answers }

module _ {S E R A : Type 0} (D : Side S E R) (K : Keeping S A) (F : Faithful D.rules K) (none : S) (clear : S → S) where
  abbrev M : Rules S E R
  M = D.rules

  -- the records themselves
  abbrev P : Keeping S S
  P = plainly none clear

  place_seen : (t : List A) (x : ℕ) → place M P (seen K t) x ≡ place M K t x
  place_seen [] x = refl
  place_seen (a ∷ t) x = ap (λ n. cond (holds M (K.read a) x) 0 (suc n)) (place_seen t x)

  answers_seen : (t : List A) (x : ℕ) → answers M P (seen K t) x ≡ answers M K t x
  answers_seen t x = ap₂ ltb (place_seen t x) (length-map t K.read)

  kept_seen : (t : List A) (i : ℕ) → i < length t → kept_at P (seen K t) i ≡ record_at K t i
  kept_seen [] i h = absurd (omega arith)
  kept_seen (a ∷ t) zero h = refl
  kept_seen (a ∷ t) (suc i) h = kept_seen t i (omega arith)

  set_seen : (t : List A) (i : ℕ) (a : A) → set (seen K t) i (K.read a) ≡ seen K (set t i a)
  set_seen [] i a = refl
  set_seen (b ∷ t) zero a = refl
  set_seen (b ∷ t) (suc i) a = ap {B = List S} (λ l. K.read b ∷ l) (set_seen t i a)

  refuse_seen : (test : Bool) (case : ℕ) (t : List A) (buffer : List ℕ) (other : Came A)
      → refuse_if test case (seen K t) buffer (came_seen K other) ≡ came_seen K (refuse_if test case t buffer other)
  unfolding refuse_if
  refuse_seen true case t buffer other = refl
  refuse_seen false case t buffer other = refl

  size_seen : (t : List A) → wrong_size (length (seen K t)) ≡ wrong_size (length t)
  size_seen t = ap wrong_size (length-map t K.read)

  -- ---- requests and entries

  served_seen_lem : (e : E) (t : List A) (i : ℕ) → i < length t → served_at M P e (seen K t) i ≡ served_seen K (served_at M K e t i)
  served_seen_lem e t i h =
      rw (kept_seen t i h, ← set_seen t i (K.store (kept_at K t i) (M.ruled e (record_at K t i)).next), F.back (kept_at K t i) e)

  serve_seen : (r : Request E) (t : List A) → serve M P r (seen K t) ≡ served_seen K (serve M K r t)
  unfolding serve
  serve_seen r t = rw (answers_seen t r.ssrc, place_seen t r.ssrc) (go (answers M K t r.ssrc) refl)
    where
      go : (b : Bool) → answers M K t r.ssrc ≡ b
          → cond b (served_at M P r.event (seen K t) (place M K t r.ssrc)) (unserved (seen K t))
          ≡ served_seen K (cond b (served_at M K r.event t (place M K t r.ssrc)) (unserved t))
      go true h = served_seen_lem r.event t (place M K t r.ssrc) (answering M K t r.ssrc h).2
      go false h = refl

  turn_seen : (at : ℕ) (now : Between A R) (e : Entry) → turn M D.entered P at (between_seen K now) e ≡ between_seen K (turn M D.entered K at now e)
  unfolding turn
  turn_seen at now e = rw (serve_seen (request_of D.entered at e) now.table, answers_seen now.table e.target)

  turns_seen : (at : ℕ) (es : List Entry) (now : Between A R)
      → turns M D.entered P at (between_seen K now) es ≡ between_seen K (turns M D.entered K at now es)
  turns_seen at [] now = refl
  turns_seen at (e ∷ es) now =
      ap (λ n. turns M D.entered P at n es) (turn_seen at now e) ∙ turns_seen at es (turn M D.entered K at now e)

  serving_seen : (rs : List (Request E)) (t : List A) → serving M P rs (seen K t) ≡ run_seen K (serving M K rs t)
  serving_seen [] t = refl
  serving_seen (r ∷ rs) t = rw (serve_seen r t, serving_seen rs (serve M K r t).table)

  -- ---- calls

  datagram_seen : (bytes : List ℕ) (at : ℕ) (t : List A) (buffer : List ℕ)
      → datagram_call D P bytes at (seen K t) buffer ≡ came_seen K (datagram_call D K bytes at t buffer)
  unfolding datagram_call
  datagram_seen bytes at t buffer =
      ap₂ (λ test other. refuse_if test 11 (seen K t) buffer other) (size_seen t) (go (reading bytes))
      ∙ refuse_seen (wrong_size (length t)) 11 t buffer (after_reading D K (reading bytes) at t buffer)
    where
      go : (r : Reading) → after_reading D P r at (seen K t) buffer ≡ came_seen K (after_reading D K r at t buffer)
      go (refused f p) = refl
      go (entries es) =
          ap (λ now. refuse_if (D.no_room (length es) (length buffer)) 10 (seen K t) buffer (finished D now (length es) buffer)) (turns_seen at es (starts t))
          ∙ refuse_seen (D.no_room (length es) (length buffer)) 10 t buffer (finished D (turns M D.entered K at (starts t) es) (length es) buffer)

  nobody : (t : List A) (buffer : List ℕ) (other : Came S) (came : Came A)
      → refuse_if true 12 (seen K t) buffer other ≡ came_seen K (refuse_if true 12 t buffer came)
  unfolding refuse_if
  nobody t buffer other came = refl

  module _ (e : E) (x : ℕ) (t : List A) (buffer : List ℕ) where
    abbrev r : Request E
    r = record { ssrc = x; event = e }

    -- Room, and what is done
    abbrev done : Bool → Came A
    done may = refuse_if (may && D.short e (length buffer)) 10 t buffer (spoken D (serve M K r t) buffer)

    abbrev done_seen : Bool → Came S
    done_seen may = refuse_if (may && D.short e (length buffer)) 10 (seen K t) buffer (spoken D (serve M P r (seen K t)) buffer)

    done_seen_lem : (may : Bool) → done_seen may ≡ came_seen K (done may)
    done_seen_lem may =
        ap (λ d. refuse_if (may && D.short e (length buffer)) 10 (seen K t) buffer (spoken D d buffer)) (serve_seen r t)
        ∙ refuse_seen (may && D.short e (length buffer)) 10 t buffer (spoken D (serve M K r t) buffer)

    -- what the rules allow is judged on the record that is read
    allowed_seen : answers M K t x ≡ true → allowed D P e x (seen K t) ≡ allowed D K e x t
    allowed_seen h =
        ap (λ s. eqb (M.ruled e s).said.0 0) (ap (kept_at P (seen K t)) (place_seen t x) ∙ kept_seen t (place M K t x) (answering M K t x h).2)

    found_seen : (b : Bool) → answers M K t x ≡ b
        → refuse_if (not (answers M P (seen K t) x)) 12 (seen K t) buffer (done_seen (allowed D P e x (seen K t)))
        ≡ came_seen K (refuse_if (not (answers M K t x)) 12 t buffer (done (allowed D K e x t)))
    found_seen true h =
        ap₂ (λ some may. refuse_if (not some) 12 (seen K t) buffer (done_seen may)) (answers_seen t x) (allowed_seen h)
        ∙ ap (λ came. refuse_if (not (answers M K t x)) 12 (seen K t) buffer came) (done_seen_lem (allowed D K e x t))
        ∙ refuse_seen (not (answers M K t x)) 12 t buffer (done (allowed D K e x t))
    found_seen false h = rw (answers_seen t x, h) (nobody t buffer (done_seen (allowed D P e x (seen K t))) (done (allowed D K e x t)))

    local_seen : local_call D P e x (seen K t) buffer ≡ came_seen K (local_call D K e x t buffer)
    unfolding local_call
    local_seen =
        ap₂ (λ test other. refuse_if test 11 (seen K t) buffer other) (size_seen t) (found_seen (answers M K t x) refl)
        ∙ refuse_seen (wrong_size (length t)) 11 t buffer _

  pub call_seen : (call : Call E) (t : List A) → made D P call (seen K t) ≡ came_seen K (made D K call t)
  call_seen (datagram bytes at buffer) t = datagram_seen bytes at t buffer
  call_seen (asked e x buffer) t = local_seen e x t buffer

  pub run_seen_lem : (calls : List (Call E)) (t : List A) → run D P calls (seen K t) ≡ run_seen K (run D K calls t)
  run_seen_lem [] t = refl
  run_seen_lem (call ∷ calls) t = rw (call_seen call t, serving_seen (carried D.entered call) t, run_seen_lem calls (made D K call t).table)
