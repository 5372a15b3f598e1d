-- A run of calls is its history of requests, served one after the other: with reply buffers so large that Room never occurs, on a table of 1 to 64 records, a
-- call is refused only where it carries nothing, nobody answers or the rules refuse it.
-- Assumes nothing.
use Prim.Native.Nat.{ℕ, ◌≤◌}
use mathlib.Core.Path.{◌≡◌, refl, sym, ap, ◌∙◌}
use mathlib.Core.Bool.{Bool, true, false, cond, ◌&&◌, and-false}
use mathlib.Core.List.{List, [], ◌∷◌, ◌++◌, map, append-nil, append_assoc}
use native.Mathlib.Omega.{arith}
use borrow.Author.Tests.{le-ltb, ne_eqb, eqb-false}
use lib.Dec.{eqb}
use lib.ListN.{length}
use Rattle.rtcp.proofs.Bounds.{most_entries_lem}
use Rattle.rtcp.specs.Said.{number}
use Rattle.rtcp.specs.Datagram.{most_entries, Reading, refused, entries, reading}
use Rattle.rtcp.specs.declared.Entry.{Entry}
use Rattle.serving.specs.Apart.{record_at}
use Rattle.serving.specs.Keeping.{Keeping}
use Rattle.serving.specs.Rules.{Rules}
use Rattle.serving.specs.Run.{Answer, Run, and_then, answered, serving}
use Rattle.serving.specs.Serve.{Request, answers, place, serve}
use Rattle.serving.proofs.Faithful.{Lawful}
use Rattle.serving.proofs.Filters.{either_way}
use Rattle.serving.proofs.Request.{serve_cases, serve_none}
use Rattle.serving.proofs.Serving.{serving_length, serving_append}
use Rattle.sides.specs.Calls.{Side, Came, most_records, wrong_size, finished, datagram_call, spoken, allowed, local_call}
use Rattle.sides.specs.Entries.{request_of, Between, starts, turn, turns}
use Rattle.sides.specs.Run.{Call, datagram, asked, entries_carried, carried, history, answers_of, Roomy, AllRoomy, made, run}
use Rattle.sides.proofs.Cases
use Rattle.sides.proofs.Side.{LawfulSide}

-- ---- the entries of a datagram, run, are its requests, served

module _ {S E R A : Type 0} (M : Rules S E R) (entered : ℕ → Entry → E) (K : Keeping S A) (t : ℕ) where
  turns_table : (es : List Entry) (now : Between A R) → (turns M entered K t now es).table ≡ (serving M K (map (request_of entered t) es) now.table).table
  unfolding turn
  turns_table [] now = refl
  turns_table (e ∷ es) now = turns_table es (turn M entered K t now e)

  -- the replies to an entry stand after those to the entries before it
  turn_replies : (e : Entry) (now : Between A R)
      → (turn M entered K t now e).replies ≡ now.replies ++ (serve M K (request_of entered t e) now.table).replies
  unfolding turn
  turn_replies e now = refl

  pub turns_replies : (es : List Entry) (now : Between A R)
      → (turns M entered K t now es).replies ≡ now.replies ++ (serving M K (map (request_of entered t) es) now.table).replies
  unfolding turn
  turns_replies [] now = sym (append-nil now.replies)
  turns_replies (e ∷ es) now =
      turns_replies es (turn M entered K t now e)
      ∙ ap (λ l. l ++ (serving M K (map (request_of entered t) es) (turn M entered K t now e).table).replies) (turn_replies e now)
      ∙ append_assoc now.replies (serve M K (request_of entered t e) now.table).replies _

  entries_unanswered : ((t : ℕ) (e : Entry) → M.called (entered t e) ≡ false) → (es : List Entry) (table : List A)
      → (serving M K (map (request_of entered t) es) table).answers ≡ []
  entries_unanswered none [] table = refl
  entries_unanswered none (e ∷ es) table = rw (none t e) (entries_unanswered none es (serve M K (request_of entered t e) table).table)

-- ---- what a call that is not refused does

right_size : (n : ℕ) → 1 ≤ n → n ≤ most_records → wrong_size n ≡ false
right_size n some few = rw (ne_eqb n 0 (omega arith), le-ltb most_records n few)

-- an event that says anything but Done sends nothing
done_or_silent : {S E R : Type 0} (M : Rules S E R) → Lawful M → (e : E) (s : S)
    → cond (eqb (M.ruled e s).said.0 0) (M.ruled e s).sent [] ≡ (M.ruled e s).sent
done_or_silent M L e s = go (eqb (M.ruled e s).said.0 0) refl
  where
    go : (b : Bool) → eqb (M.ruled e s).said.0 0 ≡ b → cond b (M.ruled e s).sent [] ≡ (M.ruled e s).sent
    go true h = refl
    go false h = sym (L.quiet e s (eqb-false (M.ruled e s).said.0 0 h))

-- a call came to what a run of requests comes to
pub record CameTo {A R : Type 0} (came : Came A) (told : ℕ × List ℕ → List Answer) (after : Run A R) : Type 0 where
  pub table : came.table ≡ after.table
  pub replies : cond (eqb came.said.0 0) after.replies [] ≡ after.replies
  pub answers : told came.said ≡ after.answers

module _ {S E R A : Type 0} (D : Side S E R) (U : LawfulSide D) (K : Keeping S A) (t : List A) where
  abbrev M : Rules S E R
  M = D.rules

  serving_one : (r : Request E) → serving M K (r ∷ []) t ≡ record { table = (serve M K r t).table; replies = (serve M K r t).replies; answers = answered M r (serve M K r t).said }
  serving_one r = rw (append-nil (serve M K r t).replies, append-nil (answered M r (serve M K r t).said))

  pub spoken_serves : (r : Request E) (buffer : List ℕ) → CameTo (spoken D (serve M K r t) buffer) (answered M r) (serving M K (r ∷ []) t)
  spoken_serves r buffer =
      rw (serving_one r)
      (record {
        table = refl;
        replies =
            serve_cases M K r t (λ d. cond (eqb d.said.0 0) d.replies [] ≡ d.replies)
            (λ h. done_or_silent M U.rules r.event (record_at K t (place M K t r.ssrc)))
            refl;
        answers = refl;
      })

  pub finished_serves : (at : ℕ) (es : List Entry) (n : ℕ) (buffer : List ℕ)
      → CameTo (finished D (turns M D.entered K at (starts t) es) n buffer) (λ said. []) (serving M K (map (request_of D.entered at) es) t)
  finished_serves at es n buffer =
      record {
        table = turns_table M D.entered K at es (starts t);
        replies = refl;
        answers = sym (entries_unanswered M D.entered K at U.entered es t);
      }

  module _ (sized : wrong_size (length t) ≡ false) where
    local_serves : (e : E) (x : ℕ) (buffer : List ℕ) → D.short e (length buffer) ≡ false
        → CameTo (local_call D K e x t buffer) (answered M (record { ssrc = x; event = e })) (serving M K (record { ssrc = x; event = e } ∷ []) t)
    local_serves e x buffer roomy = go (answers M K t x) refl
      where
        enough : allowed D K e x t && D.short e (length buffer) ≡ false
        enough = ap (λ b. allowed D K e x t && b) roomy ∙ and-false (allowed D K e x t)

        go : (b : Bool) → answers M K t x ≡ b → CameTo (local_call D K e x t buffer) (answered M (record { ssrc = x; event = e })) (serving M K (record { ssrc = x; event = e } ∷ []) t)
        go true h = rw (Cases.local_spoken D K t buffer e x sized h enough) (spoken_serves (record { ssrc = x; event = e }) buffer)
        go false h =
            let r : Request E = record { ssrc = x; event = e } in
            rw (Cases.local_stranger D K t buffer e x sized h, serving_one r, serve_none M K r t h) (record { table = refl; replies = refl; answers = refl })

    datagram_serves : (bytes : List ℕ) (at : ℕ) (buffer : List ℕ) → ((n : ℕ) → n ≤ most_entries → D.no_room n (length buffer) ≡ false)
        → CameTo (datagram_call D K bytes at t buffer) (λ said. []) (serving M K (entries_carried D.entered at (reading bytes)) t)
    datagram_serves bytes at buffer roomy = go (reading bytes) refl
      where
        go : (r : Reading) → reading bytes ≡ r → CameTo (datagram_call D K bytes at t buffer) (λ said. []) (serving M K (entries_carried D.entered at r) t)
        go (refused fault p) e =
            rw (Cases.datagram_refused D K t buffer bytes at sized fault p e)
            (record { table = refl; replies = either_way (eqb (number fault) 0) []; answers = refl })
        go (entries es) e =
            rw (Cases.datagram_done_lem D K t buffer bytes at sized es e (roomy (length es) (most_entries_lem bytes es e))) (finished_serves at es (length es) buffer)

    call_serves : (call : Call E) → Roomy D call → CameTo (made D K call t) (answers_of D.rules call) (serving M K (carried D.entered call) t)
    call_serves (datagram bytes at buffer) roomy = datagram_serves bytes at buffer roomy
    call_serves (asked e x buffer) roomy = local_serves e x buffer roomy

pub run_serves : {S E R A : Type 0} (D : Side S E R) → LawfulSide D → (K : Keeping S A) (calls : List (Call E)) (t : List A) → AllRoomy D calls
    → 1 ≤ length t → length t ≤ most_records → run D K calls t ≡ serving D.rules K (history D.entered calls) t
run_serves D U K [] t roomy some few = refl
run_serves D U K (call ∷ calls) t roomy some few =
    let came = call_serves D U K t (right_size (length t) some few) call roomy.0 in
    let same : length (made D K call t).table ≡ length t = ap length came.table ∙ serving_length D.rules K (carried D.entered call) t in
    let rest : run D K calls (made D K call t).table ≡ serving D.rules K (history D.entered calls) (serving D.rules K (carried D.entered call) t).table =
    run_serves D U K calls (made D K call t).table roomy.1 (omega arith) (omega arith) ∙ ap (serving D.rules K (history D.entered calls)) came.table in
    (λ j. and_then (came.replies j) (came.answers j) (rest j)) ∙ sym (serving_append D.rules K (carried D.entered call) (history D.entered calls) t)
