-- What a call sends: as bytes it stands at the buffer's start; it is at most one message for each request, for a local call what the rules send for the
-- record that answers; and a local call that says Done says its length, where the rules do.
-- Assumes nothing.
use Prim.Native.Nat.{ℕ, ◌≤◌}
use mathlib.Core.Path.{◌≡◌, sym, ap, subst, ◌∙◌}
use mathlib.Core.Bool.{Bool, true, false, not, cond, ◌&&◌}
use mathlib.Core.List.{List, [], ◌∷◌, append-nil}
use native.Mathlib.Omega.{arith}
use borrow.Author.Tests.{eq-eqb}
use lib.Dec.{eqb}
use lib.ListN.{length, take, length-append}
use Rattle.serving.specs.Apart.{record_at}
use Rattle.serving.specs.Keeping.{Keeping}
use Rattle.serving.specs.Rules.{Rules}
use Rattle.serving.specs.Run.{serving}
use Rattle.serving.specs.Serve.{Request, answers, place, serve}
use Rattle.serving.proofs.Faithful.{Faithful}
use Rattle.serving.proofs.Request.{serve_cases}
use Rattle.sides.specs.Calls.{Side, sent_bytes, Came, wrong_size, allowed, local_call}
use Rattle.sides.specs.Run.{Call, asked, buffer_of, carried, made, sent}
use Rattle.sides.proofs.Chain.{refuse_cases}
use Rattle.sides.proofs.Refused.{over_first, written}
use Rattle.sides.proofs.Side.{LawfulSide}

-- the first bytes of the buffer are what the call sent
pub sent_first : {S E R A : Type 0} (D : Side S E R) → LawfulSide D → (K : Keeping S A) → Faithful D.rules K → (call : Call E) (t : List A)
    → take (length (sent_bytes D (sent D K call t))) (made D K call t).buffer ≡ sent_bytes D (sent D K call t)
sent_first D U K F call t =
    let bytes : List ℕ = sent_bytes D (sent D K call t) in
    ap (take (length bytes)) (written D U K F call t) ∙ over_first bytes (buffer_of call)

module _ {S E R A : Type 0} (D : Side S E R) (K : Keeping S A) where
  abbrev M : Rules S E R
  M = D.rules

  -- ---- at most one message for each request

  module _ (one : (e : E) (s : S) → length (M.ruled e s).sent ≤ 1) where
    few_replies : (rs : List (Request E)) (t : List A) → length (serving M K rs t).replies ≤ length rs
    few_replies [] t = omega arith
    few_replies (r ∷ rs) t =
        let first : length (serve M K r t).replies ≤ 1 =
        serve_cases M K r t (λ d. length d.replies ≤ 1) (λ h. one r.event (record_at K t (place M K t r.ssrc))) (omega arith) in
        omega (arith, few_replies rs (serve M K r t).table, length-append (serve M K r t).replies (serving M K rs (serve M K r t).table).replies)

    pub few_sent : (call : Call E) (t : List A) → length (sent D K call t) ≤ length (carried D.entered call)
    few_sent call t = go (eqb (made D K call t).said.0 0)
      where
        go : (b : Bool) → length (cond b (serving M K (carried D.entered call) t).replies []) ≤ length (carried D.entered call)
        go true = few_replies (carried D.entered call) t
        go false = omega arith

  -- ---- what a local call sends is what the rules send for the record that answers

  pub sent_each : (P : List R → Type 0) → P [] → (e : E) (x : ℕ) (buffer : List ℕ) (t : List A)
      → ((found : answers M K t x ≡ true) → P (M.ruled e (record_at K t (place M K t x))).sent) → P (sent D K (asked e x buffer) t)
  sent_each P none e x buffer t some = go (eqb (made D K (asked e x buffer) t).said.0 0)
    where
      r : Request E
      r = record { ssrc = x; event = e }

      go : (b : Bool) → P (cond b (serving M K (r ∷ []) t).replies [])
      go true = subst P (sym (append-nil (serve M K r t).replies)) (serve_cases M K r t (λ d. P d.replies) some none)
      go false = none

  -- ---- the length that is said

  -- the rules say, with Done, the length of what an event sends
  abbrev pub Tells : E → Type 0
  Tells e = (s : S) → (M.ruled e s).said.0 ≡ 0 → (M.ruled e s).said.1 ≡ length (sent_bytes D (M.ruled e s).sent) ∷ []

  abbrev Long : ℕ × List ℕ → List R → Type 0
  Long said replies = said.0 ≡ 0 → said.1 ≡ length (sent_bytes D replies) ∷ []

  -- a request served
  pub served_long : (e : E) → Tells e → (x : ℕ) (t : List A)
      → Long (serve M K (record { ssrc = x; event = e }) t).said (serve M K (record { ssrc = x; event = e }) t).replies
  served_long e tells x t =
      serve_cases M K (record { ssrc = x; event = e }) t (λ d. Long d.said d.replies) (λ h. tells (record_at K t (place M K t x))) (λ done. absurd (omega arith))

  module _ (e : E) (tells : Tells e) (x : ℕ) (buffer : List ℕ) (t : List A) where
    abbrev r : Request E
    r = record { ssrc = x; event = e }

    local_long : Long (local_call D K e x t buffer).said (serve M K r t).replies
    unfolding local_call
    local_long =
        refuse_cases (wrong_size (length t)) 11 t buffer _ P (λ done. absurd (omega arith))
        (λ sized. refuse_cases (not (answers M K t x)) 12 t buffer _ P (λ done. absurd (omega arith))
        (λ found. refuse_cases (allowed D K e x t && D.short e (length buffer)) 10 t buffer _ P (λ done. absurd (omega arith))
        (λ room. served_long e tells x t)))
      where
        P : Came A → Type 0
        P came = Long came.said (serve M K r t).replies

    -- a local call that says Done
    pub says_length : Long (made D K (asked e x buffer) t).said (sent D K (asked e x buffer) t)
    says_length done =
        local_long done
        ∙ ap (λ l. length (sent_bytes D l) ∷ [])
        (sym (append-nil (serve M K r t).replies)
        ∙ ap (λ b. cond b (serving M K (r ∷ []) t).replies []) (sym (eq-eqb (made D K (asked e x buffer) t).said.0 0 done)))
