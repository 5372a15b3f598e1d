-- Which record answers for an SSRC does not change while requests are served, also where two in use share one.
-- Assumes nothing.
use Prim.Native.Nat.{ℕ, suc}
use mathlib.Core.Path.{◌≡◌, refl, ap, ap₂, ◌∙◌}
use mathlib.Core.Bool.{true, cond, ◌&&◌}
use mathlib.Core.List.{List, [], ◌∷◌}
use native.Mathlib.Omega.{arith}
use lib.Dec.{eqb, ltb}
use lib.ListN.{length}
use Rattle.serving.specs.Apart.{record_at}
use Rattle.serving.specs.Keeping.{Keeping}
use Rattle.serving.specs.Rules.{Rules}
use Rattle.serving.specs.Serve.{Request, Served, place, answers, serve}
use Rattle.serving.proofs.Faithful.{Lawful, Faithful}
use Rattle.serving.proofs.Place.{answering}
use Rattle.serving.proofs.Request.{Keeps, served_record, serve_found, serve_length, serve_keeps}

-- where every record of one table has "in use" and the SSRC that it has in another, the same place answers
place_stays : {S E R A : Type 0} (M : Rules S E R) (K : Keeping S A) (x : ℕ) (t u : List A) → ((i : ℕ) → Keeps M K t u i) → length u ≡ length t
    → place M K u x ≡ place M K t x
place_stays M K x [] [] k e = refl
place_stays M K x [] (b ∷ u) k e = absurd (omega arith)
place_stays M K x (a ∷ t) [] k e = absurd (omega arith)
place_stays M K x (a ∷ t) (b ∷ u) k e =
    ap₂ (λ test n. cond test 0 (suc n)) (ap₂ (λ ssrc used. eqb ssrc x && used) (k 0).ssrc (k 0).used)
    (place_stays M K x t u (λ i. record { used = (k (suc i)).used; ssrc = (k (suc i)).ssrc }) (omega arith))

module _ {S E R A : Type 0} (M : Rules S E R) (K : Keeping S A) (L : Lawful M) (F : Faithful M K) (x : ℕ) where
  pub serve_place : (r : Request E) (t : List A) → place M K (serve M K r t).table x ≡ place M K t x
  serve_place r t = place_stays M K x t (serve M K r t).table (serve_keeps M K r t L F) (serve_length M K r t)

  pub serve_answers : (r : Request E) (t : List A) → answers M K (serve M K r t).table x ≡ answers M K t x
  serve_answers r t = ap₂ ltb (serve_place r t) (serve_length M K r t)

  -- its own event: the record that follows by the rules
  pub own_record : (e : E) (t : List A) → answers M K t x ≡ true
      → record_at K (serve M K (record { ssrc = x; event = e }) t).table (place M K t x) ≡ (M.ruled e (record_at K t (place M K t x))).next
  own_record e t found =
      ap (λ (d : Served A R). record_at K d.table (place M K t x)) (serve_found M K (record { ssrc = x; event = e }) t found)
      ∙ served_record M K F e t (place M K t x) (answering M K t x found).2
