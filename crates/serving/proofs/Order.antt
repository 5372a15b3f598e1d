-- Requests in which every stream has the same own history, served, are alike; and so are any requests and the same one stream after another, in any order of
-- the streams.
-- Assumes nothing.
use Prim.Native.Nat.{ℕ}
use mathlib.Core.Path.{◌≡◌, refl, sym, ap, ◌∙◌}
use mathlib.Core.Bool.{Bool, true, false, cond, true≢false}
use mathlib.Core.List.{List, [], ◌∷◌, ◌++◌}
use borrow.Author.Tests.{eqb-true, eqb-false, ne_eqb}
use lib.Dec.{eqb}
use lib.Seq.{ext_get_or}
use Rattle.serving.specs.Rules.{Rules}
use Rattle.serving.specs.Keeping.{Keeping}
use Rattle.serving.specs.Serve.{Request, answers, place, kept_at}
use Rattle.serving.specs.Apart.{record_at, ssrc_at, InUse, NoTwo, Stranger, no_stream}
use Rattle.serving.specs.History.{own, events, by_rules}
use Rattle.serving.specs.Order.{others, one_by_one, Alike}
use Rattle.serving.specs.Run.{serving, replies_to, answers_to}
use Rattle.serving.proofs.Faithful.{Lawful, Faithful}
use Rattle.serving.proofs.Filters.{own_append}
use Rattle.serving.proofs.Place.{answering, in_use_answers}
use Rattle.serving.proofs.Serving.{kept_by, serving_length, follows, unused_stays, ignores}

-- ---- the requests of each stream, one stream after another, are the same in the same order

own_apart : {E : Type 0} (x y : ℕ) → ¬ (y ≡ x) → (rs : List (Request E)) → own x (own y rs) ≡ []
own_apart x y apart [] = refl
own_apart x y apart (r ∷ rs) = go (eqb r.ssrc y) refl (own_apart x y apart rs)
  where
    go : (b : Bool) → eqb r.ssrc y ≡ b → own x (own y rs) ≡ [] → own x (cond b (r ∷ own y rs) (own y rs)) ≡ []
    go true e rest = rw (ne_eqb r.ssrc x (λ is. apart (sym (eqb-true r.ssrc y e) ∙ is))) rest
    go false e rest = rest

own_parts : {E : Type 0} (x y : ℕ) (rs : List (Request E)) → own x (own y rs) ++ own x (others y rs) ≡ own x rs
own_parts x y [] = refl
own_parts {E = E} x y (r ∷ rs) = go (eqb r.ssrc y) (eqb r.ssrc x) refl refl (own_parts x y rs)
  where
    go : (b c : Bool) → eqb r.ssrc y ≡ b → eqb r.ssrc x ≡ c → own x (own y rs) ++ own x (others y rs) ≡ own x rs
        → own x (cond b (r ∷ own y rs) (own y rs)) ++ own x (cond b (others y rs) (r ∷ others y rs)) ≡ cond c (r ∷ own x rs) (own x rs)
    go true true e f rest = rw (f, rest)
    go true false e f rest = rw f rest
    go false true e f rest =
        let none : own x (own y rs) ≡ [] = own_apart x y (λ is. eqb-false r.ssrc y e (eqb-true r.ssrc x f ∙ sym is)) rs in
        rw (f, none) (ap {B = List (Request E)} (λ l. r ∷ l) (rw none at rest))
    go false false e f rest = rw f rest

-- each stream's own requests, in their original order; no request is dropped
own_one_by_one : {E : Type 0} (order : List ℕ) (rs : List (Request E)) (x : ℕ) → own x (one_by_one order rs) ≡ own x rs
own_one_by_one [] rs x = refl
own_one_by_one (y ∷ order) rs x =
    own_append x (own y rs) (one_by_one order (others y rs))
    ∙ ap (λ l. own x (own y rs) ++ l) (own_one_by_one order (others y rs) x)
    ∙ own_parts x y rs

-- ---- where every stream has the same own requests, all is the same

module _ {S E R A : Type 0} (M : Rules S E R) (K : Keeping S A) (L : Lawful M) (F : Faithful M K) (rs ss : List (Request E)) (t : List A) (no_two : NoTwo M K t)
    (same : (x : ℕ) → own x rs ≡ own x ss) where
  same_table : (serving M K rs t).table ≡ (serving M K ss t).table
  same_table =
      ext_get_or K.none (serving M K rs t).table (serving M K ss t).table (serving_length M K rs t ∙ sym (serving_length M K ss t)) (λ i h. at i (M.used (record_at K t i)) refl)
    where
      at : (i : ℕ) (b : Bool) → M.used (record_at K t i) ≡ b → kept_at K (serving M K rs t).table i ≡ kept_at K (serving M K ss t).table i
      at i true used =
          let x : ℕ = ssrc_at M K t i in
          (follows M K L F rs t x i no_two used refl).kept
          ∙ ap (λ own. kept_by M K (events own) (kept_at K t i)) (same x)
          ∙ sym (follows M K L F ss t x i no_two used refl).kept
      at i false e =
          let unused : ¬ InUse M K t i = λ used. true≢false (sym used ∙ e) in
          unused_stays M K L F rs t i unused ∙ sym (unused_stays M K L F ss t i unused)

  -- an SSRC is in use, or a stranger's
  by_ssrc : (x : ℕ) (P : Type 0) → ((i : ℕ) → InUse M K t i → ssrc_at M K t i ≡ x → P) → (Stranger M K t x → P) → P
  by_ssrc x P one none = go (answers M K t x) refl
    where
      go : (b : Bool) → answers M K t x ≡ b → P
      go true e = let a = answering M K t x e in one (place M K t x) a.0 a.1
      go false e = none (λ i used is. true≢false (sym (in_use_answers M K F t i x used is) ∙ e))

  pub alike_serving : Alike M (serving M K rs t) (serving M K ss t)
  alike_serving =
      record {
        table = same_table;
        replies = λ x.
            by_ssrc x (replies_to M x (serving M K rs t).replies ≡ replies_to M x (serving M K ss t).replies)
            (λ i used is.
            (follows M K L F rs t x i no_two used is).replies
            ∙ ap (λ own. (by_rules M (events own) (record_at K t i)).replies) (same x)
            ∙ sym (follows M K L F ss t x i no_two used is).replies)
            (λ stranger. (ignores M K L F rs t x stranger).replies ∙ sym (ignores M K L F ss t x stranger).replies);
        answers = λ x.
            by_ssrc x (answers_to x (serving M K rs t).answers ≡ answers_to x (serving M K ss t).answers)
            (λ i used is.
            (follows M K L F rs t x i no_two used is).answers
            ∙ ap (λ own. (by_rules M (events own) (record_at K t i)).answers) (same x)
            ∙ sym (follows M K L F ss t x i no_two used is).answers)
            (λ stranger.
            (ignores M K L F rs t x stranger).answers
            ∙ ap (λ own. no_stream M (events own)) (same x)
            ∙ sym (ignores M K L F ss t x stranger).answers);
      }

-- one stream after another, in any order of the streams
pub in_any_order : {S E R A : Type 0} (M : Rules S E R) (K : Keeping S A) → Lawful M → Faithful M K → (rs : List (Request E)) (t : List A) → NoTwo M K t → (order : List ℕ)
    → Alike M (serving M K rs t) (serving M K (one_by_one order rs) t)
in_any_order M K L F rs t no_two order = alike_serving M K L F rs (one_by_one order rs) t no_two (λ x. sym (own_one_by_one order rs x))
