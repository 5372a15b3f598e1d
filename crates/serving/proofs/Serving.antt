-- Requests served one after the other: each stream follows the one-stream rules on its own requests alone, whatever stands between them.
-- Assumes nothing.
use Prim.Native.Nat.{ℕ}
use mathlib.Core.Path.{◌≡◌, refl, sym, ap, ap₂, ◌∙◌, subst}
use mathlib.Core.Bool.{Bool, true, false, cond}
use mathlib.Core.List.{List, [], ◌∷◌, ◌++◌, append_assoc}
use borrow.Author.Tests.{eqb-true, eq-eqb}
use lib.Dec.{eqb}
use lib.ListN.{length}
use Rattle.serving.specs.Rules.{Rules}
use Rattle.serving.specs.Keeping.{Keeping}
use Rattle.serving.specs.Serve.{Request, Served, kept_at, served_at, unserved, serve}
use Rattle.serving.specs.Apart.{record_at, ssrc_at, InUse, NoTwo, Stranger, no_stream}
use Rattle.serving.specs.History.{own, events, answer_of, by_rules}
use Rattle.serving.specs.Run.{and_then, answered, serving, replies_to, answers_to}
use Rattle.serving.proofs.Faithful.{Lawful, Faithful}
use Rattle.serving.proofs.Filters.{replies_append, answers_append, replies_for, answers_own, answers_other}
use Rattle.serving.proofs.Place.{in_use_inside}
use Rattle.serving.proofs.Request.{Keeps, keeps_no_two, keeps_stranger, served_kept, served_record, serve_length, serve_replies_other, serve_other, serve_unused, serve_stranger, serve_own, serve_keeps}

-- what is kept of one stream after its events
abbrev pub kept_by : {S E R A : Type 0} → Rules S E R → Keeping S A → List E → A → A
kept_by M K [] a = a
kept_by M K (e ∷ es) a = kept_by M K es (K.store a (M.ruled e (K.read a)).next)

pub kept_by_rules : {S E R A : Type 0} (M : Rules S E R) (K : Keeping S A) → Faithful M K → (es : List E) (a : A) → K.read (kept_by M K es a) ≡ (by_rules M es (K.read a)).stream
kept_by_rules M K F [] a = refl
kept_by_rules M K F (e ∷ es) a =
    kept_by_rules M K F es (K.store a (M.ruled e (K.read a)).next) ∙ ap (λ s. (by_rules M es s).stream) (F.back a e)

-- what some requests did for the stream at a place: what the rules give on some events
pub record Follows {S E R A : Type 0} (M : Rules S E R) (K : Keeping S A) (rs : List (Request E)) (t : List A) (x i : ℕ) (es : List E) : Type 0 where
  pub kept : kept_at K (serving M K rs t).table i ≡ kept_by M K es (kept_at K t i)
  pub replies : replies_to M x (serving M K rs t).replies ≡ (by_rules M es (record_at K t i)).replies
  pub answers : answers_to x (serving M K rs t).answers ≡ (by_rules M es (record_at K t i)).answers

-- what they did for a stranger
pub record Ignores {S E R A : Type 0} (M : Rules S E R) (K : Keeping S A) (rs : List (Request E)) (t : List A) (x : ℕ) (es : List E) : Type 0 where
  pub replies : replies_to M x (serving M K rs t).replies ≡ []
  pub answers : answers_to x (serving M K rs t).answers ≡ no_stream M es

module _ {S E R A : Type 0} (M : Rules S E R) (K : Keeping S A) where
  pub serving_length : (rs : List (Request E)) (t : List A) → length (serving M K rs t).table ≡ length t
  serving_length [] t = refl
  serving_length (r ∷ rs) t = serving_length rs (serve M K r t).table ∙ serve_length M K r t

  -- first some requests, then others
  pub serving_append : (rs ss : List (Request E)) (t : List A)
      → serving M K (rs ++ ss) t ≡ and_then (serving M K rs t).replies (serving M K rs t).answers (serving M K ss (serving M K rs t).table)
  serving_append [] ss t = refl
  serving_append (r ∷ rs) ss t =
      rw (
        serving_append rs ss (serve M K r t).table,
        append_assoc (serve M K r t).replies (serving M K rs (serve M K r t).table).replies _,
        append_assoc (answered M r (serve M K r t).said) (serving M K rs (serve M K r t).table).answers _,
      )

  module _ (L : Lawful M) (F : Faithful M K) where
    pub serving_keeps : (rs : List (Request E)) (t : List A) (i : ℕ) → Keeps M K t (serving M K rs t).table i
    serving_keeps [] t i = record { used = refl; ssrc = refl }
    serving_keeps (r ∷ rs) t i =
        let first = serve_keeps M K r t L F i in
        let rest = serving_keeps rs (serve M K r t).table i in
        record { used = rest.used ∙ first.used; ssrc = rest.ssrc ∙ first.ssrc }

    -- a request for the stream, and one for another
    module _ (r : Request E) (rs : List (Request E)) (t : List A) (x i : ℕ) (es : List E) (rest : Follows M K rs (serve M K r t).table x i es) where
      here : NoTwo M K t → InUse M K t i → ssrc_at M K t i ≡ x → eqb r.ssrc x ≡ true → Follows M K (r ∷ rs) t x i (r.event ∷ es)
      here no_two used e is =
          let e' : ssrc_at M K t i ≡ r.ssrc = e ∙ sym (eqb-true r.ssrc x is) in
          let s : S = record_at K t i in
          let served : serve M K r t ≡ served_at M K r.event t i = serve_own M K r t L F i no_two used e' in
          let kept : kept_at K (serve M K r t).table i ≡ K.store (kept_at K t i) (M.ruled r.event s).next =
          ap (λ (d : Served A R). kept_at K d.table i) served ∙ served_kept M K r.event t i (in_use_inside M K F t i used) in
          let next : record_at K (serve M K r t).table i ≡ (M.ruled r.event s).next =
          ap (λ (d : Served A R). record_at K d.table i) served ∙ served_record M K F r.event t i (in_use_inside M K F t i used) in
          let replied : replies_to M x (serve M K r t).replies ≡ (M.ruled r.event s).sent =
          ap (λ (d : Served A R). replies_to M x d.replies) served
          ∙ replies_for M x (M.ssrc s) (M.ruled r.event s).sent (L.own r.event s)
          ∙ rw (eq-eqb (M.ssrc s) x e) in
          let said : answers_to x (answered M r (serve M K r t).said) ≡ answer_of M r.event (M.ruled r.event s).said =
          answers_own M x r (serve M K r t).said is ∙ ap (λ (d : Served A R). answer_of M r.event d.said) served in
          record {
            kept = rest.kept ∙ ap (kept_by M K es) kept;
            replies =
                replies_append M x (serve M K r t).replies (serving M K rs (serve M K r t).table).replies
                ∙ ap₂ ◌++◌ replied (rest.replies ∙ ap (λ s. (by_rules M es s).replies) next);
            answers =
                answers_append x (answered M r (serve M K r t).said) (serving M K rs (serve M K r t).table).answers
                ∙ ap₂ ◌++◌ said (rest.answers ∙ ap (λ s. (by_rules M es s).answers) next);
          }

      elsewhere : ssrc_at M K t i ≡ x → eqb r.ssrc x ≡ false → Follows M K (r ∷ rs) t x i es
      elsewhere e other =
          let kept : kept_at K (serve M K r t).table i ≡ kept_at K t i = serve_other M K r t i (rw e other) in
          record {
            kept = rest.kept ∙ ap (kept_by M K es) kept;
            replies =
                replies_append M x (serve M K r t).replies (serving M K rs (serve M K r t).table).replies
                ∙ ap₂ ◌++◌ (serve_replies_other M K r t L x other) (rest.replies ∙ ap (λ a. (by_rules M es (K.read a)).replies) kept);
            answers =
                answers_append x (answered M r (serve M K r t).said) (serving M K rs (serve M K r t).table).answers
                ∙ ap₂ ◌++◌ (answers_other M x r (serve M K r t).said other) (rest.answers ∙ ap (λ a. (by_rules M es (K.read a)).answers) kept);
          }

    -- a stream in use follows the rules on its own requests
    pub follows : (rs : List (Request E)) (t : List A) (x i : ℕ) → NoTwo M K t → InUse M K t i → ssrc_at M K t i ≡ x → Follows M K rs t x i (events (own x rs))
    follows [] t x i no_two used e = record { kept = refl; replies = refl; answers = refl }
    follows (r ∷ rs) t x i no_two used e =
        go (eqb r.ssrc x) refl
        (follows rs (serve M K r t).table x i (keeps_no_two M K t _ (serve_keeps M K r t L F) no_two) ((serve_keeps M K r t L F i).used ∙ used) ((serve_keeps M K r t L F i).ssrc ∙ e))
      where
        go : (b : Bool) → eqb r.ssrc x ≡ b → Follows M K rs (serve M K r t).table x i (events (own x rs))
            → Follows M K (r ∷ rs) t x i (events (cond b (r ∷ own x rs) (own x rs)))
        go true is rest = here r rs t x i (events (own x rs)) rest no_two used e is
        go false is rest = elsewhere r rs t x i (events (own x rs)) rest e is

    -- what is kept of a record not in use stays
    pub unused_stays : (rs : List (Request E)) (t : List A) (i : ℕ) → ¬ InUse M K t i → kept_at K (serving M K rs t).table i ≡ kept_at K t i
    unused_stays [] t i unused = refl
    unused_stays (r ∷ rs) t i unused =
        unused_stays rs (serve M K r t).table i (λ used. unused (sym (serve_keeps M K r t L F i).used ∙ used)) ∙ serve_unused M K r t i unused

    -- a stranger gets NoStream and no reply
    pub ignores : (rs : List (Request E)) (t : List A) (x : ℕ) → Stranger M K t x → Ignores M K rs t x (events (own x rs))
    ignores [] t x stranger = record { replies = refl; answers = refl }
    ignores (r ∷ rs) t x stranger =
        go (eqb r.ssrc x) refl (ignores rs (serve M K r t).table x (keeps_stranger M K t _ x (serve_keeps M K r t L F) stranger))
      where
        go : (b : Bool) → eqb r.ssrc x ≡ b → Ignores M K rs (serve M K r t).table x (events (own x rs))
            → Ignores M K (r ∷ rs) t x (events (cond b (r ∷ own x rs) (own x rs)))
        go true is rest =
            let unserved : serve M K r t ≡ unserved t = serve_stranger M K r t (subst (Stranger M K t) (sym (eqb-true r.ssrc x is)) stranger) in
            record {
              replies =
                  replies_append M x (serve M K r t).replies (serving M K rs (serve M K r t).table).replies
                  ∙ ap₂ ◌++◌ (ap (λ (d : Served A R). replies_to M x d.replies) unserved) rest.replies;
              answers =
                  answers_append x (answered M r (serve M K r t).said) (serving M K rs (serve M K r t).table).answers
                  ∙ ap₂ ◌++◌ (answers_own M x r (serve M K r t).said is ∙ ap (λ (d : Served A R). answer_of M r.event d.said) unserved) rest.answers;
            }
        go false is rest =
            record {
              replies =
                  replies_append M x (serve M K r t).replies (serving M K rs (serve M K r t).table).replies
                  ∙ ap₂ ◌++◌ (serve_replies_other M K r t L x is) rest.replies;
              answers =
                  answers_append x (answered M r (serve M K r t).said) (serving M K rs (serve M K r t).table).answers
                  ∙ ap₂ ◌++◌ (answers_other M x r (serve M K r t).said is) rest.answers;
            }
