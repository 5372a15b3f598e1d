-- Document 01, "The table": one request served on a table.
use Rattle.std.specs.Prelude.{Bool, cond, ◌&&◌, List, [], ◌∷◌, ℕ, suc, length, get_or, set, eqb, ltb}
use Rattle.serving.specs.Keeping.{Keeping}
use Rattle.serving.specs.Rules.{Rules}

-- a record in use with the SSRC
abbrev pub holds : {S E R : Type 0} → Rules S E R → S → ℕ → Bool
holds M s ssrc = eqb (M.ssrc s) ssrc && M.used s

-- the place of the first that passes a test, counted from 0; the list's length where none does
abbrev pub first : {A : Type 0} → (A → Bool) → List A → ℕ
first test [] = 0
first test (a ∷ t) = cond (test a) 0 (suc (first test t))

-- "The first record in use with an SSRC answers for it."
abbrev pub place : {S E R A : Type 0} → Rules S E R → Keeping S A → List A → ℕ → ℕ
place M K t ssrc = first (λ a. holds M (K.read a) ssrc) t

-- the table has a record in use with the SSRC
abbrev pub answers : {S E R A : Type 0} → Rules S E R → Keeping S A → List A → ℕ → Bool
answers M K t ssrc = ltb (place M K t ssrc) (length t)

-- what is kept at a place
abbrev pub kept_at : {S A : Type 0} → Keeping S A → List A → ℕ → A
kept_at K t i = get_or t i K.none

-- a request: an event for an SSRC
pub record Request (E : Type 0) : Type 0 where
  pub ssrc : ℕ
  pub event : E

-- what follows a request: the table, the messages and what was said
pub record Served (A R : Type 0) : Type 0 where
  pub table : List A
  pub replies : List R
  pub said : ℕ × List ℕ

-- the event on the record at a place, which is stored where it stood
abbrev pub served_at : {S E R A : Type 0} → Rules S E R → Keeping S A → E → List A → ℕ → Served A R
served_at M K e t i =
    record {
      table = set t i (K.store (kept_at K t i) (M.ruled e (K.read (kept_at K t i))).next);
      replies = (M.ruled e (K.read (kept_at K t i))).sent;
      said = (M.ruled e (K.read (kept_at K t i))).said;
    }

-- case 12, NoStream: nothing changes
abbrev pub unserved : {A R : Type 0} → List A → Served A R
unserved t = record { table = t; replies = []; said = (12, 0 ∷ []) }

-- one request: the record that answers for its SSRC follows the rules, all others stay
unfoldable pub serve : {S E R A : Type 0} → Rules S E R → Keeping S A → Request E → List A → Served A R
serve M K r t = cond (answers M K t r.ssrc) (served_at M K r.event t (place M K t r.ssrc)) (unserved t)
