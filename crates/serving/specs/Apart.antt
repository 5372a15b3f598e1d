-- Demand 3, streams are apart: what the theorem says. proofs/Apart.antt proves it for all rules that keep a record's identity and every way of keeping records
-- that reads back what it stores.
use Rattle.std.specs.Prelude.{true, ◌≡◌, List, [], ◌∷◌, ◌++◌, ℕ, length}
use Rattle.serving.specs.History.{Alone, own, events, answer_of, by_rules}
use Rattle.serving.specs.Keeping.{Keeping}
use Rattle.serving.specs.Rules.{Rules}
use Rattle.serving.specs.Run.{Run, replies_to, answers_to}
use Rattle.serving.specs.Serve.{Request, kept_at}

-- the record at a place of a table, its SSRC, and that it is in use
abbrev pub record_at : {S A : Type 0} → Keeping S A → List A → ℕ → S
record_at K t i = K.read (kept_at K t i)

abbrev pub ssrc_at : {S E R A : Type 0} → Rules S E R → Keeping S A → List A → ℕ → ℕ
ssrc_at M K t i = M.ssrc (record_at K t i)

abbrev pub InUse : {S E R A : Type 0} → Rules S E R → Keeping S A → List A → ℕ → Type 0
InUse M K t i = M.used (record_at K t i) ≡ true

-- no two records in use share an SSRC
abbrev pub NoTwo : {S E R A : Type 0} → Rules S E R → Keeping S A → List A → Type 0
NoTwo M K t = (i j : ℕ) → InUse M K t i → InUse M K t j → ssrc_at M K t i ≡ ssrc_at M K t j → i ≡ j

-- an SSRC that no record in use has
abbrev pub Stranger : {S E R A : Type 0} → Rules S E R → Keeping S A → List A → ℕ → Type 0
Stranger M K t ssrc = (i : ℕ) → InUse M K t i → ¬ (ssrc_at M K t i ≡ ssrc)

-- what the rules give for the stream at a place, on its own history alone
abbrev pub alone : {S E R A : Type 0} → Rules S E R → Keeping S A → List (Request E) → List A → ℕ → Alone S R
alone M K rs t i = by_rules M (events (own (ssrc_at M K t i) rs)) (record_at K t i)

-- case 12, NoStream, for each local call among some events
abbrev pub no_stream : {S E R : Type 0} → Rules S E R → List E → List (ℕ × List ℕ)
no_stream M [] = []
no_stream M (e ∷ es) = answer_of M e (12, 0 ∷ []) ++ no_stream M es

-- what some requests, which left a table so, did for each stream
pub record Apart {S E R A : Type 0} (M : Rules S E R) (K : Keeping S A) (rs : List (Request E)) (t : List A) (after : Run A R) : Type 0 where
  -- for each stream in use: its record after them, the messages that count for it, and the answers to its local calls
  pub record_by_rules : (i : ℕ) → InUse M K t i → record_at K after.table i ≡ (alone M K rs t i).stream
  pub replies_by_rules : (i : ℕ) → InUse M K t i → replies_to M (ssrc_at M K t i) after.replies ≡ (alone M K rs t i).replies
  pub answers_by_rules : (i : ℕ) → InUse M K t i → answers_to (ssrc_at M K t i) after.answers ≡ (alone M K rs t i).answers
  -- what is kept of a record not in use does not change, nor does the number of records
  pub unused_stay : (i : ℕ) → ¬ InUse M K t i → kept_at K after.table i ≡ kept_at K t i
  pub size_stays : length after.table ≡ length t
  -- an SSRC not in use: each local call for it answers NoStream, and no message counts for it
  pub strangers_answered : (ssrc : ℕ) → Stranger M K t ssrc → answers_to ssrc after.answers ≡ no_stream M (events (own ssrc rs))
  pub strangers_silent : (ssrc : ℕ) → Stranger M K t ssrc → replies_to M ssrc after.replies ≡ []
