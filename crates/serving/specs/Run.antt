-- Demand 3, streams are apart: requests served one after the other.
use Rattle.std.specs.Prelude.{cond, List, [], ◌∷◌, ◌++◌, map, ℕ, eqb}
use Rattle.serving.specs.History.{answer_of}
use Rattle.serving.specs.Keeping.{Keeping}
use Rattle.serving.specs.Rules.{Rules}
use Rattle.serving.specs.Serve.{Request, serve}

-- an answer to a local call: for whom, and what was said, case and values
pub record Answer : Type 0 where
  pub ssrc : ℕ
  pub said : ℕ × List ℕ

-- what a run comes to: the table at the end, and the messages that were sent and the answers to the local calls, in order over the whole run
pub record Run (A R : Type 0) : Type 0 where
  pub table : List A
  pub replies : List R
  pub answers : List Answer

abbrev pub idle : {A R : Type 0} → List A → Run A R
idle t = record { table = t; replies = []; answers = [] }

-- some messages and answers, and then the rest
abbrev pub and_then : {A R : Type 0} → List R → List Answer → Run A R → Run A R
and_then replies answers rest = record { table = rest.table; replies = replies ++ rest.replies; answers = answers ++ rest.answers }

-- the answer to a request, where it is a local call
abbrev pub answered : {S E R : Type 0} → Rules S E R → Request E → ℕ × List ℕ → List Answer
answered M r said = map (λ s. record { ssrc = r.ssrc; said = s }) (answer_of M r.event said)

-- requests served one after the other
abbrev pub serving : {S E R A : Type 0} → Rules S E R → Keeping S A → List (Request E) → List A → Run A R
serving M K [] t = idle t
serving M K (r ∷ rs) t = and_then (serve M K r t).replies (answered M r (serve M K r t).said) (serving M K rs (serve M K r t).table)

-- of some messages those from one SSRC; of some answers what was said for one SSRC
abbrev pub replies_to : {S E R : Type 0} → Rules S E R → ℕ → List R → List R
replies_to M ssrc [] = []
replies_to M ssrc (m ∷ ms) = cond (eqb (M.from m) ssrc) (m ∷ replies_to M ssrc ms) (replies_to M ssrc ms)

abbrev pub answers_to : ℕ → List Answer → List (ℕ × List ℕ)
answers_to ssrc [] = []
answers_to ssrc (a ∷ rest) = cond (eqb a.ssrc ssrc) (a.said ∷ answers_to ssrc rest) (answers_to ssrc rest)
