-- Demand 3, streams are apart: a stream's own history among some requests, and the rules on that history alone.
use Rattle.std.specs.Prelude.{cond, List, [], ◌∷◌, ◌++◌, map, ℕ, eqb}
use Rattle.serving.specs.Rules.{Rules, Ruled}
use Rattle.serving.specs.Serve.{Request}

-- of some requests those for one SSRC, in their order
abbrev pub own : {E : Type 0} → ℕ → List (Request E) → List (Request E)
own ssrc [] = []
own ssrc (r ∷ rs) = cond (eqb r.ssrc ssrc) (r ∷ own ssrc rs) (own ssrc rs)

-- what happens, without for whom
abbrev pub events : {E : Type 0} → List (Request E) → List E
events rs = map (λ r. r.event) rs

-- a local call is answered; an entry of a datagram is not answered by itself
abbrev pub answer_of : {S E R : Type 0} → Rules S E R → E → ℕ × List ℕ → List (ℕ × List ℕ)
answer_of M e said = cond (M.called e) (said ∷ []) []

-- what the rules give on one stream's events: the record at the end, its messages and the answers to its local calls, each in order
pub record Alone (S R : Type 0) : Type 0 where
  pub stream : S
  pub replies : List R
  pub answers : List (ℕ × List ℕ)

-- one event, and then the rest
abbrev pub onward : {S E R : Type 0} → Rules S E R → E → Ruled S R → Alone S R → Alone S R
onward M e r rest =
    record {
      stream = rest.stream;
      replies = r.sent ++ rest.replies;
      answers = answer_of M e r.said ++ rest.answers;
    }

abbrev pub by_rules : {S E R : Type 0} → Rules S E R → List E → S → Alone S R
by_rules M [] s = record { stream = s; replies = []; answers = [] }
by_rules M (e ∷ es) s = onward M e (M.ruled e s) (by_rules M es (M.ruled e s).next)
