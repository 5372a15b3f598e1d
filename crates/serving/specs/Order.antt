-- Demand 3, streams are apart: "serving one stream after another, streams in any order".
use Rattle.std.specs.Prelude.{cond, ◌≡◌, List, [], ◌∷◌, ◌++◌, ℕ, eqb}
use Rattle.serving.specs.History.{own}
use Rattle.serving.specs.Rules.{Rules}
use Rattle.serving.specs.Run.{Run, replies_to, answers_to}
use Rattle.serving.specs.Serve.{Request}

-- of some requests those for all other SSRCs, in their order
abbrev pub others : {E : Type 0} → ℕ → List (Request E) → List (Request E)
others ssrc [] = []
others ssrc (r ∷ rs) = cond (eqb r.ssrc ssrc) (others ssrc rs) (r ∷ others ssrc rs)

-- One stream after another: all requests of the first, in their original order with their original times, then all of the second, and so on; what is left in
-- the end is for none of them, and no request is dropped. The order is any list of SSRCs: every order of the streams in use is one.
abbrev pub one_by_one : {E : Type 0} → List ℕ → List (Request E) → List (Request E)
one_by_one [] rs = rs
one_by_one (ssrc ∷ order) rs = own ssrc rs ++ one_by_one order (others ssrc rs)

-- two runs that no stream can tell apart: the same table, and for every SSRC, in use or not, the same messages and the same answers, in the same order
pub record Alike {S E R A : Type 0} (M : Rules S E R) (one other : Run A R) : Type 0 where
  pub table : one.table ≡ other.table
  pub replies : (ssrc : ℕ) → replies_to M ssrc one.replies ≡ replies_to M ssrc other.replies
  pub answers : (ssrc : ℕ) → answers_to ssrc one.answers ≡ answers_to ssrc other.answers
