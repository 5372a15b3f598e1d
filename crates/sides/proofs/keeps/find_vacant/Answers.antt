-- The search is std's `position` of the rows that are not in use. Assumes nothing.
use Rattle.std.proofs.Common.{Bool, not, ◌∙◌, rules}
use Rattle.std.proofs.lemmas.Iterator.{YieldsList-from_slice}
use Rattle.std.proofs.lemmas.Iterator.Search.{position_from_yields_List}
use Rattle.sides.proofs.Search.{position_found}
use Rattle.sides.proofs.keeps.find_vacant.Goals as goal

pub returns-clause-is : goal.returns-clause-is
returns-clause-is g c =
    let test : g.row.K-Kept.Denot → Bool = λ a. not (g.K.Keeps.used (g.K.Keeps.keeping.read a)) in
    position_from_yields_List test _ _ _ c.position.ensures.ran (YieldsList-from_slice c.args.table.now (cc)) (λ x b q k. search rules)
    ∙ position_found test c.args.table.now
