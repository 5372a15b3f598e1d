-- What is found behind the place is found at the place further on; past the table's end nothing is. Assumes nothing.
use Rattle.std.proofs.Common.{Bool, ◌∙◌, sym, rules}
use Rattle.sides.proofs.Search.{from_past, from_none, from_some}
use Rattle.sides.proofs.keeps.find_from.Goals as goal

pub returns-in_err-get-clause-is : goal.returns-in_err-get-clause-is
returns-in_err-get-clause-is g c = search (rules, from_past)

pub returns-in_err-behind-clause-is : goal.returns-in_err-behind-clause-is
returns-in_err-behind-clause-is g c =
    let test : g.row.K-Kept.Denot → Bool = λ a. g.K.Keeps.held (g.K.Keeps.keeping.read a) c.args.ssrc in
    c.from_residual-in_err-behind.ensures ∙ from_none test c.args.table.now c.args.from c.in_ok-get.field-0.now (search rules) (search rules) (sym c.in_err-behind.was ∙ c.find.ensures.is)

pub returns-clause-is : goal.returns-clause-is
returns-clause-is g c =
    let test : g.row.K-Kept.Denot → Bool = λ a. g.K.Keeps.held (g.K.Keeps.keeping.read a) c.args.ssrc in
    from_some test c.args.table.now c.args.from c.in_ok-get.field-0.now (search rules) (search rules) c.in_ok-behind.behind (sym c.in_ok-behind.was ∙ c.find.ensures.is)
