-- Nothing that is sought stands before the indexed place; what a search asks is what the rules say. Assumes nothing.
use Rattle.std.proofs.Common.{ap, ◌∙◌}
use Rattle.sides.specs.code.Search.{found_from}
use Rattle.decide.proofs.Skipped.{found_there}
use Rattle.decide.proofs.kept.index.find_by.Goals as goal

pub returns : goal.returns
returns g c =
    let K = g.W.Way.Keeps.keeping in
    let a = c.args in
    c.find_from.ensures.is
    ∙ ap (λ held. found_from K held a.table.now a.ssrc c.from.result) g.met.W.Streams.held
    ∙ rw (c.from.ensures, c.slot.ensures) (found_there K a.table.now a.ssrc a.index.now c.requires)
