-- The datagram opens, there is room, and its entries run. Assumes nothing.
use Rattle.decide.proofs.Opened.{datagram_by}
use Rattle.decide.proofs.kept.calls.datagram.Goals as goal

pub returns : goal.returns
returns g c =
    let a = c.args in
    datagram_by g.W.Way.Keeps.keeping a.datagram.now a.time a.table.now a.buffer.now _ c.open.ensures _ c.in_ok-entries.ensures _ _ _ c.turns-at.ensures
