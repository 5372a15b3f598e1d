-- Start, find, decide, store. Assumes nothing.
use Rattle.std.proofs.Common.{arith}
use Rattle.std.proofs.lemmas.Grind.{common_steps}
use Rattle.decide.proofs.Called.{added}
use Rattle.decide.proofs.kept.calls.add.Goals as goal

pub returns-in_err-place : goal.returns-in_err-place
returns-in_err-place g c =
    let a = c.args in
    let k = added g.W.Way.Keeps.keeping a.table.now a.ssrc _ c.find.ensures a.id a.next a.rtt a.dither a.nowait _ _ _ c.start.ensures c.find_vacant.ensures c.admit.ensures in
    grind (arith, common_steps, k)

pub returns : goal.returns
returns g c =
    let a = c.args in
    let k = added g.W.Way.Keeps.keeping a.table.now a.ssrc _ c.find.ensures a.id a.next a.rtt a.dither a.nowait _ _ _ c.start.ensures c.find_vacant.ensures c.admit.ensures in
    grind (arith, common_steps, k)
