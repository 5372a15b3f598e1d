-- An entry that does nothing is gone past. Assumes nothing.
use Rattle.std.proofs.Common.{sym, ◌∙◌, arith}
use Rattle.decide.proofs.Skipped.{passed_within}
use Rattle.decide.proofs.kept.datagram.enter.Goals as goal

pub returns-then-passes_at : goal.returns-then-passes_at
returns-then-passes_at g c =
    let a = c.args in
    passed_within g.W.Way.Keeps.keeping g.met.W.Streams.same a.time (record { at = a.at; table = a.table.now; buffer = a.buffer.now }) a.entry a.next (omega arith) (omega arith)
    (rw (← c.find_by-found.ensures) (sym c.passes_at.ensures ∙ c.if-passes_at.true))
