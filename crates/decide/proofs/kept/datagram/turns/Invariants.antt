-- Before each entry, what has run is the entries before it, and the index is one of the table still.
use Rattle.decide.specs.code.Index.{Indexed}
use Rattle.decide.proofs.Before.{Before}
use Rattle.decide.proofs.kept.datagram.turns.Given as goal

abbrev pub invariant-loop : goal.invariant-loop
invariant-loop g l =
    let K = g.W.Way.Keeps.keeping in
    Before K l.time l.datagram l.fn.table l.fn.buffer l.n l.counter (record { at = l.at; table = l.table; buffer = l.buffer }) × Indexed K l.table l.index
