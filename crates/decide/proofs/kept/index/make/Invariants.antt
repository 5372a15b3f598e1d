-- The loop goes from the last record to the first.
use Rattle.decide.proofs.Skipped.{Marking}
use Rattle.decide.proofs.kept.index.make.Given as goal

abbrev pub invariant-loop-place : goal.invariant-loop-place
invariant-loop-place g l = Marking g.W.Way.Keeps.keeping l.table l.index l.place
