-- The loop keeps a piece within what it lends; the measure is the turns that are left.
use Rattle.std.proofs.Common.{◌≤◌, length}
use Rattle.line.proofs.main.Given as goal

abbrev pub invariant-loop-input : goal.invariant-loop-input
invariant-loop-input l = l.piece.end ≤ length l.input

abbrev pub decreases-loop-input : goal.decreases-loop-input
decreases-loop-input l = l.piece.turns
