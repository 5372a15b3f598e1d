-- The measure is the turns that are left.
use Rattle.standard.proofs.Turns.{turns_of}
use Rattle.console.proofs.main.Given as goal

abbrev pub decreases-loop-reading : goal.decreases-loop-reading
decreases-loop-reading l = turns_of l.reading
