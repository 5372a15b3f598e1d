use Rattle.std.proofs.Common.{sym, ◌∙◌}
use Rattle.standard.proofs.Turns.{fewer_turns}
use Rattle.line.proofs.main.Goals as goal

pub loop-input-smaller : goal.loop-input-smaller
loop-input-smaller c = fewer_turns _ _ (sym c.more.ensures ∙ c.loop-input-test.true) c.next-piece-in-loop-input.ensures.turn
