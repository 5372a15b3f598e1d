use Rattle.standard.proofs.Turns.{fewer_lines}
use Rattle.lent_cases.proofs.main.Goals as goal

pub loop-reading-smaller : goal.loop-reading-smaller
loop-reading-smaller c =
    let next = c.next_line-reading-in-loop-reading in
    fewer_lines c.loop-reading.reading next.result c.loop-reading-test.true next.ensures.turn
