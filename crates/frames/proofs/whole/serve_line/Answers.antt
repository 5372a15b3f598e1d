-- What is no hexadecimal is Line.
use Rattle.frames.specs.Whole.{digits_served}
use Rattle.lines.proofs.ReadBytes.{read_none}
use Rattle.frames.proofs.whole.serve_line.Goals as goal

pub returns-in-None-clause-serving : goal.returns-in-None-clause-serving
unfolding digits_served
returns-in-None-clause-serving c = rw (read_none _ _ _ c.in-None.ensures.reading, c.refused.ensures)
