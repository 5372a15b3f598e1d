-- The line ends within what follows the place.
use Rattle.std.proofs.Common.{arith}
use Rattle.lines.proofs.Gathering.{in_line_within}
use Rattle.lines.proofs.gather.line_end.Goals as goal

pub overflow_add-result : goal.overflow_add-result
overflow_add-result c =
    let within = in_line_within c.in-Some.rest.now in
    let rest = c.in-Some.ensures.lookup.0 in
    let e = c.in_line.ensures in
    omega arith
