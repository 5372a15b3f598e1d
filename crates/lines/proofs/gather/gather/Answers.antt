-- The line's end is found, and what stands before it is kept.
use Rattle.std.proofs.Common.{arith}
use Rattle.lines.proofs.Gathering.{gather_is, there}
use Rattle.lines.proofs.gather.gather.Goals as goal

pub keep-held-requires : goal.keep-held-requires
keep-held-requires c = there _ _ _ c.line_end-end.ensures

pub returns-clause-gathering : goal.returns-clause-gathering
returns-clause-gathering c = gather_is _ _ _ c.line_end-end.ensures _ _ _ _ c.keep-held.ensures.0 c.keep-held.ensures.1

pub returns-clause-within : goal.returns-clause-within
returns-clause-within c =
    let end = c.line_end-end.ensures in
    let kept = c.keep-held.ensures.0 in
    let within = there _ _ _ end in
    (omega arith, omega arith, omega arith)
