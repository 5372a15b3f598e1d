-- Line after line; the measure is what is left of the input.
use Rattle.std.proofs.Common.{◌-◌, length}
use Rattle.feed.proofs.Passing.{Going}
use Rattle.feed.proofs.feed.Given as goal

abbrev pub invariant-loop-table : goal.invariant-loop-table
invariant-loop-table l =
    Going (record { held = l.held; line = l.fn.line; table = l.fn.table; buffers = record { bytes = l.fn.bytes; reply = l.fn.reply } }) l.input l.fn.out l.at l.fed
    (record { held = l.fed.held; line = l.line; table = l.table; buffers = record { bytes = l.bytes; reply = l.reply } }) l.out

abbrev pub decreases-loop-table : goal.decreases-loop-table
decreases-loop-table l = length l.input - l.fed.at
