-- What is sought from `at` is what is sought from `from`.
use Rattle.std.proofs.Common.{◌≡◌, ◌-◌, length}
use Rattle.rtcp.specs.code.Cursor.{sought}
use Rattle.rtcp.proofs.cursor.seek_entry.Given as goal

abbrev pub invariant-loop-at : goal.invariant-loop-at
invariant-loop-at l = sought l.datagram l.at ≡ sought l.datagram l.from

abbrev pub decreases-loop-at : goal.decreases-loop-at
decreases-loop-at l = length l.datagram - l.at
