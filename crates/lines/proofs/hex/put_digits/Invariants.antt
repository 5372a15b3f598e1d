-- The loop goes from byte to byte.
use Rattle.lines.proofs.Printing.{Putting}
use Rattle.lines.proofs.hex.put_digits.Given as goal

abbrev pub invariant-loop-i : goal.invariant-loop-i
invariant-loop-i l = Putting l.bytes l.fn.out l.at l.i l.out
