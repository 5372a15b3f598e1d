-- What is below a and a digit is one of 0 to 9.
use Rattle.std.proofs.Common.{arith}
use Rattle.lines.proofs.Bytes.{known}
use Rattle.lines.proofs.hex.known.Goals as goal

pub overflow_sub-result : goal.overflow_sub-result
overflow_sub-result c = ((known c.args.digit c.requires).decimal c.if-digit-lt97.true).0

pub returns-then-digit-lt97 : goal.returns-then-digit-lt97
returns-then-digit-lt97 c = let now = (known c.args.digit c.requires).decimal c.if-digit-lt97.true in record { value = omega arith; small = omega arith }

pub returns-else-digit-lt97 : goal.returns-else-digit-lt97
returns-else-digit-lt97 c = let now = (known c.args.digit c.requires).letter c.if-digit-lt97.false in record { value = omega arith; small = omega arith }
