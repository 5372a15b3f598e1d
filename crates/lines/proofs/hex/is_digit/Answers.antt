-- A digit is in one row or the other.
use Rattle.std.proofs.Common.{arith}
use Rattle.lines.proofs.Bytes.{is_decimal, is_letter, is_neither}
use Rattle.lines.proofs.hex.is_digit.Goals as goal

pub returns-in-48-to-57 : goal.returns-in-48-to-57
returns-in-48-to-57 c = is_decimal c.args.byte (omega arith) (omega arith)

pub returns-in-48-to-57-2 : goal.returns-in-48-to-57-2
returns-in-48-to-57-2 c = is_letter c.args.byte (omega arith) (omega arith)

pub returns-in_default : goal.returns-in_default
returns-in_default c = is_neither c.args.byte (λ low high. omega arith) (λ low high. omega arith)

pub returns-in_default-2 : goal.returns-in_default-2
returns-in_default-2 c = is_neither c.args.byte (λ low high. omega arith) (λ low high. omega arith)

pub returns-in_default-3 : goal.returns-in_default-3
returns-in_default-3 c = is_neither c.args.byte (λ low high. omega arith) (λ low high. omega arith)
