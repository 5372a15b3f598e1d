-- The line is put where it has room.
use Rattle.std.proofs.Common.{◌+◌, ◌*◌, ◌≤◌, length, sym, ◌∙◌, leb-false, leb-true}
use Rattle.lines.proofs.Printing.{print_is, print_none}
use Rattle.lines.proofs.hex.print.Goals as goal

pub returns-then-has_room-clause-printing : goal.returns-then-has_room-clause-printing
returns-then-has_room-clause-printing c =
    let a = c.args in
    let room : a.at + (2 * (length a.first.now + length a.then.now) + 1) ≤ length a.out.now = leb-true _ _ (sym c.has_room.ensures ∙ c.if-has_room.true) in
    rw (c.put_line.ensures.0, c.put_line.ensures.1) (print_is a.first.now a.then.now a.out.now a.at room)

pub returns-else-has_room-clause-printing : goal.returns-else-has_room-clause-printing
returns-else-has_room-clause-printing c =
    let a = c.args in
    print_none a.first.now a.then.now a.out.now a.at (leb-false _ _ (sym c.has_room.ensures ∙ c.if-has_room.false))
