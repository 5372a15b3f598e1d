-- The digits of both pieces, and then the line feed.
use Rattle.std.proofs.Common.{arith}
use Rattle.lines.proofs.Printing.{put_is}
use Rattle.lines.proofs.hex.put_line.Goals as goal

pub returns : goal.returns
returns c =
    let a = c.args in
    let first = c.put_digits-middle.ensures in
    let then = c.put_digits-end.ensures in
    (omega (arith, first.0, then.0), put_is a.first.now a.then.now a.out.now a.at _ _ first.0 then.0 _ _ first.1 then.1)
