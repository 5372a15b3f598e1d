-- Case 1, the empty datagram, and then packet by packet.
use Rattle.std.proofs.Common.{sym, ap, ◌∙◌, arith}
use borrow.Author.Tests.{eqb-true, eqb-false}
use Rattle.rtcp.specs.Said.{checked_said, reading_said}
use Rattle.rtcp.specs.Datagram.{packets}
use Rattle.rtcp.specs.code.Equations.{reading_long, reading_empty, reading_packets}
use Rattle.rtcp.proofs.Cases.{counted_said}
use Rattle.rtcp.proofs.datagram.check.Goals as goal

pub returns-then-datagram-gt-MOST_BYTES : goal.returns-then-datagram-gt-MOST_BYTES
returns-then-datagram-gt-MOST_BYTES c = rw (c.refused.ensures, reading_long c.args.datagram.now c.if-datagram-gt-MOST_BYTES.true)

pub returns-then-is_empty : goal.returns-then-is_empty
returns-then-is_empty c = rw (c.refused-then-is_empty.ensures, reading_empty c.args.datagram.now (eqb-true _ _ (sym c.is_empty.ensures ∙ c.if-is_empty.true)))

pub returns : goal.returns
returns c =
    let d = c.args.datagram.now in
    ap checked_said c.count_packets.ensures ∙ counted_said (packets d 0)
    ∙ sym (ap reading_said (reading_packets d (omega (arith, eqb-false _ _ (sym c.is_empty.ensures ∙ c.if-is_empty.false))) c.if-datagram-gt-MOST_BYTES.false))
