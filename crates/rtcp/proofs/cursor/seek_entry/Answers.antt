-- A packet is passed over, or its first entry is what is sought.
use Rattle.std.proofs.Common.{sym, arith}
use Rattle.rtcp.specs.code.Equations.{opened_over, opened_within, sought_done, sought_step}
use Rattle.rtcp.proofs.cursor.seek_entry.Goals as goal

pub loop-at-smaller : goal.loop-at-smaller
loop-at-smaller c = omega (arith, opened_over c.args.datagram.now c.loop-at.at _ (sym (rw c.in-Ok-Over.field-0-is at c.in-Ok-Over.ensures)))

pub loop-at-preserved : goal.loop-at-preserved
loop-at-preserved c =
    rw (← c.loop-at.invariant, sought_step c.args.datagram.now c.loop-at.at c.loop-at-test.true, ← c.in-Ok-Over.ensures, c.in-Ok-Over.field-0-is)

pub take_entry-requires : goal.take_entry-requires
take_entry-requires c = omega (arith, opened_within c.args.datagram.now c.loop-at.at _ (sym (rw c.in-Ok-Within.field-0-is at c.in-Ok-Within.ensures)))

pub returns-in-Ok-Within : goal.returns-in-Ok-Within
returns-in-Ok-Within c =
    rw (c.take_entry.ensures, ← c.loop-at.invariant, sought_step c.args.datagram.now c.loop-at.at c.loop-at-test.true, ← c.in-Ok-Within.ensures, c.in-Ok-Within.field-0-is)

pub returns-in-Err : goal.returns-in-Err
returns-in-Err c =
    rw (← c.loop-at.invariant, sought_step c.args.datagram.now c.loop-at.at c.loop-at-test.true, ← c.in-Err.ensures)

pub returns : goal.returns
returns c = rw (← c.loop-at.invariant, sought_done c.args.datagram.now c.loop-at.at c.loop-at-test.false)
