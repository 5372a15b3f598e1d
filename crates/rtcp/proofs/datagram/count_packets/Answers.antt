-- A packet is refused, passed over, or its entries are counted, and the next starts past it.
use Rattle.std.proofs.Common.{◌≡◌, sym, ◌∙◌, arith}
use Rattle.std.specs.Prelude.{Ok}
use Rattle.std.proofs.lemmas.Result.{err_from_is_err_and}
use Rattle.rtcp.specs.Datagram.{opened}
use Rattle.rtcp.specs.code.Equations.{opened_over, opened_within}
use Rattle.rtcp.specs.declared.datagram.Opened.TheVariants.{Over, Within}
use Rattle.rtcp.proofs.Bounds.{counted_room}
use Rattle.rtcp.proofs.Count.{packets_counted, packet_refused, packet_over, packet_lacks, packet_counts}
use Rattle.rtcp.proofs.datagram.count_packets.Goals as goal
use Rattle.rtcp.proofs.datagram.count_packets.Goals.{In-Over, In-Within}

over : (c : In-Over) → opened c.args.datagram.now c.loop-at.at ≡ Ok (Over c.in-Over.next)
over c = sym (rw c.in-Over.is at c.in_ok-next.ensures)

within : (c : In-Within) → opened c.args.datagram.now c.loop-at.at ≡ Ok (Within c.in-Within.cursor)
within c = sym (rw c.in-Within.is at c.in_ok-next.ensures)

pub returns-in_err-next : goal.returns-in_err-next
returns-in_err-next c =
    let p = err_from_is_err_and c.from_residual.result c.from_residual.ensures.1 in
    rw (p.1, p.2)
    (sym (packet_refused c.args.datagram.now c.loop-at.at c.loop-at.n _ c.loop-at-test.true (sym c.in_err-next.ensures)) ∙ c.loop-at.invariant.2)

pub loop-at-smaller-in-Over : goal.loop-at-smaller-in-Over
loop-at-smaller-in-Over c = omega (arith, opened_over c.args.datagram.now c.loop-at.at _ (over c))

pub loop-at-preserved-in-Over : goal.loop-at-preserved-in-Over
loop-at-preserved-in-Over c =
    let next = opened_over c.args.datagram.now c.loop-at.at _ (over c) in (
      omega (arith, next),
      next.1,
      sym (packet_over c.args.datagram.now c.loop-at.at c.loop-at.n _ c.loop-at-test.true (over c)) ∙ c.loop-at.invariant.2,
    )

pub count_entries-requires : goal.count_entries-requires
count_entries-requires c = omega (arith, opened_within c.args.datagram.now c.loop-at.at _ (within c))

pub returns-in_err-n-in-Within : goal.returns-in_err-n-in-Within
returns-in_err-n-in-Within c =
    let is = within (goal.at.returns-in_err-n-in-Within c).In-Within in
    let p = err_from_is_err_and c.from_residual-in_err-n-in-Within.result c.from_residual-in_err-n-in-Within.ensures.1 in
    rw (p.1, p.2)
    (sym (packet_lacks c.args.datagram.now c.loop-at.at c.loop-at.n _ _ c.loop-at-test.true is (sym c.in_err-n-in-Within.ensures))
    ∙ c.loop-at.invariant.2)

pub overflow_add-n : goal.overflow_add-n
overflow_add-n c =
    let lies = opened_within c.args.datagram.now c.loop-at.at _ (within (goal.at.overflow_add-n c).In-Within) in
    omega (arith, lies, counted_room c.args.datagram.now c.in-Within.cursor _ (sym c.in_ok-n-in-Within.ensures))

pub loop-at-smaller : goal.loop-at-smaller
loop-at-smaller c = omega (arith, opened_within c.args.datagram.now c.loop-at.at _ (within (goal.at.loop-at-smaller c).In-Within))

pub loop-at-preserved : goal.loop-at-preserved
loop-at-preserved c =
    let is = within (goal.at.loop-at-preserved c).In-Within in
    let lies = opened_within c.args.datagram.now c.loop-at.at _ is in (
      omega (arith, lies, counted_room c.args.datagram.now c.in-Within.cursor _ (sym c.in_ok-n-in-Within.ensures)),
      lies.inside,
      sym (packet_counts c.args.datagram.now c.loop-at.at c.loop-at.n _ _ c.loop-at-test.true is (sym c.in_ok-n-in-Within.ensures))
          ∙ c.loop-at.invariant.2,
    )

pub returns : goal.returns
returns c = sym (packets_counted c.args.datagram.now c.loop-at.at c.loop-at.n c.loop-at-test.false) ∙ c.loop-at.invariant.2
