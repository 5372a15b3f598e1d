use Rattle.std.proofs.Common.{sym, ◌-◌, ◌∙◌, length, arith}
use Rattle.feed.proofs.Passing.{going_first, going_long, going_next, going_last, going_true}
use Rattle.feed.proofs.feed.Goals as goal

pub loop-table-init : goal.loop-table-init
loop-table-init c = going_first _ _ _ _

pub going-requires : goal.going-requires
going-requires c =
    let g = c.loop-table.invariant in
    rw (going_long _ _ _ _ _ _ _ g) g.fits

pub feed_line-fed-requires : goal.feed_line-fed-requires
feed_line-fed-requires c =
    let now = c.loop-table in
    let more = going_true now.fed.at (length c.args.input.now) (length now.out - now.fed.written) (sym c.going.ensures ∙ c.loop-table-test.true) in
    (more.0, omega (arith, more.1))

pub loop-table-smaller : goal.loop-table-smaller
loop-table-smaller c =
    let now = c.loop-table in
    let more = going_true now.fed.at (length c.args.input.now) (length now.out - now.fed.written) (sym c.going.ensures ∙ c.loop-table-test.true) in
    omega (arith, more.0, c.feed_line-fed.ensures.onward)

pub loop-table-preserved : goal.loop-table-preserved
loop-table-preserved c = going_next _ _ _ _ _ _ _ c.loop-table.invariant _ _ _ c.feed_line-fed.ensures

pub returns : goal.returns
returns c = going_last _ _ _ _ _ _ _ c.loop-table.invariant (sym c.going.ensures ∙ c.loop-table-test.false)
