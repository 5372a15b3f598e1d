use Rattle.std.proofs.Common.{◌≡◌, ◌*◌, ◌/◌, length, refl, sym, ◌∙◌, arith}
use Rattle.lines.proofs.Gathering.{clearing_last, clearing_next, clearing_within}
use Rattle.lines.proofs.gather.clear.Goals as goal

pub loop-k-init : goal.loop-k-init
loop-k-init c =
    rw (c.into_iter-k-iterator.ensures.into_iter_gives, c.enumerate-k-items.ensures.source, c.enumerate-k-items.ensures.count, c.chunks_exact.ensures.rest, c.chunks_exact.ensures.size)
    (record { sixteen = refl; long = omega arith; rest = refl; clear = omega arith })

pub loop-k-preserved : goal.loop-k-preserved
loop-k-preserved c =
    let step = c.in-Some.ensures.steps in
    clearing_next _ _ _ _ c.loop-k.invariant _ _ step.0.1.0 step.0.1.1 (sym c.is_clear.ensures ∙ c.if-not-is_clear.false) _ _ step.0.0 step.2

pub returns-then-not-is_clear : goal.returns-then-not-is_clear
returns-then-not-is_clear c =
    let now = c.loop-k.invariant in
    rw c.in-Some.ensures.steps.1 (record { within = clearing_within _ _ _ _ now; clear = clearing_last _ _ _ _ now _ refl })

pub returns : goal.returns
returns c =
    let now = c.loop-k.invariant in
    let long = now.long in
    let sixteen = now.sixteen in
    let few = c.in-None.ensures.steps.0.1.0 in
    let all : length c.args.bytes.now / 16 * 16 ≡ 16 * c.loop-k.k-iterator.count = omega arith in
    record { within = omega arith; clear = clearing_last _ _ _ _ now _ all }
