use Rattle.std.proofs.Common.{refl, arith}
use Rattle.lines.proofs.Bytes.{decoding_last, decoding_next, pair_digits}
use Rattle.lines.proofs.hex.join_all.Goals as goal

pub loop-k-init : goal.loop-k-init
loop-k-init c =
    rw (c.into_iter-k-iterator.ensures.into_iter_gives, c.enumerate-k-items.ensures.source, c.enumerate-k-items.ensures.count, c.chunks_exact.ensures.rest, c.chunks_exact.ensures.size)
    (record { pairs = refl; even = c.requires.1; inside = omega arith; long = c.told-bytes; judged = c.requires.2; stored = refl })

pub known-requires : goal.known-requires
known-requires c = let step = c.in-Some.ensures.steps.0.1 in (pair_digits _ _ _ _ _ _ c.loop-k.invariant _ _ step.0 step.1).0

pub known-requires-in-loop-k : goal.known-requires-in-loop-k
known-requires-in-loop-k c = let step = c.in-Some.ensures.steps.0.1 in (pair_digits _ _ _ _ _ _ c.loop-k.invariant _ _ step.0 step.1).1

pub loop-k-preserved : goal.loop-k-preserved
loop-k-preserved c = let step = c.in-Some.ensures.steps in rw step.1 (decoding_next _ _ _ _ _ _ c.loop-k.invariant _ _ step.0.1.0 step.0.1.1 _ _ _ step.0.0 step.2 (omega (arith, c.known.ensures, c.known-in-loop-k.ensures)))

pub returns : goal.returns
returns c = decoding_last _ _ _ _ _ _ c.loop-k.invariant c.in-None.ensures.steps.0.1.0
