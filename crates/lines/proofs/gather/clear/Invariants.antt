-- The loop goes from 16 bytes to 16 bytes.
use Rattle.std.specs.Slice.Iter.{chunks_exact_rest, chunks_exact_size}
use Rattle.lines.proofs.Gathering.{Clearing}
use Rattle.lines.proofs.gather.clear.Given as goal

abbrev pub invariant-loop-k : goal.invariant-loop-k
invariant-loop-k l = Clearing l.bytes (chunks_exact_rest l.k-iterator.iter) (chunks_exact_size l.k-iterator.iter) l.k-iterator.count
