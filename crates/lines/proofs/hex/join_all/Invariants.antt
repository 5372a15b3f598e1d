-- The loop goes from pair to pair.
use Rattle.std.specs.Slice.Iter.{chunks_exact_rest, chunks_exact_size}
use Rattle.lines.proofs.Bytes.{Decoding}
use Rattle.lines.proofs.hex.join_all.Given as goal

abbrev pub invariant-loop-k : goal.invariant-loop-k
invariant-loop-k l = Decoding l.fn.digits l.fn.bytes (chunks_exact_rest l.k-iterator.iter) (chunks_exact_size l.k-iterator.iter) l.k-iterator.count l.bytes
