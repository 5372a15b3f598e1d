-- "for 00, under 5 bytes": what is a datagram's frame has its time, whatever follows.
-- Assumes nothing.
use Rattle.std.proofs.Common.{List, Some, ◌≡◌, ℕ, ◌≤◌, arith, length}
use Rattle.std.proofs.lemmas.Grind.{common_steps}
use Rattle.frames.specs.Frame.{frame_of}
use Rattle.frames.specs.declared.frame.Frame.TheVariants.{Datagram}

pub datagram_long : (bytes : List ℕ) (time : ℕ) → frame_of bytes ≡ Some (Datagram time) → 5 ≤ length bytes
unfolding frame_of
datagram_long bytes time e = grind (arith, common_steps)
