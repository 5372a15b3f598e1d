-- Case 10 of a datagram: it is not given just where the buffer has room for a packet for each entry.
-- Assumes nothing.
use mathlib.Core.Bool.{false, ◌&&◌, and-false}
use mathlib.Core.Path.{◌≡◌, ap, ◌∙◌}
use Prim.Native.Nat.{ℕ, zero, suc, ◌*◌, ◌≤◌}
use native.Mathlib.Omega.{arith}
use borrow.Author.Tests.{lt-ltb, le-ltb, ltb-false}
use lib.Dec.{ltb}
use Rattle.writer.specs.Writer.{packet_of_one}
use Rattle.sender.specs.Calls.{no_room}

pub has_room : (n room : ℕ) → no_room n room ≡ false → packet_of_one * n ≤ room
has_room zero room e = omega arith
has_room (suc n) room e = let h = ltb-false room _ (rw (lt-ltb 0 (suc n) (omega arith)) at e) in omega (arith, h)

pub enough_room : (n room : ℕ) → packet_of_one * n ≤ room → no_room n room ≡ false
enough_room n room h = ap (λ b. ltb 0 n && b) (le-ltb room (packet_of_one * n) h) ∙ and-false (ltb 0 n)
