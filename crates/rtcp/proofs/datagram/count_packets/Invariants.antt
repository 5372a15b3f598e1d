-- The entries passed and those of the packets from `at` on are the datagram's; there are at most as many as bytes before `at`,
-- so that the count fits.
use Rattle.std.proofs.Common.{◌≡◌, ◌-◌, ◌≤◌, length}
use Rattle.rtcp.specs.Datagram.{packets, counted}
use Rattle.rtcp.proofs.Count.{counted_from}
use Rattle.rtcp.proofs.datagram.count_packets.Given as goal

abbrev pub invariant-loop-at : goal.invariant-loop-at
invariant-loop-at l = (l.n ≤ l.at) × (l.at ≤ length l.datagram) × (counted_from l.n (packets l.datagram l.at) ≡ counted (packets l.datagram 0))

abbrev pub decreases-loop-at : goal.decreases-loop-at
decreases-loop-at l = length l.datagram - l.at
