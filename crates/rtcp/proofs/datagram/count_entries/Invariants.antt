-- The entries passed and those from `place` on are the packet's, whoever its sender is; there are at most as many as bytes
-- before `place`, so that the count fits.
use Rattle.std.proofs.Common.{◌≡◌, ℕ, ◌-◌, ◌≤◌}
use Rattle.rtcp.specs.Datagram.{entries_from}
use Rattle.rtcp.proofs.Count.{counted_from}
use Rattle.rtcp.proofs.datagram.count_entries.Given as goal

abbrev pub invariant-loop-place : goal.invariant-loop-place
invariant-loop-place l =
    (l.n ≤ l.place) × ((sender : ℕ) → counted_from l.n (entries_from l.datagram sender l.cursor.end l.place) ≡ counted_from l.initial.n (entries_from l.datagram sender l.cursor.end l.initial.place))

abbrev pub decreases-loop-place : goal.decreases-loop-place
decreases-loop-place l = l.cursor.end - l.place
