-- The bytes so far are those of their places.
use Rattle.std.proofs.Common.{◌≡◌, ℕ, ◌+◌, ◌<◌, length, get_or}
use Rattle.rtcp.specs.Number.{byte}
use Rattle.lines.proofs.number.bytes_at.Given as goal

abbrev pub invariant-loop-on : goal.invariant-loop-on
invariant-loop-on g l = record { long : length l.read ≡ g.row.N; done : (k : ℕ) → k < l.on → get_or l.read k 0 ≡ byte l.fn.bytes (l.fn.at + k) }
