-- The loop goes from entry to entry; the measure is what is left of the packet.
use Rattle.std.proofs.Common.{◌-◌}
use Rattle.rtcp.specs.code.Plain.{PassesPlain}
use Rattle.rtcp.proofs.datagram.pass_plain.Given as goal

abbrev pub invariant-loop-place : goal.invariant-loop-place
invariant-loop-place l = PassesPlain l.datagram l.from l.end (record { place = l.place; entries = l.entries })

abbrev pub decreases-loop-place : goal.decreases-loop-place
decreases-loop-place l = l.end - l.place
