-- To run the entries that are left is to run them all from the beginning.
use Rattle.rtcp.specs.Datagram.{reading}
use Rattle.rtcp.specs.code.Entries.{left}
use Rattle.sides.specs.code.Counted.{entries_of}
use Rattle.remote_decide.proofs.Before.{Before}
use Rattle.remote_rows.specs.Rows.{rows}
use Rattle.remote_table.proofs.datagram.turns.Given as goal

abbrev pub invariant-loop-entry : goal.invariant-loop-entry
invariant-loop-entry l = Before rows l.fn.table (entries_of (reading l.datagram)) (left l.entry-iterator) l.unknown l.table
