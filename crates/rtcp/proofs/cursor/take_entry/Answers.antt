-- An entry that ends before the packet's end lies in the datagram.
use Rattle.std.proofs.Common.{sym, arith}
use Rattle.rtcp.specs.code.Equations.{ends_at}
use Rattle.rtcp.proofs.cursor.take_entry.Goals as goal

pub read_entry-requires : goal.read_entry-requires
read_entry-requires c = omega (arith, ends_at c.args.datagram.now c.args.cursor.end c.args.cursor.place _ (sym c.in_ok-place.ensures))
