-- The head and then the entry are the packet of one entry.
use Rattle.std.proofs.Common.{sym, ◌∙◌, arith}
use Rattle.rtcp.proofs.Sets.{sets_append}
use Rattle.writer.specs.Writer.{head_bytes, entry_bytes, packet_bytes}
use Rattle.writer.proofs.Placed.{sets_placed}
use Rattle.writer.proofs.put_packet.Goals as goal

pub returns : goal.returns
returns c =
    let a = c.args in
    rw (c.put_entry.ensures, c.put_head.ensures)
    (sym (sets_append (head_bytes a.sender) (entry_bytes a.target a.kind a.id) a.buffer.now a.at)
    ∙ sets_placed a.buffer.now a.at (packet_bytes a.sender a.target a.kind a.id) (omega arith))
