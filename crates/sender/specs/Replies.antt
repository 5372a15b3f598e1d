-- Document 02, "Two": "Each reply becomes its own 20-byte packet with the stream's SSRC as sender and as target, in the order of the entries."
-- "PAUSED and REFUSED replies carry the stream's SSRC as target" (document 01), so a reply entry's target is the sender too.
use Rattle.std.specs.Prelude.{List, ℕ}
use Rattle.writer.specs.Writer.{packet_bytes}
use Rattle.counters.specs.Counters.{type_of}
use Rattle.stream.specs.declared.ReplyEntry.{ReplyEntry}
use Rattle.sides.specs.Calls.{in_packets}
unfoldable pub use Rattle.sides.specs.Calls.{over}

abbrev pub packet_of : ReplyEntry → List ℕ
packet_of e = packet_bytes e.target e.target (type_of e.notice) e.id.0

-- what this side sends (`sent_bytes` of `sides`): replies packet after packet, never merged
abbrev pub packets_of : List ReplyEntry → List ℕ
packets_of es = in_packets packet_of es

-- "buffers of 3,720 bytes or more": 186 packets of 20 bytes, the replies to a datagram of as many entries as it can have
abbrev pub most_reply : ℕ
most_reply = 3720
