-- Demand 2, reading back: replies as bytes. The reply length that a call says, and what a reader finds in the bytes of a reply.
use Rattle.std.specs.Prelude.{List, ℕ, ◌+◌, ◌*◌, get_or}
use Rattle.std.proofs.Math.Seq.{slice}
use Rattle.rtcp.specs.declared.Entry.{Entry}
use Rattle.writer.specs.Writer.{packet_of_one, entry_read}
use Rattle.counters.specs.Counters.{type_of}
use Rattle.stream.specs.declared.ReplyEntry.{ReplyEntry}
use Rattle.apart.specs.Calls.{Call, datagram, local_pause, time, report, local_resume, send}

-- the calls that may reply
abbrev pub MayReply : Call → Type 0
MayReply (datagram bytes t buffer) = Unit
MayReply (local_pause ssrc buffer) = Unit
MayReply (time ssrc t buffer) = Unit
MayReply (report ssrc buffer) = Unit
MayReply (local_resume ssrc) = ⊥
MayReply (send ssrc) = ⊥

-- the reply's length, the first value that such a call says with Done
abbrev pub length_said : ℕ × List ℕ → ℕ
length_said said = get_or said.1 0 0

-- "demand 2's reading back packet by packet": where packet k begins, and its 20 bytes of a buffer
abbrev pub packet_from : ℕ → ℕ
packet_from k = packet_of_one * k

abbrev pub packet_at : ℕ → List ℕ → List ℕ
packet_at k buffer = slice (packet_from k) (packet_from k + packet_of_one) buffer

-- a reply as it is read: "with the stream's SSRC as sender and as target"
abbrev pub reply_read : ReplyEntry → Entry
reply_read e = entry_read e.target e.target (type_of e.notice) e.id.0
