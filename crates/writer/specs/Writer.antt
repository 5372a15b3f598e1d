-- Document 01, "The RTCP datagram": what is written, the packet of one entry.
use Rattle.std.specs.Prelude.{List, [], ◌∷◌, ◌++◌, ℕ, ◌+◌, ◌*◌, ◌/◌, ◌%◌, length, take, drop, ltb, leb}
use Rattle.writer.specs.Number.{bytes_of_two, bytes_of_four}
use Rattle.rtcp.specs.Pick.{pick}
use Rattle.rtcp.specs.Datagram.{header, sources, entry_head, word, the_version, feedback, pause_resume}
use Rattle.rtcp.specs.declared.Entry.{Entry}

-- the bytes before the entry: the length is in words less one, and the SSRC of media source is "written 0"
abbrev pub head_bytes : ℕ → List ℕ
head_bytes sender =
    (the_version * 64 + pause_resume) ∷ feedback ∷ bytes_of_two ((sources + entry_head) / word) ++ bytes_of_four sender ++ bytes_of_four 0

-- "Reserved bits and parameters are .. written as 0 and empty"; of a kind over 15 the low four bits are written
abbrev pub entry_bytes : ℕ → ℕ → ℕ → List ℕ
entry_bytes target kind id = bytes_of_four target ++ ((kind * 16) % 256 ∷ 0 ∷ bytes_of_two id)

-- "the 20-byte packet of one entry from sender, target, type 0 to 3 and PauseID"
abbrev pub packet_bytes : ℕ → ℕ → ℕ → ℕ → List ℕ
packet_bytes sender target kind id = head_bytes sender ++ entry_bytes target kind id

-- its length, 20 bytes
abbrev pub packet_of_one : ℕ
packet_of_one = header + sources + entry_head

-- what is read of it: the entry stands after the header and the two SSRCs
abbrev pub entry_read : ℕ → ℕ → ℕ → ℕ → Entry
entry_read sender target kind id = record { place = header + sources; sender = sender; target = target; id = id; kind = kind; words = 0 }

-- bytes written over a buffer from a place on; where they do not fit, nothing is
unfoldable pub placed : List ℕ → ℕ → List ℕ → List ℕ
placed buffer at bytes =
    pick (leb (at + length bytes) (length buffer)) (take at buffer ++ bytes ++ drop (at + length bytes) buffer) buffer

-- "type 0 to 3"
abbrev pub last_kind : ℕ
last_kind = 3

-- "Writer Limit, Room."
abbrev pub written_of : List ℕ → ℕ → ℕ × List ℕ
written_of buffer kind = pick (ltb last_kind kind) (14, 0 ∷ []) (pick (ltb (length buffer) packet_of_one) (10, 0 ∷ []) (0, packet_of_one ∷ []))

unfoldable pub bytes_after : List ℕ → ℕ → ℕ → ℕ → ℕ → List ℕ
bytes_after buffer sender target kind id =
    pick (ltb last_kind kind) buffer (placed buffer 0 (packet_bytes sender target kind id))
