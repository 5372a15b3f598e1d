-- Document 01, "The RTCP datagram", and cases 1 to 9 of "What can come back".
use Rattle.std.specs.Prelude.{Bool, not, ◌&&◌, ◌||◌, List, [], ◌∷◌, ◌++◌, ℕ, ◌+◌, ◌-◌, ◌*◌, ◌/◌, ◌%◌, length, ltb, eqb, Option, Some, None, Result, Ok, Err}
use Rattle.rtcp.specs.Number.{byte, two, four}
use Rattle.rtcp.specs.Pick.{pick}
use Rattle.rtcp.specs.Walk.{Turn, walk}
use Rattle.rtcp.specs.declared.Fault.{Fault}
use Rattle.rtcp.specs.declared.Fault.TheVariants.{TooLong, Short, Version, Overrun, PadPlace, PadCount, NoHead, NoEntry, Entry as LacksEntry}
use Rattle.rtcp.specs.declared.Refusal.{Refusal}
use Rattle.rtcp.specs.declared.Entry.{Entry}
use Rattle.rtcp.specs.declared.cursor.Cursor.{Cursor}
use Rattle.rtcp.specs.declared.datagram.Opened.{Opened}
use Rattle.rtcp.specs.declared.datagram.Opened.TheVariants.{Over, Within}

-- "A datagram has 1 to 1,500 bytes"
abbrev pub most_bytes : ℕ
most_bytes = 1500

-- "32-bit words"
abbrev pub word : ℕ
word = 4

-- "Packet header, 4 bytes: version (2 bits, is 2), padding flag (1 bit), count or FMT (5 bits), packet type (8 bits),
-- length in 32-bit words less one (16 bits)"
abbrev pub header : ℕ
header = 4

abbrev pub version : List ℕ → ℕ → ℕ
version d at = byte d at / 64

abbrev pub the_version : ℕ
the_version = 2

abbrev pub flag : List ℕ → ℕ → ℕ
flag d at = byte d at / 32 % 2

abbrev pub fmt : List ℕ → ℕ → ℕ
fmt d at = byte d at % 32

abbrev pub packet_type : List ℕ → ℕ → ℕ
packet_type d at = byte d (at + 1)

abbrev pub size_of : List ℕ → ℕ → ℕ
size_of d at = word * (two d (at + 2) + 1)

-- "type 205 with FMT 9"
abbrev pub feedback : ℕ
feedback = 205

abbrev pub pause_resume : ℕ
pause_resume = 9

-- "Its last byte counts the padding bytes, itself included"
abbrev pub pad_count : List ℕ → ℕ → ℕ → ℕ
pad_count d at size = byte d (at + size - 1)

-- ".. the count is not 0, is divisible by 4 and is at most the bytes after the header."
abbrev pub bad_count : ℕ → ℕ → Bool
bad_count size count = eqb count 0 || (not (eqb (count % word) 0) || ltb (size - header) count)

-- "SSRC of packet sender (4), SSRC of media source (4 ..), then entries up to the padding"
abbrev pub sources : ℕ
sources = 8

-- "One entry: target SSRC (4), type in the high four bits of a byte and reserved bits in the low four, parameter length in
-- words (1 byte), PauseID (2), then the parameters."
abbrev pub entry_head : ℕ
entry_head = 8

-- as many entries as a datagram can have
abbrev pub most_entries : ℕ
most_entries = (most_bytes - (header + sources)) / entry_head

abbrev pub words : List ℕ → ℕ → ℕ
words d place = byte d (place + 5)

abbrev pub entry_at : List ℕ → ℕ → ℕ → Entry
entry_at d sender place =
    record { place = place; sender = sender; target = four d place; id = two d (place + 6); kind = byte d (place + 4) / 16; words = words d place }

-- where an entry ends that has its 8 bytes and its parameters before `end`
unfoldable pub entry_end : List ℕ → ℕ → ℕ → Option ℕ
entry_end d place end =
    pick (ltb (end - place) entry_head) None
    (pick (ltb (end - place) (entry_head + word * words d place)) None
    (Some (place + (entry_head + word * words d place))))

unfoldable pub refuse_if : Bool → Fault → ℕ → Result Opened Refusal → Result Opened Refusal
unfolding pick
refuse_if test fault at rest = pick test (Err (record { fault = fault; place = at })) rest

-- a packet of `size` bytes, of which the last `padding` are padding: "Packets other than type 205 with FMT 9 are passed over"
unfoldable pub contents : List ℕ → ℕ → ℕ → ℕ → Result Opened Refusal
contents d at size padding =
    pick (eqb (packet_type d at) feedback && eqb (fmt d at) pause_resume)
    (refuse_if (ltb (size - header - padding) sources) NoHead at
    (refuse_if (eqb (size - header - padding) sources) NoEntry at
    (Ok (Within (record { place = at + header + sources; end = at + size - padding; next = at + size; sender = four d (at + header) })))))
    (Ok (Over (at + size)))

-- a packet of `size` bytes with the padding flag: "Padding may stand only in the last packet."
unfoldable pub padded : List ℕ → ℕ → ℕ → Result Opened Refusal
padded d at size =
    refuse_if (ltb size (length d - at)) PadPlace at
    (refuse_if (bad_count size (pad_count d at size)) PadCount at
    (contents d at size (pad_count d at size)))

-- the packet at a place: cases 2 to 8 in their order
unfoldable pub opened : List ℕ → ℕ → Result Opened Refusal
opened d at =
    refuse_if (ltb (length d - at) header) Short at
    (refuse_if (not (eqb (version d at) the_version)) Version at
    (refuse_if (ltb (length d - at) (size_of d at)) Overrun at
    (pick (eqb (flag d at) 0) (contents d at (size_of d at) 0) (padded d at (size_of d at)))))

-- a datagram is a refusal with its place, or the entries of all its packets
pub data Reading : Type 0 where
  refused : Fault → ℕ → Reading
  entries : List Entry → Reading

-- some entries, and then what the rest is
abbrev pub joined : List Entry → Reading → Reading
joined es (refused fault place) = refused fault place
joined es (entries fs) = entries (es ++ fs)

-- a packet's entries, and then what the rest is
abbrev pub followed : Reading → Reading → Reading
followed (refused fault place) rest = refused fault place
followed (entries es) rest = joined es rest

-- an entry that ends so, and then the rest of its packet
abbrev pub ended : Entry → Option ℕ → (ℕ → Reading) → Reading
ended e None rest = refused LacksEntry e.place
ended e (Some next) rest = joined (e ∷ []) (rest next)

abbrev pub entry_turn : List ℕ → ℕ → ℕ → Turn Reading
entry_turn d sender end place rest = ended (entry_at d sender place) (entry_end d place end) rest

-- the entries of a packet from a place on
unfoldable pub entries_from : List ℕ → ℕ → ℕ → ℕ → Reading
entries_from d sender end place = walk (entry_turn d sender end) (entries []) end place

abbrev pub within : List ℕ → Cursor → Reading
within d c = entries_from d c.sender c.end c.place

-- a packet that is opened so, and then the packets after it
abbrev pub judged : List ℕ → Result Opened Refusal → (ℕ → Reading) → Reading
judged d (Err refusal) rest = refused refusal.fault refusal.place
judged d (Ok (Over next)) rest = rest next
judged d (Ok (Within c)) rest = followed (within d c) (rest c.next)

abbrev pub packet_turn : List ℕ → Turn Reading
packet_turn d at rest = judged d (opened d at) rest

-- the packets from a place on
unfoldable pub packets : List ℕ → ℕ → Reading
packets d at = walk (packet_turn d) (entries []) (length d) at

-- case 1, then packet by packet; "also an empty datagram" is Short
unfoldable pub reading : List ℕ → Reading
reading d = pick (ltb most_bytes (length d)) (refused TooLong 0) (pick (eqb (length d) 0) (refused Short 0) (packets d 0))

-- the answer of a check: the refusal, or how many entries there are
abbrev pub counted : Reading → Result ℕ Refusal
counted (refused fault place) = Err (record { fault = fault; place = place })
counted (entries es) = Ok (length es)
