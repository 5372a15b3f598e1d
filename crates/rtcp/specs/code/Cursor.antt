-- A cursor gives a datagram's entries one after the other (specs/Cursor.antt says which they are).
use Rattle.std.specs.Prelude.{◌≡◌, List, [], ℕ, ◌≤◌, length, ltb, Bool, true, false, IsTrue, Option, Some, None, Result, Ok, Err}
use Rattle.rtcp.specs.Pick.{pick}
use Rattle.rtcp.specs.Walk.{Turn, walk}
use Rattle.rtcp.specs.Datagram.{entry_at, entry_end, opened, Reading, refused, entries, followed, within, packets}
use Rattle.rtcp.specs.declared.Entry.{Entry}
use Rattle.rtcp.specs.declared.cursor.Cursor.{Cursor}
use Rattle.rtcp.specs.declared.Refusal.{Refusal}
use Rattle.rtcp.specs.declared.datagram.Opened.{Opened}
use Rattle.rtcp.specs.declared.datagram.Opened.TheVariants.{Over, Within}

-- before the first packet
abbrev pub start : Cursor
start = record { place = 0; end = 0; next = 0; sender = 0 }

-- an entry that ends so, and the cursor past it
abbrev pub past : Cursor → Entry → Option ℕ → Option (Entry × Cursor)
past c e None = None
past c e (Some place) = Some (e, record { place = place; end = c.end; next = c.next; sender = c.sender })

-- the entry at the cursor; a cursor from elsewhere may reach past the datagram, and gives None
unfoldable pub taken : List ℕ → Cursor → Option (Entry × Cursor)
taken d c = pick (ltb (length d) c.end) None (past c (entry_at d c.sender c.place) (entry_end d c.place c.end))

-- the first entry of a packet that is opened so, or of the packets after it
abbrev pub found : List ℕ → Result Opened Refusal → (ℕ → Option (Entry × Cursor)) → Option (Entry × Cursor)
found d (Err refusal) rest = None
found d (Ok (Over next)) rest = rest next
found d (Ok (Within c)) rest = taken d c

abbrev pub seek_turn : List ℕ → Turn (Option (Entry × Cursor))
seek_turn d at rest = found d (opened d at) rest

-- the first entry of the packets from a place on
unfoldable pub sought : List ℕ → ℕ → Option (Entry × Cursor)
sought d at = walk (seek_turn d) None (length d) at

unfoldable pub step_of : List ℕ → Cursor → Option (Entry × Cursor)
step_of d c = pick (ltb c.place c.end) (taken d c) (sought d c.next)

-- the entry that stands where there is none
abbrev pub blank : Entry
blank = record { place = 0; sender = 0; target = 0; id = 0; kind = 0; words = 0 }

-- what the packet at the cursor has left, and the packets after it
abbrev pub onward : List ℕ → Cursor → Reading
onward d c = followed (within d c) (packets d c.next)

-- the cursor stands before the entries es: they are what is left of its packet and of the packets after it
pub record Stands (d : List ℕ) (c : Cursor) (es : List Entry) : Type 0 where
  pub inside : c.end ≤ length d
  pub left : onward d c ≡ entries es

abbrev pub listed : Reading → List Entry
listed (refused fault place) = []
listed (entries es) = es

abbrev pub is_read : Reading → Bool
is_read (refused fault place) = false
is_read (entries es) = true

-- the cursor stands before what is left: nothing of that is refused
abbrev pub Ready : List ℕ → Cursor → Type 0
Ready d c = (c.end ≤ length d) × IsTrue (is_read (onward d c))
