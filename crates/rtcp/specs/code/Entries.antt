-- The entries of an accepted datagram as an iterator: what is left of them, from a cursor on.
use Rattle.std.specs.Prelude.{◌≡◌, List, Option, Some, None}
use Rattle.std.specs.Iterator.{YieldsFirst}
use Rattle.rtcp.specs.code.Cursor.{step_of, listed, onward}
use Rattle.rtcp.specs.declared.Entry.{Entry}
use Rattle.rtcp.specs.declared.cursor.Cursor.{Cursor}
use Rattle.rtcp.specs.declared.cursor.Entries.{Entries}

-- what the packet at the cursor has left, and the packets after it
abbrev pub left : Entries → List Entry
left s = listed (onward s.datagram.now s.cursor)

-- after a step: what it gave, and the cursor past that
abbrev pub stepped : Cursor → Option (Entry × Cursor) → Option Entry × Cursor
stepped c None = (None, c)
stepped c (Some (e, past)) = (Some e, past)

-- the first of what is left, by a step in the same datagram
pub record Gives (s : Entries) (r : Option Entry) (t : Entries) : Type 0 where
  pub first : YieldsFirst left s r t
  pub datagram : t.datagram ≡ s.datagram
  pub step : (r, t.cursor) ≡ stepped s.cursor (step_of s.datagram.now s.cursor)
