-- A datagram whose entries were counted, before they run.
use Rattle.std.specs.Prelude.{List, [], ◌≡◌, ℕ, length}
use Rattle.rtcp.specs.Datagram.{Reading, refused, entries, reading}
use Rattle.rtcp.specs.declared.Entry.{Entry}

-- the entries of a reading; a refused datagram has none
abbrev pub entries_of : Reading → List Entry
entries_of (refused fault place) = []
entries_of (entries es) = es

-- a datagram that is read, with so many entries
pub record Counted (d : List ℕ) (n : ℕ) : Type 0 where
  pub read : reading d ≡ entries (entries_of (reading d))
  pub count : length (entries_of (reading d)) ≡ n
