-- Entries with no parameters, which a check passes eight bytes at a time.
use Rattle.std.specs.Prelude.{Bool, true, ◌&&◌, List, ◌≡◌, ℕ, ◌+◌, ◌*◌, ◌<◌, eqb, leb}
use Rattle.rtcp.specs.Datagram.{entry_head, words}
use Rattle.rtcp.specs.declared.datagram.Passed.{Passed}

-- an entry that has its 8 bytes before `end`, and no parameters
abbrev pub is_plain : List ℕ → ℕ → ℕ → Bool
is_plain d place end = leb (place + entry_head) end && eqb (words d place) 0

-- so many of them stand in a row
pub record PassesPlain (d : List ℕ) (from end : ℕ) (passed : Passed) : Type 0 where
  pub place : passed.place ≡ from + entry_head * passed.entries
  pub plain : (k : ℕ) → k < passed.entries → is_plain d (from + entry_head * k) end ≡ true
