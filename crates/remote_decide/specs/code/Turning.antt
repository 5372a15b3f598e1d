-- What the run of a datagram's entries leaves, an entry and all of them; proofs/Before.antt ties one to the other.
use Rattle.std.specs.Prelude.{◌≡◌, ℕ, Bool, List}
use Rattle.rtcp.specs.declared.Entry.{Entry}
use Rattle.sides.specs.Entries.{request_of}
use Rattle.receiver.specs.Keeping.{Keeping}
use Rattle.receiver.specs.Serve.{answers, entered, serve, Between}

-- what one entry leaves: whether the table knows its target, and the table
pub record Turned {A : Type 0} (K : Keeping A) (t : List A) (e : Entry) (known : Bool) (kept : List A) : Type 0 where
  pub found : known ≡ answers K t e.target
  pub table : kept ≡ (serve K (request_of entered 0 e) t).table

-- what the whole run leaves: u and the table
pub record Through {A : Type 0} (now : Between A) (u : ℕ) (kept : List A) : Type 0 where
  pub unknown : u ≡ now.unknown
  pub table : kept ≡ now.table
