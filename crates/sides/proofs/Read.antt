-- The two ways that the check of a datagram can end, as its reading has them.
-- Assumes nothing.
use mathlib.Core.List.{List}
use mathlib.Core.Path.{◌≡◌, refl}
use Prim.Native.Nat.{ℕ}
use lib.ListN.{length}
use Rattle.std.specs.Prelude.{Ok, Err}
use Rattle.rtcp.specs.Datagram.{Reading, refused, entries, reading, counted}
use Rattle.rtcp.specs.declared.Refusal.{Refusal}
use Rattle.sides.specs.code.Counted.{Counted, entries_of}

pub read_refused : (r : Reading) (x : Refusal) → Err x ≡ counted r → r ≡ refused x.fault x.place
read_refused (refused fault at) x e = cc
read_refused (entries es) x e = cc

read_entries : (r : Reading) (n : ℕ) → Ok n ≡ counted r → (r ≡ entries (entries_of r)) × (length (entries_of r) ≡ n)
read_entries (refused fault at) n e = cc
read_entries (entries es) n e = (refl, cc)

pub read_counted : (d : List ℕ) (n : ℕ) → Ok n ≡ counted (reading d) → Counted d n
read_counted d n e = let r = read_entries (reading d) n e in record { read = r.0; count = r.1 }
