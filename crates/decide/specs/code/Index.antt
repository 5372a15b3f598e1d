-- An index of a table's SSRCs: what a search may skip. It is no part of a table; the run of a datagram's entries makes one for itself.
use Rattle.std.specs.Prelude.{true, cond, List, ◌≡◌, ℕ, ◌%◌, ◌≤◌, ◌<◌, min, get_or, length, set}
use Rattle.sender.specs.Keeping.{Keeping}
use Rattle.sender.specs.Serve.{kept_at}

-- the slot of an SSRC
abbrev pub slot_of : ℕ → ℕ
slot_of ssrc = ssrc % 251

module _ {A : Type 0} (K : Keeping A) where
  -- no record in use stands before the place that the index has for its SSRC's slot
  pub record Indexed (table : List A) (index : List ℕ) : Type 0 where
    pub first : (i : ℕ) → i < length table → (K.read (kept_at K table i)).used ≡ true → get_or index (slot_of (K.read (kept_at K table i)).ssrc) 0 ≤ i

  -- the index with one record more, which stands before those that were marked; its place as a byte, or the last byte
  abbrev pub marked : List ℕ → A → ℕ → List ℕ
  marked index a i = cond (K.read a).used (set index (slot_of (K.read a).ssrc) (min i 255)) index
