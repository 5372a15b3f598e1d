-- How many entries an accepted datagram can have, where they lie, and the range of each field.
-- Assumes nothing.
use mathlib.Core.Path.{◌≡◌, refl}
use mathlib.Core.List.{List, [], ◌∷◌, ◌++◌}
use Prim.Native.Nat.{ℕ, zero, suc, ◌+◌, ◌-◌, ◌*◌, ◌^◌, ◌<◌, ◌≤◌}
use native.Mathlib.Nat.{le_of_suc-le-suc, not-suc-le-zero}
use native.Mathlib.Omega.{arith}
use lib.ListN.{length, get_or, length-append}
use Rattle.std.specs.Prelude.{Ok}
use Rattle.rtcp.specs.Number.{four}
use Rattle.rtcp.specs.Datagram.{header, sources, entry_head, most_entries, word, entry_at, entries, within, reading, counted}
use Rattle.rtcp.specs.code.Cursor.{blank}
use Rattle.rtcp.specs.code.Equations.{ends_at, opened_over, opened_within}
use Rattle.rtcp.specs.declared.Entry.{Entry}
use Rattle.rtcp.specs.declared.cursor.Cursor.{Cursor}
use Rattle.rtcp.proofs.Count.{entries_of_lem}
use Rattle.rtcp.proofs.Rows.{Listed, listed_none, listed_more, listed, Row, row_none, row_over, row_within, row, accepted}

-- ---- how many

pub listed_room : {d : List ℕ} {sender end place : ℕ} {es : List Entry} → Listed d sender end place es → entry_head * length es ≤ end - place
listed_room (listed_none h) = omega arith
listed_room {d} {end = end} {place = place} (listed_more next h ends rest) = omega (arith, listed_room rest, ends_at d end place next ends)

pub counted_room : (d : List ℕ) (c : Cursor) (n : ℕ) → counted (within d c) ≡ Ok n → entry_head * n ≤ c.end - c.place
counted_room d c n e =
    let p = entries_of_lem (within d c) n e in
    omega (arith, p.2, listed_room (listed d c.sender c.end c.place p.0 p.1))

row_room : {d : List ℕ} {at : ℕ} {es : List Entry} → Row d at es → entry_head * length es ≤ length d - at
row_room (row_none h) = omega arith
row_room {d} {at} (row_over next h o rest) = omega (arith, row_room rest, opened_over d at next o)
row_room {d} {at} (row_within {es = es} {fs = fs} c h o here later) =
    rw length-append (omega (arith, listed_room here, row_room later, opened_within d at c o))

row_head : {d : List ℕ} {at : ℕ} {es : List Entry} → Row d at es → 0 < length es → at + (header + sources) + entry_head * length es ≤ length d
row_head (row_none h) some = omega arith
row_head {d} {at} (row_over next h o rest) some = omega (arith, row_head rest some, opened_over d at next o)
row_head {d} {at} (row_within {es = es} {fs = fs} c h o here later) some =
    rw length-append (omega (arith, listed_room here, row_room later, opened_within d at c o))

module _ (d : List ℕ) (es : List Entry) (e : reading d ≡ entries es) where
  pub room : 0 < length es → header + sources + entry_head * length es ≤ length d
  room some = let a = accepted d es e in omega (arith, row_head (row d 0 es a.2) some)

  pub most_entries_lem : length es ≤ most_entries
  most_entries_lem = go (length es) refl
    where
      go : (n : ℕ) → length es ≡ n → length es ≤ most_entries
      go zero h = omega arith
      go (suc n) h = omega (arith, (accepted d es e).1, room (omega arith))

-- ---- the range of each field

pub record InRange (d : List ℕ) (e : Entry) : Type 0 where
  pub inside : e.place + (entry_head + word * e.words) ≤ length d
  pub sender : e.sender < 2 ^ 32
  pub target : e.target < 2 ^ 32
  pub id : e.id < 2 ^ 16
  pub kind : e.kind < 2 ^ 4
  pub words : e.words < 2 ^ 8

abbrev pub Every : (Entry → Type 0) → List Entry → Type 0
Every P [] = Unit
Every P (e ∷ es) = P e × Every P es

every_append : (P : Entry → Type 0) (es fs : List Entry) → Every P es → Every P fs → Every P (es ++ fs)
every_append P [] fs h k = k
every_append P (e ∷ es) fs h k = (h.0, every_append P es fs h.1 k)

every_at : (P : Entry → Type 0) (es : List Entry) → Every P es → (k : ℕ) → k < length es → P (get_or es k blank)
every_at P [] h k less = absurd (not-suc-le-zero less)
every_at P (e ∷ es) h zero less = h.0
every_at P (e ∷ es) h (suc k) less = every_at P es h.1 k (le_of_suc-le-suc less)

module _ (d : List ℕ) (bytes : (i : ℕ) → get_or d i 0 < 2 ^ 8) where
  sender_range : (at sender : ℕ) → sender ≡ four d (at + header) → sender < 2 ^ 32
  sender_range at sender e =
      omega (arith, bytes (at + header), bytes (at + header + 1), bytes (at + header + 2), bytes (at + header + 2 + 1))

  entry_range : (sender place end next : ℕ) → sender < 2 ^ 32 → next ≡ place + (entry_head + word * get_or d (place + 5) 0) → next ≤ end → end ≤ length d
      → InRange d (entry_at d sender place)
  entry_range sender place end next s e k h =
      record {
        inside = omega arith;
        sender = s;
        target = omega (arith, bytes place, bytes (place + 1), bytes (place + 2), bytes (place + 2 + 1));
        id = omega (arith, bytes (place + 6), bytes (place + 6 + 1));
        kind = omega (arith, bytes (place + 4));
        words = bytes (place + 5);
      }

  listed_range : {sender end place : ℕ} {es : List Entry} → sender < 2 ^ 32 → end ≤ length d → Listed d sender end place es → Every (InRange d) es
  listed_range s h (listed_none k) = tt
  listed_range {sender} {end} {place} s h (listed_more next k ends rest) =
      let a = ends_at d end place next ends in
      (entry_range sender place end next s a.0 a.1 h, listed_range s h rest)

  row_range : {at : ℕ} {es : List Entry} → Row d at es → Every (InRange d) es
  row_range (row_none h) = tt
  row_range (row_over next h o rest) = row_range rest
  row_range {at} (row_within {es = es} {fs = fs} c h o here later) =
      let l = opened_within d at c o in
      every_append (InRange d) es fs (listed_range (sender_range at c.sender l.from) (omega (arith, l.before, l.inside)) here) (row_range later)

  pub all_in_range : (es : List Entry) → reading d ≡ entries es → Every (InRange d) es
  all_in_range es e = row_range (row d 0 es (accepted d es e).2)

  pub in_range : (es : List Entry) → reading d ≡ entries es → (k : ℕ) → k < length es → InRange d (get_or es k blank)
  in_range es e k less = every_at (InRange d) es (all_in_range es e) k less
