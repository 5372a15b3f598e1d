-- How the entries of an accepted datagram lie in it: a row of packets, each passed over or a row of entries.
-- Assumes nothing.
use mathlib.Core.Path.{◌≡◌, refl, sym, ◌∙◌, subst}
use mathlib.Core.List.{List, [], ◌∷◌, ◌++◌}
use Prim.Native.Nat.{ℕ, ◌<◌, ◌≤◌}
use native.Mathlib.Omega.{arith}
use lib.ListN.{length}
use Rattle.std.specs.Prelude.{Option, Some, None, Result, Ok, Err}
use borrow.Author.Tests.{ltb-false, eqb-false}
use Rattle.rtcp.specs.Pick.{pick_cases}
use Rattle.rtcp.specs.Walk.{by_places}
use Rattle.rtcp.specs.Datagram.{most_bytes, entry_at, entry_end, opened, Reading, refused, entries, joined, followed, entries_from, within, packets, reading}
use Rattle.rtcp.specs.code.Equations.{ends_at, opened_over, opened_within, entries_done, entries_lacking, entries_next, packets_done, packets_refused, packets_over, packets_within}
use Rattle.rtcp.specs.declared.Fault.{Fault}
use Rattle.rtcp.specs.declared.Refusal.{Refusal}
use Rattle.rtcp.specs.declared.Entry.{Entry}
use Rattle.rtcp.specs.declared.cursor.Cursor.{Cursor}
use Rattle.rtcp.specs.declared.datagram.Opened.{Opened}
use Rattle.rtcp.specs.declared.datagram.Opened.TheVariants.{Over, Within}

-- ---- a reading that is no refusal

pub never : {P : Type 0} (fault : Fault) (place : ℕ) (es : List Entry) → refused fault place ≡ entries es → P
never fault place es e = let z : ◌≡◌ {A = ℕ} 0 1 = cc in absurd (omega arith)

pub joined_parts : (es : List Entry) (r : Reading) (all : List Entry) → joined es r ≡ entries all → (fs : List Entry) × (r ≡ entries fs) × (all ≡ es ++ fs)
joined_parts es (refused fault place) all e = never fault place all e
joined_parts es (entries fs) all e = (fs, refl, cc)

pub followed_parts : (r s : Reading) (all : List Entry) → followed r s ≡ entries all
    → (es : List Entry) × (fs : List Entry) × (r ≡ entries es) × (s ≡ entries fs) × (all ≡ es ++ fs)
followed_parts (refused fault place) s all e = never fault place all e
followed_parts (entries es) s all e = let p = joined_parts es s all e in (es, p.0, refl, p.1, p.2)

pub same_entries : {es fs : List Entry} → entries es ≡ entries fs → es ≡ fs
same_entries e = cc

-- ---- a row of entries, a row of packets

pub data Listed (d : List ℕ) (sender end : ℕ) : ℕ → List Entry → Type 0 where
  listed_none : {place : ℕ} → end ≤ place → Listed d sender end place []
  listed_more : {place : ℕ} {es : List Entry} (next : ℕ) → place < end → entry_end d place end ≡ Some next → Listed d sender end next es
      → Listed d sender end place (entry_at d sender place ∷ es)

pub data Row (d : List ℕ) : ℕ → List Entry → Type 0 where
  row_none : {at : ℕ} → length d ≤ at → Row d at []
  row_over : {at : ℕ} {es : List Entry} (next : ℕ) → at < length d → opened d at ≡ Ok (Over next) → Row d next es → Row d at es
  row_within : {at : ℕ} {es fs : List Entry} (c : Cursor) → at < length d → opened d at ≡ Ok (Within c)
      → Listed d c.sender c.end c.place es → Row d c.next fs → Row d at (es ++ fs)

module _ (d : List ℕ) (sender end : ℕ) where
  abbrev Entered : ℕ → Type 0
  Entered place = (es : List Entry) → entries_from d sender end place ≡ entries es → Listed d sender end place es

  listed_done : (place : ℕ) → end ≤ place → Entered place
  listed_done place h es e = subst (Listed d sender end place) (same_entries (sym (entries_done d sender end place h) ∙ e)) (listed_none h)

  listed_step : (place : ℕ) → place < end → ((next : ℕ) → place < next → Entered next) → Entered place
  listed_step place h rest es e = go (entry_end d place end) refl
    where
      go : (o : Option ℕ) → entry_end d place end ≡ o → Listed d sender end place es
      go None lacks = never _ _ es (sym (entries_lacking d sender end place h lacks) ∙ e)
      go (Some next) ends =
          let p = joined_parts (entry_at d sender place ∷ []) (entries_from d sender end next) es (sym (entries_next d sender end place next h ends) ∙ e) in
          subst (Listed d sender end place) (sym p.2)
          (listed_more next h ends (rest next (omega (arith, (ends_at d end place next ends).0)) p.0 p.1))

  pub listed : (place : ℕ) → Entered place
  listed = by_places Entered end listed_done listed_step

module _ (d : List ℕ) where
  abbrev Rowed : ℕ → Type 0
  Rowed at = (es : List Entry) → packets d at ≡ entries es → Row d at es

  row_done : (at : ℕ) → length d ≤ at → Rowed at
  row_done at h es e = subst (Row d at) (same_entries (sym (packets_done d at h) ∙ e)) (row_none h)

  row_step : (at : ℕ) → at < length d → ((next : ℕ) → at < next → Rowed next) → Rowed at
  row_step at h rest es e = go (opened d at) refl
    where
      go : (o : Result Opened Refusal) → opened d at ≡ o → Row d at es
      go (Err refusal) o = never refusal.fault refusal.place es (sym (packets_refused d at refusal h o) ∙ e)
      go (Ok (Over next)) o = row_over next h o (rest next (opened_over d at next o).0 es (sym (packets_over d at next h o) ∙ e))
      go (Ok (Within c)) o =
          let l = opened_within d at c o in
          let p = followed_parts (within d c) (packets d c.next) es (sym (packets_within d at c h o) ∙ e) in
          subst (Row d at) (sym p.4)
          (row_within c h o (listed d c.sender c.end c.place p.0 p.2) (rest c.next (omega (arith, l.first, l.some, l.before)) p.1 p.3))

  pub row : (at : ℕ) → Rowed at
  row = by_places Rowed (length d) row_done row_step

  -- an accepted datagram is its packets, and has some bytes and not too many
  pub accepted : (es : List Entry) → reading d ≡ entries es → (0 < length d) × (length d ≤ most_bytes) × (packets d 0 ≡ entries es)
  unfolding reading
  accepted es =
      pick_cases (λ r. r ≡ entries es → (0 < length d) × (length d ≤ most_bytes) × (packets d 0 ≡ entries es))
      (λ _ e. never _ _ es e)
      (λ short. pick_cases (λ r. r ≡ entries es → (0 < length d) × (length d ≤ most_bytes) × (packets d 0 ≡ entries es))
      (λ _ e. never _ _ es e)
      (λ some e. (omega (arith, eqb-false (length d) 0 some), ltb-false most_bytes (length d) short, e)))
