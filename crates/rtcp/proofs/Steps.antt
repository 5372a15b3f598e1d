-- A cursor gives the entries of an accepted datagram in their order, each once, and then None.
-- Assumes nothing.
use mathlib.Core.Path.{◌≡◌, refl, sym, ap, ◌∙◌, subst}
use mathlib.Core.List.{List, [], ◌∷◌}
use Prim.Native.Nat.{ℕ, suc, ◌+◌, ◌<◌, ◌≤◌, zero-le}
use native.Mathlib.Decide.{dec_le}
use native.Mathlib.Nat.{lt_of_not-le}
use native.Mathlib.Numerals.{add-one}
use native.Mathlib.Omega.{arith}
use borrow.Author.Tests.{lt-ltb, le-ltb}
use lib.ListN.{length, get_or, drop, drop_of_length-le}
use lib.Seq.{drop-cons}
use Rattle.std.proofs.lemmas.Iterator.{YieldsList}
use Rattle.std.proofs.lemmas.Iterator.Consumers.{YieldsList-from_shown}
use Rattle.std.specs.Prelude.{IsTrue, Option, Some, None, Result, Ok, Err}
use Rattle.rtcp.specs.Pick.{pick}
use Rattle.rtcp.specs.Walk.{by_places}
use Rattle.rtcp.specs.Datagram.{entry_at, entry_end, opened, Reading, refused, entries, joined, followed, entries_from, packets, reading}
use Rattle.rtcp.specs.code.Cursor.{start, taken, found, sought, step_of, blank, onward, Stands, listed, is_read, Ready}
use Rattle.rtcp.specs.code.Entries.{left, Gives}
use Rattle.rtcp.specs.code.Equations.{opened_over, opened_within, entries_done, entries_lacking, entries_next, packets_done, packets_refused, packets_over, packets_within, sought_done, sought_step}
use Rattle.rtcp.specs.declared.Refusal.{Refusal}
use Rattle.rtcp.specs.declared.Entry.{Entry}
use Rattle.rtcp.specs.declared.cursor.Cursor.{Cursor}
use Rattle.rtcp.specs.declared.cursor.Entries.{Entries}
use Rattle.rtcp.specs.declared.datagram.Opened.{Opened}
use Rattle.rtcp.specs.declared.datagram.Opened.TheVariants.{Over, Within}
use Rattle.rtcp.proofs.Rows.{never, joined_parts, same_entries, accepted}

joined_none : (r : Reading) → joined [] r ≡ r
joined_none (refused fault place) = refl
joined_none (entries es) = refl

joined_followed : (e : Entry) (r s : Reading) → followed (joined (e ∷ []) r) s ≡ joined (e ∷ []) (followed r s)
joined_followed e (refused fault place) s = refl
joined_followed e (entries es) (refused fault place) = refl
joined_followed e (entries es) (entries fs) = refl

pub starts : {d : List ℕ} {es : List Entry} → reading d ≡ entries es → Stands d start es
starts {d} {es} e =
    record {
      inside = zero-le;
      left = ap (λ (r : Reading). followed r (packets d 0)) (entries_done d 0 0 0 zero-le) ∙ joined_none (packets d 0) ∙ (accepted d es e).2;
    }

-- what a step gives, where the cursor stands before es: the first of them and a cursor before the others, or None
abbrev Given : List ℕ → Option (Entry × Cursor) → List Entry → Type 0
Given d s [] = s ≡ None
Given d s (e ∷ es) = (c : Cursor) × (s ≡ Some (e, c)) × Stands d c es

module _ (d : List ℕ) where
  -- a cursor with an entry of its packet left
  take_given : (c : Cursor) → c.place < c.end → (es : List Entry) → Stands d c es → Given d (taken d c) es
  unfolding taken pick
  take_given c h es s = go (entry_end d c.place c.end) refl
    where
      go : (o : Option ℕ) → entry_end d c.place c.end ≡ o → Given d (taken d c) es
      go None lacks =
          never _ _ es (sym (ap (λ (r : Reading). followed r (packets d c.next)) (entries_lacking d c.sender c.end c.place h lacks)) ∙ s.left)
      go (Some next) ends =
          let e : Entry = entry_at d c.sender c.place in
          let rest : Reading = entries_from d c.sender c.end next in
          let p = joined_parts (e ∷ []) (followed rest (packets d c.next)) es
          (sym (joined_followed e rest (packets d c.next))
          ∙ sym (ap (λ (r : Reading). followed r (packets d c.next)) (entries_next d c.sender c.end c.place next h ends))
          ∙ s.left) in
          subst (Given d (taken d c)) (sym p.2) (
            record { place = next; end = c.end; next = c.next; sender = c.sender },
            rw (le-ltb (length d) c.end s.inside, ends),
            record { inside = s.inside; left = p.1 },
          )

  -- the packets from a place on
  abbrev Sought : ℕ → Type 0
  Sought at = (es : List Entry) → packets d at ≡ entries es → Given d (sought d at) es

  seek_done : (at : ℕ) → length d ≤ at → Sought at
  seek_done at h es e = subst (Given d (sought d at)) (same_entries (sym (packets_done d at h) ∙ e)) (sought_done d at h)

  seek_step : (at : ℕ) → at < length d → ((next : ℕ) → at < next → Sought next) → Sought at
  seek_step at h rest es e = go (opened d at) refl
    where
      to : (o : Result Opened Refusal) → opened d at ≡ o → Given d (found d o (sought d)) es → Given d (sought d at) es
      to o same g = subst (λ (s : Option (Entry × Cursor)). Given d s es) (sym (sought_step d at h ∙ ap (λ (o : Result Opened Refusal). found d o (sought d)) same)) g

      go : (o : Result Opened Refusal) → opened d at ≡ o → Given d (sought d at) es
      go (Err refusal) o = never refusal.fault refusal.place es (sym (packets_refused d at refusal h o) ∙ e)
      go (Ok (Over next)) o = to (Ok (Over next)) o (rest next (opened_over d at next o).0 es (sym (packets_over d at next h o) ∙ e))
      go (Ok (Within c)) o =
          let l = opened_within d at c o in
          to (Ok (Within c)) o (take_given c l.some es (record { inside = omega (arith, l.before, l.inside); left = sym (packets_within d at c h o) ∙ e }))

  seek_given : (at : ℕ) → Sought at
  seek_given = by_places Sought (length d) seek_done seek_step

  step_given : (c : Cursor) (es : List Entry) → Stands d c es → Given d (step_of d c) es
  unfolding step_of pick
  step_given c es s =
      elim (dec_le c.end c.place) [
        | yes h ↦ rw (le-ltb c.place c.end h)
            (seek_given c.next es
            (sym (ap (λ (r : Reading). followed r (packets d c.next)) (entries_done d c.sender c.end c.place h) ∙ joined_none (packets d c.next)) ∙ s.left))
        | no h ↦ rw (lt-ltb c.place c.end (lt_of_not-le h)) (take_given c (lt_of_not-le h) es s)
      ]

pub steps : {d : List ℕ} {c : Cursor} {e : Entry} {es : List Entry} → Stands d c (e ∷ es) → (c' : Cursor) × (step_of d c ≡ Some (e, c')) × Stands d c' es
steps {d} {c} {e} {es} s = step_given d c (e ∷ es) s

pub ends : {d : List ℕ} {c : Cursor} → Stands d c [] → step_of d c ≡ None
ends {d} {c} s = step_given d c [] s

-- a step gives one entry and one cursor
same_step : {e f : Entry} {c c' : Cursor} → ◌≡◌ {A = Option (Entry × Cursor)} (Some (e, c)) (Some (f, c')) → (e ≡ f) × (c ≡ c')
same_step {e} {f} {c} {c'} h =
    let same : ◌≡◌ {A = Entry × Cursor} (e, c) (f, c') = cc h in
    (ap (λ (x : Entry × Cursor). x.0) same, ap (λ (x : Entry × Cursor). x.1) same)

-- what a step gave is the first of the entries that were left
pub took : {d : List ℕ} {c c' : Cursor} {e : Entry} (es : List Entry) → Stands d c es → step_of d c ≡ Some (e, c')
    → (fs : List Entry) × (es ≡ e ∷ fs) × Stands d c' fs
took [] s h = let z : ◌≡◌ {A = ℕ} 0 1 = cc (ends s) in absurd (omega arith)
took {d} {c} {c'} {e} (f ∷ fs) s h =
    let p = steps s in
    let same = same_step (sym p.1 ∙ h) in
    (fs, ap (λ (x : Entry). x ∷ fs) same.0, subst (λ (x : Cursor). Stands d x fs) same.1 p.2)

-- The same for a loop that has passed k of the entries es: a step gives entry k, and None past the last.
module _ {d : List ℕ} {c : Cursor} (es : List Entry) (k : ℕ) (s : Stands d c (drop k es)) where
  pub ended_at : step_of d c ≡ None → length es ≤ k
  ended_at h =
      elim (dec_le (length es) k) [
        | yes past ↦ past
        | no less ↦
            let p = steps (subst (Stands d c) (drop-cons es k blank (lt_of_not-le less)) s) in
            let z : ◌≡◌ {A = ℕ} 0 1 = cc p.1 in
            absurd (omega arith)
      ]

  pub took_at : {e : Entry} {c' : Cursor} → step_of d c ≡ Some (e, c')
      → (k < length es) × (e ≡ get_or es k blank) × Stands d c' (drop (k + 1) es)
  took_at {e} {c'} h =
      elim (dec_le (length es) k) [
        | yes past ↦
            let z : ◌≡◌ {A = ℕ} 0 1 = cc (ends (subst (Stands d c) (drop_of_length-le es past) s)) in
            absurd (omega arith)
        | no less ↦
            let p = steps (subst (Stands d c) (drop-cons es k blank (lt_of_not-le less)) s) in
            let same = same_step (sym p.1 ∙ h) in
            (lt_of_not-le less, sym same.0, rw add-one (subst (λ (x : Cursor). Stands d x (drop (suc k) es)) same.1 p.2))
      ]

-- ---- the iterator

none_left : {d : List ℕ} {c : Cursor} (es : List Entry) → Stands d c es → step_of d c ≡ None → es ≡ []
none_left [] s h = refl
none_left (e ∷ es) s h = let z : ◌≡◌ {A = ℕ} 0 1 = cc ((steps s).1, h) in absurd (omega arith)

-- nothing of what is left is refused, so it is entries
read_listed : (r : Reading) → IsTrue (is_read r) → r ≡ entries (listed r)
read_listed (refused fault place) h = let z : ◌≡◌ {A = ℕ} 0 1 = cc h in absurd (omega arith)
read_listed (entries es) h = refl

stands_ready : {d : List ℕ} {c : Cursor} → Ready d c → Stands d c (listed (onward d c))
stands_ready {d} {c} r = record { inside = r.0; left = read_listed (onward d c) r.1 }

-- from a cursor before es an iterator may be made, and what it has left are they
pub stands_left : {d : List ℕ} {c : Cursor} {es : List Entry} → Stands d c es → (listed (onward d c) ≡ es) × Ready d c
stands_left {d} {c} {es} s = (ap listed s.left, (s.inside, ap is_read s.left))

module _ (s : Entries) where
  pub left_none : step_of s.datagram.now s.cursor ≡ None → left s ≡ []
  left_none h = none_left (left s) (stands_ready s.ready) h

  pub left_some : {e : Entry} {c : Cursor} → step_of s.datagram.now s.cursor ≡ Some (e, c)
      → (left s ≡ e ∷ listed (onward s.datagram.now c)) × Ready s.datagram.now c
  left_some {e} {c} h =
      let t = took (left s) (stands_ready s.ready) h in
      let l = stands_left t.2 in
      (t.1 ∙ ap (λ (es : List Entry). e ∷ es) (sym l.0), l.1)

-- so calls of `next` give what is left, and then None
pub all_left : (s : Entries) → YieldsList Gives (λ (e : Entry). e) s (left s)
all_left s = YieldsList-from_shown Gives (λ (e : Entry). e) left (λ t u h. ap length h.first.0) (λ t x u h. h.first) s
