-- What an index says of a search: the records before the indexed place are skipped; and an entry that does nothing is gone past. For any way of keeping the
-- records that reads "in use" and the SSRC back and stores what stood there already without a change.
-- Assumes nothing.
use Rattle.std.proofs.Common.{◌≡◌, ℕ, zero, suc, ◌^◌, ◌≤◌, ◌<◌, Bool, true, false, cond, Option, Some, None, List, length, get_or, set, replicate, refl, ap, sym, subst, ◌∙◌, arith, add-one, add-zero, lt_of_not-le, length-set, get_or-set_same, get_or-set_other, ltb, lt-ltb, le-ltb, mod-eq_of_lt}
use mathlib.Core.Bool.{true≢false}
use native.Mathlib.Decide.{dec_le, ℕ_discrete}
use native.Mathlib.Nat.{mod-lt}
use borrow.Author.Tests.{eqb-true}
use lib.Dec.{eqb, lit<}
use lib.ListN.{get_or-replicate}
use lib.Seq.{set_out}
use Rattle.rtcp.specs.declared.Entry.{Entry}
use Rattle.rtcp.specs.declared.cursor.Cursor.{Cursor}
use Rattle.rtcp.proofs.Both.{both_true}
use Rattle.counters.specs.Counters.{message_of}
use Rattle.stream.specs.Events.{received}
use Rattle.stream.specs.Rules.{entry, ruled}
use Rattle.stream.specs.declared.Stream.{Stream}
use Rattle.stream.specs.declared.Outcome.{Outcome}
use Rattle.stream.proofs.Keeps.{keeps}
use Rattle.stream.proofs.Passes.{passes_silent}
use Rattle.serving.proofs.First.{Sought, sought_none, miss, nowhere}
use Rattle.serving.proofs.Faithful.{stored_stays}
use Rattle.sides.specs.code.Places.{holder_at, storing}
use Rattle.sides.specs.code.Search.{found_at, first_from, found_from}
use Rattle.sender.specs.Keeping.{Keeping}
use Rattle.sender.specs.Serve.{first, holds, kept_at}
use Rattle.decide.specs.code.Decide.{taken}
use Rattle.decide.specs.code.Index.{Indexed, slot_of}
use Rattle.decide.specs.code.Passing.{passed_over, passes_at}
use Rattle.decide.specs.code.Turning.{Left, found, kept_by, tallied, left_by, entered, turned}

-- ---- records that do not pass are skipped

module _ {A : Type 0} (test : A → Bool) (t : List A) (blank : A) where
  skip : (i : ℕ) → i ≤ length t → ((j : ℕ) → j < i → test (get_or t j blank) ≡ false) → Sought test t i
  skip zero h none = sought_none test t
  skip (suc i) h none =
      subst (λ (n : ℕ). Sought test t n) (add-one i)
      (miss test t blank i (skip i (omega arith) (λ j low. none j (omega arith))) (omega arith) (none i (omega arith)))

  -- a search from a place on is one from the start, where none before the place passes
  skipped : (i : ℕ) → ((j : ℕ) → j < i → j < length t → test (get_or t j blank) ≡ false) → first_from test t i ≡ first test t
  unfolding first_from
  skipped i none =
      elim (dec_le (length t) i) [
        | yes done ↦ rw (le-ltb i (length t) done) (nowhere test t blank (length t) (skip (length t) (omega arith) (λ j low. none j (omega arith) low)) (omega arith) (omega arith))
        | no more ↦ let h = lt_of_not-le more in rw (lt-ltb i (length t) h) (sym (skip i (omega arith) (λ j low. none j low (omega arith))))
      ]

module _ {A : Type 0} (K : Keeping A) where
  -- ---- a search from the indexed place on

  module _ (t : List A) (ssrc : ℕ) (index : List ℕ) (by : Indexed K t index) where
    abbrev test : A → Bool
    test a = holds (K.read a) ssrc

    none_before : (j : ℕ) → j < get_or index (slot_of ssrc) 0 → j < length t → test (kept_at K t j) ≡ false
    none_before j low h = go (test (kept_at K t j)) refl
      where
        go : (b : Bool) → test (kept_at K t j) ≡ b → b ≡ false
        go false held = refl
        go true held =
            let both = both_true (eqb (K.read (kept_at K t j)).ssrc ssrc) (K.read (kept_at K t j)).used held in
            let same = eqb-true (K.read (kept_at K t j)).ssrc ssrc both.0 in
            let bound = subst (λ (n : ℕ). get_or index (slot_of n) 0 ≤ j) same (by.first j h both.1) in
            absurd (omega arith)

    -- nothing that is sought stands before it
    pub found_there : found_from K holds t ssrc (get_or index (slot_of ssrc) 0) ≡ found K t ssrc
    found_there = ap (found_at t) (skipped test t K.none (get_or index (slot_of ssrc) 0) none_before)

  -- ---- how an index is made, from the last record to the first

  pub record Marking (t : List A) (index : List ℕ) (i : ℕ) : Type 0 where
    pub long : length index ≡ 251
    pub bound : (j : ℕ) → i ≤ j → j < length t → (K.read (kept_at K t j)).used ≡ true → get_or index (slot_of (K.read (kept_at K t j)).ssrc) 0 ≤ j

  pub zeros : (t : List A) → Indexed K t (replicate 251 0)
  zeros t = record {
    first = λ i h u. rw (get_or-replicate {A = ℕ} 251 (slot_of (K.read (kept_at K t i)).ssrc) 0 0 (mod-lt (K.read (kept_at K t i)).ssrc (lit< tt))) (omega arith);
  }

  -- ---- an index stays one: an entry keeps "in use" and the SSRC of every record

  module _ (used_back : (a : A) (s : Stream) → (K.read (K.store a s)).used ≡ s.used) (ssrc_back : (a : A) (s : Stream) → (K.read (K.store a s)).ssrc ≡ s.ssrc) where
    module _ (t : List A) (index : List ℕ) (by : Indexed K t index) (p : ℕ) where
      -- what reads with the same "in use" and the same SSRC, in another's place
      head_indexed : (y : A) → (K.read y).used ≡ (K.read (kept_at K t p)).used → (K.read y).ssrc ≡ (K.read (kept_at K t p)).ssrc → p < length t → Indexed K (set t p y) index
      head_indexed y u x h = record { first = λ i k used. at i (subst (λ (n : ℕ). i < n) (length-set t p y) k) used }
        where
          at : (i : ℕ) → i < length t → (K.read (kept_at K (set t p y) i)).used ≡ true → get_or index (slot_of (K.read (kept_at K (set t p y) i)).ssrc) 0 ≤ i
          at i k used =
              elim (ℕ_discrete i p) [
                | yes e ↦
                    let same : kept_at K (set t p y) i ≡ y = ap (λ (n : ℕ). kept_at K (set t p y) n) e ∙ get_or-set_same t p y K.none h in
                    let bound = by.first p h (sym u ∙ ap (λ (r : A). (K.read r).used) (sym same) ∙ used) in
                    rw (same, x, e) bound
                | no other ↦
                    let same = get_or-set_other t p i y K.none other in
                    rw same (by.first i k (ap (λ (r : A). (K.read r).used) (sym same) ∙ used))
              ]

      kept_indexed : (s : Stream) → s.used ≡ (K.read (kept_at K t p)).used → s.ssrc ≡ (K.read (kept_at K t p)).ssrc → Indexed K (storing K t p s) index
      kept_indexed s u x =
          elim (dec_le (length t) p) [
            | yes out ↦ subst (λ (l : List A). Indexed K l index) (sym (set_out t p (K.store (kept_at K t p) s) out)) by
            | no within ↦ head_indexed (K.store (kept_at K t p) s) (used_back (kept_at K t p) s ∙ u) (ssrc_back (kept_at K t p) s ∙ x) (lt_of_not-le within)
          ]

    taken_indexed : (t : List A) (index : List ℕ) (by : Indexed K t index) (time : ℕ) (e : Entry) (i : Option ℕ) → Indexed K (kept_by K t i (taken (holder_at K t i) e time)) index
    unfolding ruled
    taken_indexed t index by time e None = by
    taken_indexed t index by time e (Some p) = go (ltb p (length t))
      where
        go : (b : Bool) → Indexed K (kept_by K t (Some p) (taken (cond b (Some (K.read (kept_at K t p))) None) e time)) index
        go false = by
        go true =
            let kept = keeps (entry (message_of e.kind) (record { 0 = e.id }) time) (K.read (kept_at K t p)) in
            kept_indexed t index by p (received (message_of e.kind) (record { 0 = e.id }) time (K.read (kept_at K t p))).stream kept.used kept.ssrc

    turned_indexed : (time : ℕ) (now : Left A) (index : List ℕ) (s : Option (Entry × Cursor)) → Indexed K now.table index → Indexed K (turned K time now s).table index
    turned_indexed time now index None by = by
    turned_indexed time now index (Some (e, next)) by = taken_indexed now.table index by time e (found K now.table e.target)

    pub turn_indexed : (time : ℕ) (now : Left A) (s : Option (Entry × Cursor)) (after : Left A) → turned K time now s ≡ after → (index : List ℕ) → Indexed K now.table index → Indexed K after.table index
    turn_indexed time now s after e index by = subst (λ (l : Left A). Indexed K l.table index) e (turned_indexed time now index s by)

  -- ---- an entry that does nothing

  module _ (same : (a : A) → K.store a (K.read a) ≡ a) (time : ℕ) (now : Left A) (e : Entry) (next : Cursor) where
    -- the run is before the next entry, with no reply and no stranger more, and nothing else is other
    abbrev past : Left A
    past = record { at = tallied now.at next None 0; table = now.table; buffer = now.buffer }

    passing : (i : Option ℕ) → passes_at K now.table i e ≡ true → left_by K now next i (taken (holder_at K now.table i) e time) ≡ past
    passing None h = absurd (true≢false (sym h))
    passing (Some p) h = go (ltb p (length now.table)) h
      where
        go : (b : Bool) → passed_over (cond b (Some (K.read (kept_at K now.table p))) None) e ≡ true → left_by K now next (Some p) (taken (cond b (Some (K.read (kept_at K now.table p))) None) e time) ≡ past
        go false h = absurd (true≢false (sym h))
        go true h =
            ap (λ (o : Outcome). left_by K now next (Some p) (Some o)) (passes_silent time (K.read (kept_at K now.table p)) (message_of e.kind) (record { 0 = e.id }) h)
            ∙ rw (stored_stays K same now.table p)

    -- a run goes past it: nothing is stored and nothing written
    pub passed_by : passes_at K now.table (found K now.table e.target) e ≡ true → entered K time now e next ≡ past
    passed_by h = passing (found K now.table e.target) h

    -- of counts within 64 bits, as every run's are, nothing wraps
    module _ (small : now.at.written < 2 ^ 64) (small_unknown : now.at.unknown < 2 ^ 64) where
      abbrev gone_past : Left A
      gone_past = record { at = record { cursor = next; written = now.at.written; unknown = now.at.unknown }; table = now.table; buffer = now.buffer }

      pub passed_within : passes_at K now.table (found K now.table e.target) e ≡ true → entered K time now e next ≡ gone_past
      passed_within h = passed_by h ∙ rw (add-zero, add-zero, mod-eq_of_lt small, mod-eq_of_lt small_unknown)
