-- What a walk of a datagram gives, step by step. The datagram is s, as the host lends it.
-- Assumes nothing.
use mathlib.Core.Path.{◌≡◌, refl, sym, ap, ◌∙◌}
use mathlib.Core.List.{List}
use Prim.Native.Nat.{ℕ, zero, suc, ◌<◌, ◌≤◌}
use native.Mathlib.Nat.{lt_of_not-le}
use native.Mathlib.Decide.{dec_le}
use native.Mathlib.Omega.{arith}
use lib.ListN.{length, get_or}
use borrow.Author.Tests.{ne_eqb}
use denote.Ref.{Bor}
use Rattle.std.proofs.lemmas.Option.{slice_get-get_or, slice_get_past}
use Rattle.std.specs.Prelude.{Some, None, Result, Ok, Err}
use Rattle.rtcp.specs.Pick.{pick}
use Rattle.rtcp.specs.Datagram.{Reading, refused, entries, reading}
use Rattle.rtcp.specs.Cursor.{numbered}
use Rattle.rtcp.specs.code.Cursor.{blank}
use Rattle.rtcp.specs.Said.{checked_said}
use Rattle.rtcp.specs.declared.Entry.{Entry}
use Rattle.rtcp.specs.declared.Refusal.{Refusal}
use Rattle.rtcp.proofs.Cases.{fault_number}
use Rattle.rtcp.proofs.Count.{entries_of_lem, refusal_of}
use Rattle.rtcp.proofs.Bounds.{most_entries_lem}
use Rattle.walk.specs.Walk.{opened, gives, moved, largest, following}
use Rattle.walk.specs.declared.Walk.{Walk}

case_at_most : (r : Result ℕ Refusal) → (checked_said r).0 ≤ 9
case_at_most (Ok n) = omega arith
case_at_most (Err refusal) = (fault_number refusal.fault).1

-- a reading has no entry with the largest number, or after it
past_largest : (d : List ℕ) (r : Reading) → reading d ≡ r → (k : ℕ) → largest ≤ k → numbered r k ≡ None
past_largest d (refused fault place) e k h = refl
past_largest d (entries es) e k h = slice_get_past es k (omega (arith, most_entries_lem d es e))

module _ (s : Bor (List ℕ)) where
  -- "Opening refuses with cases 1 to 9 alone"
  pub cases_alone : (checked_said (opened s).answer).0 ≤ 9
  cases_alone = case_at_most (opened s).answer

  -- "The step with number k gives entry k in order, counted from 0 .."
  pub entry_in_order : (es : List Entry) → reading s.now ≡ entries es → (k : ℕ) → k < length es → gives (moved (opened s) k) ≡ Some (get_or es k blank)
  entry_in_order es e k less = ap (λ (r : Reading). numbered r k) e ∙ slice_get-get_or es k blank less

  -- ".. or End when there is none."
  pub end_past : (n : ℕ) → (opened s).answer ≡ Ok n → (k : ℕ) → n ≤ k → gives (moved (opened s) k) ≡ None
  end_past n e k h =
      let p = entries_of_lem (reading s.now) n e in
      ap (λ (r : Reading). numbered r k) p.1 ∙ slice_get_past p.0 k (omega (arith, p.2))

  -- "A walk whose opening was refused gives only End."
  pub only_end : (refusal : Refusal) → (opened s).answer ≡ Err refusal → (k : ℕ) → gives (moved (opened s) k) ≡ None
  only_end refusal e k = ap (λ (r : Reading). numbered r k) (refusal_of (reading s.now) refusal e)

following_below : (k : ℕ) → k < largest → following k ≡ suc k
unfolding pick
following_below k h = rw (ne_eqb k largest (omega arith)) (omega arith)

-- a walk after k times `next`
abbrev pub advanced : ℕ → Walk → Walk
advanced zero w = w
advanced (suc k) w = moved (advanced k w) (following (advanced k w).number)

module _ (w : Walk) where
  advanced_same : (k : ℕ) → advanced k w ≡ moved w (advanced k w).number
  advanced_same zero = refl
  advanced_same (suc k) = ap (λ (v : Walk). moved v (following (advanced k w).number)) (advanced_same k)

  module _ (start : w.number ≡ 0) where
    number_below : (k : ℕ) → k ≤ largest → (advanced k w).number ≡ k
    number_below zero h = start
    number_below (suc k) h = ap following (number_below k (omega arith)) ∙ following_below k (omega arith)

    number_largest : (k : ℕ) → largest ≤ k → (advanced k w).number ≡ largest
    unfolding pick
    number_largest zero h = absurd (omega arith)
    number_largest (suc k) h =
        elim (dec_le largest k) [
          | yes a ↦ ap following (number_largest k a)
          | no a ↦ number_below (suc k) (omega (arith, lt_of_not-le a)) ∙ omega (arith, lt_of_not-le a)
        ]

-- "A host may also walk a datagram's entries one at a time": after k times `next`, a step gives entry k or End, however large k is.
pub one_at_a_time : (s : Bor (List ℕ)) (k : ℕ) → gives (advanced k (opened s)) ≡ numbered (reading s.now) k
one_at_a_time s k =
    ap gives (advanced_same (opened s) k)
    ∙ elim (dec_le largest k) [
      | yes a ↦
          ap (numbered (reading s.now)) (number_largest (opened s) refl k a)
          ∙ past_largest s.now (reading s.now) refl largest (omega arith)
          ∙ sym (past_largest s.now (reading s.now) refl k a)
      | no a ↦ ap (numbered (reading s.now)) (number_below (opened s) refl k (omega (arith, lt_of_not-le a)))
    ]
