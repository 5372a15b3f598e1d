-- The run of a datagram's entries, entry by entry: before entry k the cursor stands before the entries from k on. Where no entry runs nothing is asked of the
-- datagram, so that a refused one is gone through too.
-- Assumes nothing.
use mathlib.Core.List.{List}
use mathlib.Core.Path.{◌≡◌, subst}
use Prim.Native.Nat.{ℕ, ◌+◌, ◌<◌, ◌≤◌}
use native.Mathlib.Numerals.{add-one}
use native.Mathlib.Omega.{arith}
use lib.ListN.{length, get_or, drop}
use lib.Seq.{drop-cons}
use Rattle.std.specs.Prelude.{Some}
use Rattle.rtcp.specs.code.Cursor.{start, step_of, blank, Stands}
use Rattle.rtcp.specs.Datagram.{reading}
use Rattle.rtcp.specs.declared.Entry.{Entry}
use Rattle.rtcp.specs.declared.cursor.Cursor.{Cursor}
use Rattle.rtcp.proofs.Steps.{starts, steps}
use Rattle.sides.specs.code.Counted.{Counted, entries_of}

module _ (d : List ℕ) (n : ℕ) where
  abbrev es : List Entry
  es = entries_of (reading d)

  pub record Standing (k : ℕ) (c : Cursor) : Type 0 where
    pub within : k ≤ n
    pub stands : 0 < n → Stands d c (drop k es)

  module _ (ok : 0 < n → Counted d n) where
    pub standing_first : Standing 0 start
    standing_first = record { within = omega arith; stands = λ some. starts (ok some).read }

    module _ (k : ℕ) (c : Cursor) (now : Standing k c) (more : k < n) where
      pub inside : k < length es
      inside = rw (ok (omega arith)).count more

      pub stepped : (next : Cursor) × (step_of d c ≡ Some (get_or es k blank, next)) × Standing (k + 1) next
      stepped =
          let s = steps (subst (λ (l : List Entry). Stands d c l) (drop-cons es k blank inside) (now.stands (omega arith))) in
          (s.0, s.1, record { within = omega arith; stands = λ some. rw (add-one k) s.2 })
