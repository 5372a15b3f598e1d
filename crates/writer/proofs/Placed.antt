-- Bytes written over a buffer: their laws, and how parts that are written one by one make up the whole.
-- Assumes nothing.
use mathlib.Core.Path.{◌≡◌, sym, ap, ◌∙◌}
use mathlib.Core.List.{List, ◌++◌}
use Prim.Native.Nat.{ℕ, ◌+◌, ◌<◌, ◌≤◌}
use native.Mathlib.Nat.{zero-add, lt_of_not-le}
use native.Mathlib.Decide.{dec_le}
use native.Mathlib.Omega.{arith}
use borrow.Author.Tests.{le-leb, lt-leb}
use lib.ListN.{length, take, drop, length-append}
use lib.Seq.{sets, length-sets, sets-eq}
use Rattle.rtcp.proofs.Sets.{sets_append}
use Rattle.rtcp.specs.Pick.{pick}
use Rattle.writer.specs.Writer.{placed}

placed_fits : (l : List ℕ) (at : ℕ) (vs : List ℕ) → at + length vs ≤ length l → placed l at vs ≡ take at l ++ vs ++ drop (at + length vs) l
unfolding placed pick
placed_fits l at vs h = rw (le-leb (at + length vs) (length l) h)

-- at the buffer's start
pub placed_first : (l vs : List ℕ) → length vs ≤ length l → placed l 0 vs ≡ vs ++ drop (length vs) l
placed_first l vs h = placed_fits l 0 vs (rw zero-add h) ∙ rw zero-add

pub placed_kept : (l : List ℕ) (at : ℕ) (vs : List ℕ) → length l < at + length vs → placed l at vs ≡ l
unfolding placed pick
placed_kept l at vs h = rw (lt-leb (at + length vs) (length l) h)

-- bytes stored one after the other
pub sets_placed : (l : List ℕ) (at : ℕ) (vs : List ℕ) → at + length vs ≤ length l → sets l at vs ≡ placed l at vs
sets_placed l at vs h = sets-eq vs l at h ∙ sym (placed_fits l at vs h)

pub length_placed : (l : List ℕ) (at : ℕ) (vs : List ℕ) → length (placed l at vs) ≡ length l
length_placed l at vs =
    elim (dec_le (at + length vs) (length l)) [
      | yes h ↦ ap length (sym (sets_placed l at vs h)) ∙ length-sets l at vs
      | no h ↦ ap length (placed_kept l at vs (lt_of_not-le h))
    ]

module _ (l : List ℕ) (at : ℕ) (vs ws : List ℕ) (fits : at + length vs + length ws ≤ length l) where
  whole : at + length (vs ++ ws) ≤ length l
  whole = rw length-append (omega arith)

  -- the second part is written after the first
  pub placed_after : placed (placed l at vs) (at + length vs) ws ≡ placed l at (vs ++ ws)
  placed_after =
      ap (λ (x : List ℕ). placed x (at + length vs) ws) (sym (sets_placed l at vs (omega arith)))
      ∙ sym (sets_placed (sets l at vs) (at + length vs) ws (rw length-sets fits))
      ∙ sym (sets_append vs ws l at)
      ∙ sets_placed l at (vs ++ ws) whole
