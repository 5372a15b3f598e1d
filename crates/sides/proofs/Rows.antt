-- Rows of numbers, on any side: two rows compared number by number; a record stored over a row, from the comparison that the code makes; and when records kept as
-- rows are kept faithfully.
-- Assumes nothing.
use Prim.Native.Nat.{ℕ, zero, suc, ◌+◌, ◌≤◌, ◌<◌}
use mathlib.Core.Bool.{Bool, true, false, not, cond, ◌&&◌}
use mathlib.Core.List.{List, []}
use mathlib.Core.Path.{◌≡◌, refl, sym, ap, subst, ◌∙◌}
use native.Mathlib.Decide.{dec_le}
use native.Mathlib.Nat.{lt_of_not-le}
use native.Mathlib.Numerals.{add-one}
use native.Mathlib.Omega.{arith}
use borrow.Author.Tests.{eq-eqb, eqb-true}
use lib.Dec.{eqb}
use lib.ListN.{length, get_or, set}
use lib.Seq.{ext_get_or, set-get_or}
use Rattle.rtcp.proofs.Both.{both_true}
use Rattle.serving.specs.Rules.{Rules}
use Rattle.serving.proofs.Faithful.{Faithful}
use Rattle.sides.specs.Rows.{number_at, used_number, same_first, store_row, in_rows}

-- ---- numbers

pub used_back : (b : Bool) → not (eqb (used_number b) 0) ≡ b
used_back true = refl
used_back false = refl

-- number by number: one number more, and all of them
pub same_next : (k : ℕ) (a b : List ℕ) (same more : Bool) → same ≡ same_first k a b → more ≡ (same && eqb (number_at a k) (number_at b k)) → more ≡ same_first (k + 1) a b
same_next k a b same more e f = rw (add-one k, ← e) f

pub same_last : (n k : ℕ) (a b : List ℕ) (same : Bool) → same ≡ same_first k a b → k ≤ n → n ≤ k → same ≡ same_first n a b
same_last n k a b same e few all = let last : k ≡ n = omega arith in e ∙ ap (λ (m : ℕ). same_first m a b) last

-- a row has the same numbers as itself
pub first_same : (k : ℕ) (row : List ℕ) → same_first k row row ≡ true
first_same zero row = refl
first_same (suc k) row = rw (first_same k row, eq-eqb (number_at row k) (number_at row k) refl)

-- where the first numbers are the same, so is each of them
pub same_number : (n : ℕ) (a b : List ℕ) → same_first n a b ≡ true → (k : ℕ) → k < n → number_at a k ≡ number_at b k
same_number zero a b e k h = absurd (omega arith)
same_number (suc n) a b e k h =
    let both = both_true (same_first n a b) (eqb (number_at a n) (number_at b n)) e in
    elim (dec_le n k) [
      | yes last ↦ let same : k ≡ n = omega arith in rw same (eqb-true (number_at a n) (number_at b n) both.1)
      | no before ↦ same_number n a b both.0 k (lt_of_not-le before)
    ]

-- rows of so many numbers that have the same numbers are one row
pub same_row_lem : (n : ℕ) (a b : List ℕ) → length a ≡ n → length b ≡ n → same_first n a b ≡ true → a ≡ b
same_row_lem n a b k m e = ext_get_or 0 a b (k ∙ sym m) (λ i h. same_number n a b e i (subst (λ (c : ℕ). i < c) k h))

module _ {S : Type 0} (n : ℕ) (read : List ℕ → S) (row_of : S → List ℕ) where
  -- ---- a record stored over a row

  -- the record that a row is read as is stored over it without a change
  pub same_stored : (row : List ℕ) → store_row n read row_of row (read row) ≡ row
  unfolding store_row
  same_stored row = rw (first_same n (row_of (read row)))

  module _ (row : List ℕ) (s here : S) (old next : List ℕ) (r : here ≡ read row) (a : old ≡ row_of here) (b : next ≡ row_of s) (same : Bool) (e : same ≡ same_first n old next) where
    compared : same ≡ same_first n (row_of (read row)) (row_of s)
    compared = e ∙ ap (λ (l : List ℕ). same_first n l next) (a ∙ ap row_of r) ∙ ap (λ (l : List ℕ). same_first n (row_of (read row)) l) b

    pub stored_same : same ≡ true → row ≡ store_row n read row_of row s
    unfolding store_row
    stored_same t = ap (λ (k : Bool). cond k row (row_of s)) (sym t ∙ compared)

    pub stored_other : same ≡ false → next ≡ store_row n read row_of row s
    unfolding store_row
    stored_other t = b ∙ ap (λ (k : Bool). cond k row (row_of s)) (sym t ∙ compared)

  module _ (t : List (List ℕ)) (i : ℕ) (s here : S) (old next : List ℕ) (r : here ≡ read (get_or t i [])) (a : old ≡ row_of here) (b : next ≡ row_of s) (same : Bool) (e : same ≡ same_first n old next) where
    pub kept_other : same ≡ false → set t i next ≡ set t i (store_row n read row_of (get_or t i []) s)
    kept_other h = ap (λ (l : List ℕ). set t i l) (stored_other (get_or t i []) s here old next r a b same e h)

    pub kept_same : same ≡ true → t ≡ set t i (store_row n read row_of (get_or t i []) s)
    kept_same h = sym (set-get_or t i []) ∙ ap (λ (l : List ℕ). set t i l) (stored_same (get_or t i []) s here old next r a b same e h)

  -- ---- what is stored is read back

  -- rows with the same numbers are those of one record
  abbrev pub OneRecord : Type 0
  OneRecord = (s u : S) → same_first n (row_of s) (row_of u) ≡ true → s ≡ u

  -- so it is where a record can be told from the numbers that are written of it
  pub one_record : (of : List ℕ → S) → ((s : S) → of (row_of s) ≡ s) → ((s : S) → length (row_of s) ≡ n) → OneRecord
  one_record of back all s u e = sym (back s) ∙ ap of (same_row_lem n (row_of s) (row_of u) (all s) (all u) e) ∙ back u

  module _ (one : OneRecord) where
    -- what is read of a stored record has each property that the record has once it is written
    pub stored_as : (P : S → Type 0) (row : List ℕ) (s : S) → P s → P (read (row_of s)) → P (read (store_row n read row_of row s))
    unfolding store_row
    stored_as P row s here written = go (same_first n (row_of (read row)) (row_of s)) refl
      where
        go : (b : Bool) → same_first n (row_of (read row)) (row_of s) ≡ b → P (read (cond b row (row_of s)))
        go true e = subst P (sym (one (read row) s e)) here
        go false e = written

    -- Rows are faithful where the empty row is not in use, what is written of a record that an event leaves reads back as it, "in use" and the SSRC of every record
    -- read back, and a cleared row is not in use.
    pub rows_faithful : {E R : Type 0} (M : Rules S E R) → M.used (read []) ≡ false
        → ((row : List ℕ) (e : E) → read (row_of (M.ruled e (read row)).next) ≡ (M.ruled e (read row)).next)
        → ((s : S) → M.used (read (row_of s)) ≡ M.used s)
        → ((s : S) → M.ssrc (read (row_of s)) ≡ M.ssrc s)
        → ((row : List ℕ) → M.used (read (set row 0 0)) ≡ false)
        → Faithful M (in_rows n read row_of)
    rows_faithful M past back used ssrc cleared =
        record {
          past = past;
          back = λ row e. let s : S = (M.ruled e (read row)).next in stored_as (λ r. r ≡ s) row s refl (back row e);
          used = λ row s. stored_as (λ r. M.used r ≡ M.used s) row s refl (used s);
          ssrc = λ row s. stored_as (λ r. M.ssrc r ≡ M.ssrc s) row s refl (ssrc s);
          same = same_stored;
          cleared = cleared;
        }
