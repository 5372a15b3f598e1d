-- Rows are a way of keeping the records of streams: a row that a record is stored over reads back "in use" and the SSRC, and stays where it is read as the record
-- already.
use Rattle.std.specs.Prelude.{◌≡◌, ℕ, Bool, true, false, cond, not, eqb, List, refl}
use Rattle.std.proofs.Common.{sym, ap, ◌∙◌, arith}
use Rattle.stream.specs.declared.Stream.{Stream}
use Rattle.sides.specs.Rows as sides
use Rattle.sides.specs.Rows.{same_first, used_number}
use Rattle.sides.proofs.Rows.{same_number, same_stored, used_back}
use Rattle.rows.specs.Rows.{numbers, read_row, row_of, store_row}

module _ (row : List ℕ) (s : Stream) where
  -- what is read of the stored row is read of the record's own, or the two have the same numbers
  stored : (P : Stream → Type 0) → P (read_row (row_of s)) → (same_first numbers (row_of (read_row row)) (row_of s) ≡ true → P (read_row row)) → P (read_row (store_row row s))
  unfolding sides.store_row
  stored P written same = go (same_first numbers (row_of (read_row row)) (row_of s)) refl
    where
      go : (b : Bool) → same_first numbers (row_of (read_row row)) (row_of s) ≡ b → P (read_row (cond b row (row_of s)))
      go true e = same e
      go false e = written

  pub row_used : (read_row (store_row row s)).used ≡ s.used
  row_used =
      stored (λ r. r.used ≡ s.used) (used_back s.used)
      (λ e. sym (used_back (read_row row).used) ∙ ap (λ n. not (eqb n 0)) (same_number numbers (row_of (read_row row)) (row_of s) e 0 (omega arith)) ∙ used_back s.used)

  pub row_ssrc : (read_row (store_row row s)).ssrc ≡ s.ssrc
  row_ssrc =
      stored (λ r. r.ssrc ≡ s.ssrc) refl (λ e. same_number numbers (row_of (read_row row)) (row_of s) e 1 (omega arith))

pub row_stays : (row : List ℕ) → store_row row (read_row row) ≡ row
row_stays row = same_stored numbers read_row row_of row
