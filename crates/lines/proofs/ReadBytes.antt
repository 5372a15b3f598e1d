-- What was read of a line are the bytes that it stands for, at the start of the lent ones, or it is no hexadecimal.
-- Assumes nothing.
use Rattle.std.proofs.Common.{◌≡◌, ℕ, ◌+◌, ◌/◌, ◌%◌, ◌≤◌, Bool, true, false, ◌&&◌, eqb, leb, List, [], ◌∷◌, length, take, drop, sym, refl, ap, ◌∙◌, zero-add, arith, leb-true}
use Rattle.std.proofs.lemmas.List.Edits.{sets, sets-eq}
use Rattle.std.proofs.Math.Seq.{length-sets, take-append_seam}
use Rattle.rtcp.proofs.Both.{both_true}
use Rattle.lines.specs.Hex.{most_digits, most_read, are_digits, bytes_of, hexadecimal, Reading, digits_read}
use Rattle.std.specs.Prelude.{Option, Some, None}
use Rattle.lines.proofs.Bytes.{read_good, read_bad}

length_bytes : (line : List ℕ) → length (bytes_of line) ≡ length line / 2
length_bytes [] = refl
length_bytes (high ∷ []) = refl
length_bytes (high ∷ low ∷ digits) = let rest = length_bytes digits in omega arith

hex_short : (line : List ℕ) → hexadecimal line ≡ true → length line ≤ most_digits
unfolding hexadecimal
hex_short line e = leb-true (length line) most_digits (both_true (leb (length line) most_digits) (eqb (length line % 2) 0 && are_digits line) e).0

stored_first : (bytes lent : List ℕ) → length bytes ≤ length lent → take (length bytes) (sets lent 0 bytes) ≡ bytes
stored_first bytes lent room =
    ap (take (length bytes)) (sets-eq bytes lent 0 (rw zero-add room)) ∙ take-append_seam bytes (drop (0 + length bytes) lent)

-- how many bytes were read, and whether any line was
count : Option ℕ → ℕ
count (Some n) = n
count None = 0

some : Option ℕ → ℕ
some (Some n) = 1
some None = 0

-- the bytes of a line were read
pub record Read (line : List ℕ) (n : ℕ) (after : List ℕ) : Type 0 where
  pub good : hexadecimal line ≡ true
  pub inside : n ≤ length after
  pub bytes : take n after ≡ bytes_of line

module _ (line lent after : List ℕ) where
  pub read_bytes : (n : ℕ) → length lent ≡ most_read → digits_read line lent ≡ record { digits = Some n; bytes = after } → Read line n after
  unfolding count some
  read_bytes n long e = go (hexadecimal line) refl
    where
      go : (h : Bool) → hexadecimal line ≡ h → Read line n after
      go true h =
          let told = sym (read_good line lent h) ∙ e in
          let m : length line / 2 ≡ n = ap (λ (r : Reading). count r.digits) told in
          let stored : sets lent 0 (bytes_of line) ≡ after = ap (λ (r : Reading). r.bytes) told in
          let short = hex_short line h in
          let bytes = length_bytes line in
          rw (← m, ← stored, ← bytes)
          (record { good = h; inside = rw length-sets (omega arith); bytes = stored_first (bytes_of line) lent (omega arith) })
      go false h =
          let z : ◌≡◌ {A = ℕ} 0 1 = ap (λ (r : Reading). some r.digits) (sym (read_bad line lent h) ∙ e) in
          absurd (omega arith)

  -- as many bytes are lent after it as before
  pub read_keeps : (r : Option ℕ) → digits_read line lent ≡ record { digits = r; bytes = after } → length after ≡ length lent
  read_keeps r e = go (hexadecimal line) refl
    where
      go : (h : Bool) → hexadecimal line ≡ h → length after ≡ length lent
      go true h = sym (ap (λ (x : Reading). length x.bytes) (sym (read_good line lent h) ∙ e)) ∙ length-sets lent 0 (bytes_of line)
      go false h = sym (ap (λ (x : Reading). length x.bytes) (sym (read_bad line lent h) ∙ e))

  pub read_none : digits_read line lent ≡ record { digits = None; bytes = after } → hexadecimal line ≡ false
  unfolding some
  read_none e = go (hexadecimal line) refl
    where
      go : (h : Bool) → hexadecimal line ≡ h → hexadecimal line ≡ false
      go true h =
          let z : ◌≡◌ {A = ℕ} 1 0 = ap (λ (r : Reading). some r.digits) (sym (read_good line lent h) ∙ e) in
          absurd (omega arith)
      go false h = h
