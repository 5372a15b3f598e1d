-- What is printed reads back as the bytes that were printed.
-- Assumes nothing.
use Rattle.std.proofs.Common.{◌≡◌, ℕ, suc, ◌+◌, ◌*◌, ◌/◌, ◌%◌, ◌<◌, ◌≤◌, true, List, [], ◌∷◌, length, get_or, refl, ◌∙◌, lt_of_not-le, arith, le-ltb, lt-ltb, ne_eqb}
use Rattle.std.proofs.Math.Decide.{dec_le}
use Rattle.std.proofs.lemmas.List.Edits.{sets}
use Rattle.lines.specs.Hex.{most_read, value_of, is_digit, are_digits, bytes_of, digits_read, digit_of, digits_of}
use Rattle.std.specs.Prelude.{Some}
use Rattle.lines.proofs.Bytes.{decimal, letter, hex_even, read_good}
use Rattle.lines.proofs.Printing.{length_digits}

-- the value of the digit of a value
value_back : (v : ℕ) → v < 16 → value_of (digit_of v) ≡ v
unfolding digit_of
value_back v small =
    elim (dec_le 10 v) [
      | yes h ↦ rw (le-ltb v 10 h) (letter (v + 87) (omega arith) (omega arith) ∙ omega arith)
      | no h ↦ let low = lt_of_not-le h in rw (lt-ltb v 10 low) (decimal (v + 48) (omega arith) (omega arith) ∙ omega arith)
    ]

digit_back : (v : ℕ) → v < 16 → is_digit (digit_of v) ≡ true
digit_back v small = let e = value_back v small in rw (ne_eqb (value_of (digit_of v)) 16 (λ f. absurd (omega arith)))

bytes_back : (bytes : List ℕ) → ((i : ℕ) → i < length bytes → get_or bytes i 0 < 256) → bytes_of (digits_of bytes) ≡ bytes
bytes_back [] all = refl
bytes_back (b ∷ bs) all =
    let byte = all 0 (omega arith) in
    let e : b / 16 * 16 + b % 16 ≡ b = omega arith in
    rw (value_back (b / 16) (omega arith), value_back (b % 16) (omega arith), e, bytes_back bs (λ i h. all (suc i) (omega arith)))

digits_back : (bytes : List ℕ) → ((i : ℕ) → i < length bytes → get_or bytes i 0 < 256) → are_digits (digits_of bytes) ≡ true
digits_back [] all = refl
digits_back (b ∷ bs) all =
    let byte = all 0 (omega arith) in
    rw (digit_back (b / 16) (omega arith), digit_back (b % 16) (omega arith)) (digits_back bs (λ i h. all (suc i) (omega arith)))

-- as many bytes as a line stands for at most, each below 256
pub read_back : (bytes lent : List ℕ) → length bytes ≤ most_read → ((i : ℕ) → i < length bytes → get_or bytes i 0 < 256)
    → digits_read (digits_of bytes) lent ≡ record { digits = Some (length bytes); bytes = sets lent 0 bytes }
read_back bytes lent short all =
    let long = length_digits bytes in
    let half : length (digits_of bytes) / 2 ≡ length bytes = omega arith in
    read_good (digits_of bytes) lent (hex_even (digits_of bytes) (omega arith) (omega arith) ∙ digits_back bytes all) ∙ rw (half, bytes_back bytes all)
