-- The digits of a line, and the bytes that they stand for.
-- Assumes nothing.
use Rattle.std.proofs.Common.{◌≡◌, ℕ, suc, ◌+◌, ◌-◌, ◌*◌, ◌/◌, ◌%◌, ◌<◌, ◌≤◌, Bool, true, false, cond, not, ◌&&◌, eqb, leb, List, [], ◌∷◌, length, get_or, set, sym, refl, ap, ◌∙◌, subst, true≢false, lt_of_not-le, add-one, arith, eq-eqb, ne_eqb, le-leb}
use Rattle.std.proofs.Math.Bool.{and-true, and_assoc}
use Rattle.std.proofs.Math.Decide.{dec_le}
use Rattle.std.proofs.lemmas.Bool.{lt-leb}
use Rattle.std.proofs.lemmas.List.Edits.{sets}
use Rattle.rtcp.proofs.Both.{both_true}
use Rattle.lines.specs.Hex.{value_of, is_digit, are_digits, bytes_of, most_digits, most_read, hexadecimal, Reading, digits_read}
use Rattle.lines.specs.code.Hex.{Within}
use Rattle.std.specs.Prelude.{Option, Some, None, fold, ◌++◌}
use Rattle.std.proofs.lemmas.List.{length-set}

-- ---- the value of a digit

pub decimal : (b : ℕ) → 48 ≤ b → b ≤ 57 → value_of b ≡ b - 48
unfolding value_of
decimal b low high = rw (le-leb 48 b low, le-leb b 57 high)

pub letter : (b : ℕ) → 97 ≤ b → b ≤ 102 → value_of b ≡ b - 87
unfolding value_of
letter b low high = rw (le-leb 48 b (omega arith), lt-leb b 57 (omega arith), le-leb 97 b low, le-leb b 102 high)

-- between: no letter
other : (b : ℕ) → (97 ≤ b → b ≤ 102 → ⊥) → cond (leb 97 b && leb b 102) (b - 87) 16 ≡ 16
other b h =
    elim (dec_le 97 b) [
      | yes low ↦ rw (le-leb 97 b low, lt-leb b 102 (lt_of_not-le (h low)))
      | no low ↦ rw (lt-leb 97 b (lt_of_not-le low))
    ]

pub neither : (b : ℕ) → (48 ≤ b → b ≤ 57 → ⊥) → (97 ≤ b → b ≤ 102 → ⊥) → value_of b ≡ 16
unfolding value_of
neither b d h =
    elim (dec_le 48 b) [
      | yes low ↦ rw (le-leb 48 b low, lt-leb b 57 (lt_of_not-le (d low))) (other b h)
      | no low ↦ rw (lt-leb 48 b (lt_of_not-le low)) (other b h)
    ]

pub is_decimal : (b : ℕ) → 48 ≤ b → b ≤ 57 → true ≡ is_digit b
is_decimal b low high = let e = decimal b low high in rw (ne_eqb (value_of b) 16 (λ f. absurd (omega arith)))

pub is_letter : (b : ℕ) → 97 ≤ b → b ≤ 102 → true ≡ is_digit b
is_letter b low high = let e = letter b low high in rw (ne_eqb (value_of b) 16 (λ f. absurd (omega arith)))

pub is_neither : (b : ℕ) → (48 ≤ b → b ≤ 57 → ⊥) → (97 ≤ b → b ≤ 102 → ⊥) → false ≡ is_digit b
is_neither b d h = rw (neither b d h)

-- a digit is one of 0 to 9, or else one of a to f
pub record Known (b : ℕ) : Type 0 where
  pub decimal : b < 97 → (48 ≤ b) × (b ≤ 57) × (value_of b ≡ b - 48)
  pub letter : 97 ≤ b → (b ≤ 102) × (value_of b ≡ b - 87)

pub known : (b : ℕ) → is_digit b ≡ true → Known b
known b good =
    record {
      decimal = λ below. elim (dec_le 48 b) [
        | yes low ↦ elim (dec_le b 57) [
          | yes high ↦ (low, high, decimal b low high)
          | no high ↦ absurd (bad (neither b (λ _ k. high k) (λ k _. omega arith)))
        ]
        | no low ↦ absurd (bad (neither b (λ k _. low k) (λ k _. omega arith)))
      ];
      letter = λ from. elim (dec_le b 102) [
        | yes high ↦ (high, letter b from high)
        | no high ↦ absurd (bad (neither b (λ _ k. omega arith) (λ _ k. high k)))
      ];
    }
  where
    bad : value_of b ≡ 16 → ⊥
    bad e = true≢false (sym good ∙ ap not (eq-eqb (value_of b) 16 e))

-- ---- whether all are digits

-- each byte judged in turn
judged : (good : Bool) (digits : List ℕ) → fold (λ (sofar : Bool) (b : ℕ). sofar && is_digit b) good digits ≡ (good && are_digits digits)
judged good [] = sym (and-true good)
judged good (b ∷ bs) = judged (good && is_digit b) bs ∙ and_assoc good (is_digit b) (are_digits bs)

pub all_judged : (digits : List ℕ) → fold (λ (sofar : Bool) (b : ℕ). sofar && is_digit b) true digits ≡ are_digits digits
all_judged digits = judged true digits

-- ---- the bytes

-- before pair k: what is left to read, stored over the bytes so far, is the whole stored over the lent ones
pub record Decoding (digits lent left : List ℕ) (size k : ℕ) (bytes : List ℕ) : Type 0 where
  pub pairs : size ≡ 2
  pub even : length left % 2 ≡ 0
  pub inside : k + length left / 2 ≤ most_read
  pub long : length bytes ≡ most_read
  pub judged : are_digits left ≡ true
  pub stored : sets bytes k (bytes_of left) ≡ sets lent 0 (bytes_of digits)

two_of : (pair : List ℕ) → length pair ≡ 2 → pair ≡ get_or pair 0 0 ∷ get_or pair 1 0 ∷ []
two_of [] e = absurd (omega arith)
two_of (a ∷ []) e = absurd (omega arith)
two_of (a ∷ b ∷ []) e = refl
two_of (a ∷ b ∷ c ∷ more) e = absurd (omega arith)

module _ (digits lent left : List ℕ) (size k : ℕ) (bytes : List ℕ) (now : Decoding digits lent left size k bytes) where
  module _ (pair rest : List ℕ) (taken : left ≡ pair ++ rest) (two : length pair ≡ size) where
    left_is : left ≡ get_or pair 0 0 ∷ get_or pair 1 0 ∷ rest
    left_is = taken ∙ ap (λ (l : List ℕ). l ++ rest) (two_of pair (two ∙ now.pairs))

    -- the two digits of a pair, and those after it
    pub pair_digits : (is_digit (get_or pair 0 0) ≡ true) × (is_digit (get_or pair 1 0) ≡ true) × (are_digits rest ≡ true)
    pair_digits =
        let high = both_true (is_digit (get_or pair 0 0)) (is_digit (get_or pair 1 0) && are_digits rest) (sym (ap are_digits left_is) ∙ now.judged) in
        let low = both_true (is_digit (get_or pair 1 0)) (are_digits rest) high.1 in
        (high.0, low.0, low.1)

    pub decoding_next : (n b next : ℕ) → n ≡ size → next ≡ k + 1 → b ≡ value_of (get_or pair 0 0) * 16 + value_of (get_or pair 1 0) → Decoding digits lent rest n next (set bytes k b)
    decoding_next n b next same one e =
        let long : length left ≡ suc (suc (length rest)) = ap length left_is in
        let even = now.even in
        let inside = now.inside in
        record {
          pairs = same ∙ now.pairs;
          even = omega arith;
          inside = omega arith;
          long = rw length-set now.long;
          judged = pair_digits.2;
          stored = rw (one, add-one k, e) (ap (λ (l : List ℕ). sets bytes k (bytes_of l)) (sym left_is) ∙ now.stored);
        }

  pub decoding_last : length left < size → bytes ≡ sets lent 0 (bytes_of digits)
  decoding_last few = go left now.stored (let even = now.even in let pairs = now.pairs in omega arith)
    where
      go : (l : List ℕ) → sets bytes k (bytes_of l) ≡ sets lent 0 (bytes_of digits) → length l ≡ 0 → bytes ≡ sets lent 0 (bytes_of digits)
      go [] stored none = stored
      go (b ∷ l) stored none = absurd (omega arith)

-- ---- a line

module _ (line : List ℕ) where
  pub hex_long : most_digits < length line → hexadecimal line ≡ false
  unfolding hexadecimal
  hex_long h = rw (lt-leb (length line) most_digits h)

  module _ (short : length line ≤ most_digits) where
    pub hex_odd : (length line % 2 ≡ 0 → ⊥) → hexadecimal line ≡ false
    unfolding hexadecimal
    hex_odd h = rw (le-leb (length line) most_digits short, ne_eqb (length line % 2) 0 h)

    pub hex_even : length line % 2 ≡ 0 → hexadecimal line ≡ are_digits line
    unfolding hexadecimal
    hex_even h = rw (le-leb (length line) most_digits short, eq-eqb (length line % 2) 0 h)

  module _ (lent : List ℕ) where
    pub read_bad : hexadecimal line ≡ false → digits_read line lent ≡ record { digits = None; bytes = lent }
    unfolding digits_read
    read_bad e = rw e

    pub read_good : hexadecimal line ≡ true → digits_read line lent ≡ record { digits = Some (length line / 2); bytes = sets lent 0 (bytes_of line) }
    unfolding digits_read
    read_good e = rw e

    -- no line stands for more bytes than are lent
    read_short : Within (digits_read line lent).digits
    unfolding digits_read hexadecimal
    read_short =
        elim (dec_le (length line) most_digits) [
          | yes short ↦ rw (le-leb (length line) most_digits short) (go (eqb (length line % 2) 0 && are_digits line) short)
          | no long ↦ rw (lt-leb (length line) most_digits (lt_of_not-le long)) tt
        ]
      where
        go : (b : Bool) → length line ≤ most_digits → Within (cond {A = Reading} b (record { digits = Some (length line / 2); bytes = sets lent 0 (bytes_of line) }) (record { digits = None; bytes = lent })).digits
        go true short = omega arith
        go false short = tt

    pub read_within : (d : Option ℕ) (after : List ℕ) → digits_read line lent ≡ record { digits = d; bytes = after } → Within d
    read_within d after e = subst (λ (r : Reading). Within r.digits) e read_short
