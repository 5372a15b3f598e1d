-- Bytes printed: how long their line is, and how it is stored piece by piece.
-- Assumes nothing.
use Rattle.std.proofs.Common.{◌≡◌, ℕ, suc, ◌+◌, ◌*◌, ◌/◌, ◌%◌, ◌<◌, ◌≤◌, leb, List, [], ◌∷◌, ◌++◌, length, get_or, drop, set, sym, refl, ap, ◌∙◌, append_assoc, add-zero, lt_of_not-le, add-one, arith, length-append, length-set, drop_of_length-le, drop-cons, le-leb}
use Rattle.std.proofs.Math.Decide.{dec_le}
use Rattle.std.proofs.lemmas.Bool.{lt-leb}
use Rattle.std.proofs.lemmas.List.Edits.{sets}
use Rattle.rtcp.proofs.Sets.{sets_append}
use Rattle.lines.specs.Hex.{digit_of, digits_of, printed, Printing, printing}

pub length_digits : (bytes : List ℕ) → length (digits_of bytes) ≡ 2 * length bytes
length_digits [] = refl
length_digits (b ∷ bs) = let rest = length_digits bs in omega arith

pub length_printed : (bytes : List ℕ) → length (printed bytes) ≡ 2 * length bytes + 1
unfolding printed
length_printed bytes = let e = length_digits bytes in rw length-append (omega arith)

digits_append : (a b : List ℕ) → digits_of (a ++ b) ≡ digits_of a ++ digits_of b
digits_append [] b = refl
digits_append (x ∷ a) b = ap (λ (l : List ℕ). digit_of (x / 16) ∷ digit_of (x % 16) ∷ l) (digits_append a b)

-- before byte i: what is left to print, stored over the output so far, is the whole stored over the output that was lent
pub record Putting (bytes lent : List ℕ) (at i : ℕ) (out : List ℕ) : Type 0 where
  pub inside : i ≤ length bytes
  pub long : length out ≡ length lent
  pub stored : sets out (at + 2 * i) (digits_of (drop i bytes)) ≡ sets lent at (digits_of bytes)

module _ (bytes lent : List ℕ) (at : ℕ) where
  pub putting_first : Putting bytes lent at 0 lent
  putting_first = record { inside = omega arith; long = refl; stored = rw add-zero }

  module _ (i : ℕ) (out : List ℕ) (now : Putting bytes lent at i out) where
    pub putting_next : i < length bytes → (d e : ℕ) → d ≡ digit_of (get_or bytes i 0 / 16) → e ≡ digit_of (get_or bytes i 0 % 16)
        → Putting bytes lent at (i + 1) (set (set out (at + 2 * i) d) (at + 2 * i + 1) e)
    putting_next more d e high low =
        let next : at + 2 * (i + 1) ≡ suc (suc (at + 2 * i)) = omega arith in
        record {
          inside = omega arith;
          long = rw (length-set, length-set) now.long;
          stored = rw (next, add-one (at + 2 * i), add-one i, high, low) (rw (drop-cons bytes i 0 more) at now.stored);
        }

    pub putting_last : length bytes ≤ i → out ≡ sets lent at (digits_of bytes)
    putting_last done = rw (drop_of_length-le bytes done) at now.stored

-- a line of two pieces
module _ (a b out : List ℕ) (at : ℕ) where
  long : length (printed (a ++ b)) ≡ 2 * (length a + length b) + 1
  long = length_printed (a ++ b) ∙ rw length-append

  pub put_is : (middle end : ℕ) → middle ≡ at + 2 * length a → end ≡ middle + 2 * length b → (o p : List ℕ) → o ≡ sets out at (digits_of a) → p ≡ sets o middle (digits_of b)
      → set p end 10 ≡ sets out at (printed (a ++ b))
  unfolding printed
  put_is middle end e f o p g h =
      sym
      (ap (sets out at) (ap (λ (l : List ℕ). l ++ (10 ∷ [])) (digits_append a b) ∙ append_assoc (digits_of a) (digits_of b) (10 ∷ []))
      ∙ sets_append (digits_of a) (digits_of b ++ (10 ∷ [])) out at
      ∙ rw (length_digits a, ← e, ← g)
      (sets_append (digits_of b) (10 ∷ []) o middle ∙ rw (length_digits b, ← f, ← h)))

  pub print_is : at + (2 * (length a + length b) + 1) ≤ length out
      → printing (a ++ b) out at ≡ record { next = at + (2 * (length a + length b) + 1); output = sets out at (printed (a ++ b)) }
  unfolding printing
  print_is room = rw (long, le-leb (at + (2 * (length a + length b) + 1)) (length out) room)

  pub print_none : length out < at + (2 * (length a + length b) + 1) → printing (a ++ b) out at ≡ record { next = at; output = out }
  unfolding printing
  print_none less = rw (long, lt-leb (at + (2 * (length a + length b) + 1)) (length out) less)

  -- never past the line that was to be printed
  pub print_most : (r : ℕ) (written : List ℕ) → printing (a ++ b) out at ≡ record { next = r; output = written } → r ≤ at + (2 * (length a + length b) + 1)
  print_most r written e =
      elim (dec_le (at + (2 * (length a + length b) + 1)) (length out)) [
        | yes room ↦ let next = ap (λ (p : Printing). p.next) (sym (print_is room) ∙ e) in omega arith
        | no less ↦ let next = ap (λ (p : Printing). p.next) (sym (print_none (lt_of_not-le less)) ∙ e) in omega arith
      ]

-- two tests that pass together
pub same_test : (a b c d : ℕ) → (a ≤ b → c ≤ d) → (c ≤ d → a ≤ b) → leb a b ≡ leb c d
same_test a b c d on back =
    elim (dec_le a b) [
      | yes h ↦ rw (le-leb a b h, le-leb c d (on h))
      | no h ↦ rw (lt-leb a b (lt_of_not-le h), lt-leb c d (lt_of_not-le (λ k. h (back k))))
    ]
