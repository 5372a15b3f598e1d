-- A line's length is judged, and then its digits.
use Rattle.std.proofs.Common.{◌≡◌, ℕ, ◌/◌, ◌%◌, ◌≤◌, Bool, true, ◌&&◌, List, length, take, sym, ap, ◌∙◌, arith, length-take}
use Rattle.std.proofs.lemmas.List.Edits.{sets}
use Rattle.std.specs.Prelude.{fold, Some}
use Rattle.lines.specs.Hex.{bytes_of, hexadecimal, is_digit, most_digits}
use Rattle.lines.proofs.Bytes.{all_judged, hex_even, hex_long, hex_odd, read_bad, read_good}
use Rattle.lines.proofs.hex.read.Goals as goal
use Rattle.lines.proofs.hex.read.Goals.{then-held-gt-MOST_DIGITS-via-then-held-gt-MOST_DIGITS, then-held-gt-MOST_DIGITS-via-else-held-gt-MOST_DIGITS+then-held-ne0}

pub returns-then-held-gt-MOST_DIGITS-clause-reading : goal.returns-then-held-gt-MOST_DIGITS-clause-reading
returns-then-held-gt-MOST_DIGITS-clause-reading c =
    elim c.then-held-gt-MOST_DIGITS.branch [
      | then-held-gt-MOST_DIGITS-via-then-held-gt-MOST_DIGITS w ↦ read_bad _ _ (hex_long _ (simp length-take (omega arith)))
      | then-held-gt-MOST_DIGITS-via-else-held-gt-MOST_DIGITS+then-held-ne0 w ↦
          let e : length (take c.args.held c.args.line.now) ≡ c.args.held = simp length-take (omega arith) in
          read_bad _ _ (hex_odd (take c.args.held c.args.line.now) (omega arith) (rw e w.if-held-ne0.true))
    ]

-- the length that was judged is the line's
module _ (line : List ℕ) (held : ℕ) (long : held ≤ length line) (few : held ≤ most_digits) (even : held % 2 ≡ 0) where
  long_is : length (take held line) ≡ held
  long_is = simp length-take (omega arith)

  judged_is : (good : Bool) → good ≡ fold (λ (sofar : Bool) (b : ℕ). sofar && is_digit b) true (take held line) → hexadecimal (take held line) ≡ good
  judged_is good e = hex_even (take held line) (omega (arith, long_is)) (rw long_is even) ∙ sym (all_judged (take held line)) ∙ sym e

pub returns-then-not-are_digits-clause-reading : goal.returns-then-not-are_digits-clause-reading
returns-then-not-are_digits-clause-reading c =
    read_bad _ _ (judged_is c.args.line.now c.args.held (omega arith) (omega arith) c.if-held-ne0.false c.are_digits.result c.are_digits.ensures ∙ c.if-not-are_digits.true)

pub join_all-requires : goal.join_all-requires
join_all-requires c =
    let e = long_is c.args.line.now c.args.held (omega arith) (omega arith) c.if-held-ne0.false in
    (omega arith, rw e c.if-held-ne0.false, sym (all_judged (take c.args.held c.args.line.now)) ∙ sym c.are_digits.ensures ∙ c.if-not-are_digits.false)

pub returns-clause-reading : goal.returns-clause-reading
returns-clause-reading c =
    let e = long_is c.args.line.now c.args.held (omega arith) (omega arith) c.if-held-ne0.false in
    let good = judged_is c.args.line.now c.args.held (omega arith) (omega arith) c.if-held-ne0.false c.are_digits.result c.are_digits.ensures ∙ c.if-not-are_digits.false in
    rw c.join_all.ensures
    (read_good (take c.args.held c.args.line.now) c.args.bytes.now good
    ∙ ap (λ (n : ℕ). record { digits = Some (n / 2); bytes = sets c.args.bytes.now 0 (bytes_of (take c.args.held c.args.line.now)) }) e)
