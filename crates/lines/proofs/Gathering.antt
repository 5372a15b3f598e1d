-- The bytes of a line, up to its line feed or the input's end: found, and kept as far as they fit.
-- Assumes nothing.
use Rattle.std.proofs.Common.{◌≡◌, ℕ, suc, ◌+◌, ◌-◌, ◌<◌, ◌≤◌, Bool, true, false, cond, not, ◌&&◌, eqb, ltb, List, [], ◌∷◌, length, get_or, take, drop, sym, refl, ap, ◌∙◌, lt_of_not-le, zero-add, arith, length-drop, lt-ltb, le-ltb, eqb-true, length-append}
use Rattle.std.proofs.Math.Decide.{dec_le}
use Rattle.std.proofs.lemmas.Bool.{not-true}
use Rattle.std.proofs.Math.Seq.{take-length}
use Rattle.std.proofs.lemmas.List.Edits.{sets, sets-eq}
use Rattle.std.proofs.lemmas.Slice.{put_mid-paste}
use borrow.Rule.Slice.PartMut.{put_mid}
use Rattle.rtcp.proofs.Both.{both_true}
use Rattle.std.specs.Prelude.{◌++◌, ◌*◌, ◌==◌, fold, position, unwrap_or, Some, None}
use Rattle.std.specs.List.{position_or_len}
use Rattle.std.proofs.lemmas.List.{drop_at, drop-drop}
use Rattle.lines.specs.Gather.{in_line, fitting, gathering}

-- ---- up to the line feed

-- no more than there are
pub in_line_within : (bytes : List ℕ) → in_line bytes ≤ length bytes
in_line_within [] = omega arith
in_line_within (b ∷ bs) = go (eqb b 10) (in_line_within bs)
  where
    go : (feed : Bool) → in_line bs ≤ length bs → cond feed 0 (suc (in_line bs)) ≤ suc (length bs)
    go true rest = omega arith
    go false rest = omega arith

-- where they are fewer, a line feed follows
pub in_line_stops : (bytes : List ℕ) → in_line bytes < length bytes → get_or bytes (in_line bytes) 0 ≡ 10
in_line_stops [] fewer = absurd (omega arith)
in_line_stops (b ∷ bs) fewer = go (eqb b 10) refl (in_line_stops bs) fewer
  where
    go : (feed : Bool) → eqb b 10 ≡ feed → (in_line bs < length bs → get_or bs (in_line bs) 0 ≡ 10) → cond feed 0 (suc (in_line bs)) < suc (length bs) → get_or (b ∷ bs) (cond feed 0 (suc (in_line bs))) 0 ≡ 10
    go true e rest few = eqb-true b 10 e
    go false e rest few = rest (omega arith)

-- each byte looked at in turn, and none is a line feed
none_in : (so_far : Bool) (part rest : List ℕ) → fold (λ (clear : Bool) (b : ℕ). clear && not (b == 10)) so_far part ≡ true
    → (so_far ≡ true) × (in_line (part ++ rest) ≡ length part + in_line rest)
none_in so_far [] rest e = (e, sym (zero-add (in_line rest)))
none_in so_far (b ∷ bs) rest e =
    let more = none_in (so_far && not (b == 10)) bs rest e in
    let both = both_true so_far (not (b == 10)) more.0 in
    let other = not-true (eqb b 10) both.1 in
    (both.0, rw (other, more.1) (omega arith))

-- before the part k: no line feed was among those so far
pub record Clearing (bytes left : List ℕ) (size k : ℕ) : Type 0 where
  pub sixteen : size ≡ 16
  pub long : 16 * k + length left ≡ length bytes
  pub rest : left ≡ drop (16 * k) bytes
  pub clear : in_line bytes ≡ 16 * k + in_line left

module _ (bytes left : List ℕ) (size k : ℕ) (now : Clearing bytes left size k) where
  pub clearing_next : (part rest : List ℕ) → left ≡ part ++ rest → length part ≡ size → fold (λ (clear : Bool) (b : ℕ). clear && not (b == 10)) true part ≡ true
      → (n next : ℕ) → n ≡ size → next ≡ k + 1 → Clearing bytes rest n next
  clearing_next part rest taken sixteen clear n next same one =
      let p : length part ≡ 16 = sixteen ∙ now.sixteen in
      let long = now.long in
      let before = now.clear in
      let cut = ap length taken ∙ length-append part rest in
      let past = (none_in true part rest clear).1 in
      let line = ap in_line taken in
      let to : 16 * next ≡ 16 * k + 16 = omega arith in
      record {
        sixteen = same ∙ now.sixteen;
        long = omega arith;
        rest = sym (rw to (sym (drop-drop 16 (16 * k) bytes) ∙ ap (drop 16) (sym now.rest ∙ taken) ∙ drop_at part rest 16 p));
        clear = omega arith;
      }

  pub clearing_within : 16 * k ≤ length bytes
  clearing_within = let long = now.long in omega arith

  pub clearing_last : (n : ℕ) → n ≡ 16 * k → in_line bytes ≡ n + in_line (drop n bytes)
  clearing_last n e = rw (e, ← now.rest) now.clear

first_is : (bytes : List ℕ) → position_or_len (λ (b : ℕ). b == 10) bytes ≡ in_line bytes
first_is [] = refl
first_is (b ∷ bs) = go (eqb b 10) (first_is bs)
  where
    go : (feed : Bool) → position_or_len (λ (x : ℕ). x == 10) bs ≡ in_line bs → cond (not feed) (1 + position_or_len (λ (x : ℕ). x == 10) bs) 0 ≡ cond feed 0 (suc (in_line bs))
    go true e = refl
    go false e = omega arith

first_of : (n all : ℕ) → n ≤ all → unwrap_or (cond (ltb n all) (Some n) None) all ≡ n
first_of n all within =
    elim (dec_le all n) [
      | yes h ↦ rw (le-ltb n all h) (omega arith)
      | no h ↦ rw (lt-ltb n all (lt_of_not-le h))
    ]

-- the place of the first line feed, or else the end
first_or_end : (bytes : List ℕ) → unwrap_or (position (λ (b : ℕ). b == 10) bytes) (length bytes) ≡ in_line bytes
first_or_end bytes =
    let e = first_is bytes in
    let within = in_line_within bytes in
    first_of (position_or_len (λ (b : ℕ). b == 10) bytes) (length bytes) (omega arith) ∙ e

-- the same of what follows so many bytes
pub first_after : (bytes : List ℕ) (n : ℕ) → unwrap_or (position (λ (b : ℕ). b == 10) (drop n bytes)) (length bytes - n) ≡ in_line (drop n bytes)
first_after bytes n = ap (unwrap_or (position (λ (b : ℕ). b == 10) (drop n bytes))) (sym (length-drop n bytes)) ∙ first_or_end (drop n bytes)

pub after_within : (bytes : List ℕ) (n : ℕ) → n ≤ length bytes → n + in_line (drop n bytes) ≤ length bytes
after_within bytes n h = let within = in_line_within (drop n bytes) in let e = length-drop n bytes in omega arith

-- ---- as many bytes as fit

pub copied : (l : List ℕ) (at n : ℕ) (vs : List ℕ) → length vs ≡ n → at + n ≤ length l → put_mid at (at + n - at) l vs ≡ sets l at vs
copied l at n vs long fits =
    put_mid-paste at (at + n - at) l vs vs (length vs) refl (omega arith) refl
    ∙ rw take-length (sym (sets-eq vs l at (omega arith)))

-- ---- both

module _ (input : List ℕ) (at end : ℕ) (ends : end ≡ at + in_line (drop at input)) where
  pub there : end - at ≤ length input - at
  there = let within = rw length-drop at (in_line_within (drop at input)) in omega arith

  pub gather_is : (line : List ℕ) (held r : ℕ) (after : List ℕ) → r ≡ held + fitting held (end - at) → after ≡ sets line held (take (fitting held (end - at)) (drop at input))
      → gathering line held input at ≡ record { held = r; at = end; line = after }
  unfolding gathering
  gather_is line held r after e f =
      let n : end - at ≡ in_line (drop at input) = omega arith in
      rw (e, f, n, ends)
