-- What a search gives: std's `position` is the first that passes, as an option. From a place on it is the first of what stands behind that place.
-- Assumes nothing.
use mathlib.Core.Bool.{Bool, true, false, not, cond}
use mathlib.Core.List.{List, [], ◌∷◌}
use mathlib.Core.Path.{◌≡◌, refl, sym, ap, ◌∙◌}
use Prim.Native.Nat.{ℕ, suc, ◌+◌, ◌-◌, ◌<◌, ◌≤◌}
use native.Mathlib.Decide.{dec_le}
use native.Mathlib.Nat.{lt_of_not-le, zero-add}
use native.Mathlib.Numerals.{add-one}
use native.Mathlib.Omega.{arith}
use borrow.Author.Tests.{lt-ltb, le-ltb}
use lib.Dec.{ltb}
use lib.ListN.{length, drop, drop_of_length-le, length-drop}
use lib.Seq.{drop-cons, take-length}
use Rattle.std.specs.Prelude.{Some, None}
use Rattle.std.specs.Option.{option_map}
use Rattle.std.specs.List.{slice_range, position, position_or_len}
use Rattle.serving.specs.Apart.{record_at}
use Rattle.serving.specs.Keeping.{Keeping}
use Rattle.serving.specs.Rules.{Rules}
use Rattle.serving.specs.Serve.{first, holds, place}
use Rattle.sides.specs.code.Places.{inside}
use Rattle.sides.specs.code.Search.{found_at, first_from, place_from}

module _ {A : Type 0} where
  module _ (test : A → Bool) where
    first_len : (t : List A) → position_or_len test t ≡ first test t
    first_len [] = refl
    first_len (a ∷ t) = rw (← first_len t) (go (test a))
      where
        go : (b : Bool) → cond (not b) (1 + position_or_len test t) 0 ≡ cond b 0 (suc (position_or_len test t))
        go true = refl
        go false = omega arith

    pub position_found : (t : List A) → position test t ≡ found_at t (first test t)
    position_found t = ap (found_at t) (first_len t)

  -- a place that a search gives is in the table
  pub found_inside : (t : List A) (i : ℕ) → inside (length t) (found_at t i) ≡ found_at t i
  found_inside t i = go (ltb i (length t)) refl
    where
      go : (b : Bool) → ltb i (length t) ≡ b → inside (length t) (cond b (Some i) None) ≡ cond b (Some i) None
      go true e = rw e refl
      go false e = refl

  -- ---- from a place on: nothing past the end, else what is found behind the place
  module _ (test : A → Bool) (t : List A) (i : ℕ) where
    from_behind : i ≤ length t → found_at t (first_from test t i) ≡ option_map (λ k. i + k) (found_at (drop i t) (first test (drop i t)))
    unfolding first_from
    from_behind h =
        elim (dec_le (length t) i) [
          | yes end ↦ rw (le-ltb i (length t) end, drop_of_length-le t end) (past (length t))
          | no more ↦ rw (lt-ltb i (length t) (lt_of_not-le more), length-drop i t) (shifted (first test (drop i t)))
        ]
      where
        past : (n : ℕ) → cond (ltb n n) (Some n) None ≡ None
        past n = rw (le-ltb n n (omega arith))

        shifted : (k : ℕ) → cond (ltb (i + k) (length t)) (Some (i + k)) None ≡ option_map (λ k. i + k) (cond (ltb k (length t - i)) (Some k) None)
        shifted k =
            elim (dec_le (length t) (i + k)) [
              | yes over ↦ rw (le-ltb (i + k) (length t) over, le-ltb k (length t - i) (omega arith))
              | no more ↦ rw (lt-ltb (i + k) (length t) (lt_of_not-le more), lt-ltb k (length t - i) (omega (arith, lt_of_not-le more)))
            ]

    pub from_past : length t < i → found_at t (first_from test t i) ≡ None
    unfolding first_from
    from_past h = rw (le-ltb i (length t) (omega arith), le-ltb (length t) (length t) (omega arith))

    module _ (rest : List A) (r : rest ≡ slice_range t i (length t)) (h : i ≤ length t) where
      is_behind : rest ≡ drop i t
      is_behind = r ∙ rw (← length-drop i t) (take-length (drop i t))

      pub from_none : None ≡ found_at rest (first test rest) → None ≡ found_at t (first_from test t i)
      from_none e = sym (from_behind h ∙ ap (option_map (λ k. i + k)) (sym (e ∙ ap (λ l. found_at l (first test l)) is_behind)))

      pub from_some : (k : ℕ) → Some k ≡ found_at rest (first test rest) → Some (i + k) ≡ found_at t (first_from test t i)
      from_some k e = sym (from_behind h ∙ ap (option_map (λ k. i + k)) (sym (e ∙ ap (λ l. found_at l (first test l)) is_behind)))

-- ---- the same for the records in use with an SSRC, record by record
module _ {S E R A : Type 0} (M : Rules S E R) (K : Keeping S A) (t : List A) (ssrc : ℕ) where
  pub from_start : place_from M K t ssrc 0 ≡ place M K t ssrc
  unfolding first_from
  from_start = go t
    where
      go : (l : List A) → cond (ltb 0 (length l)) (0 + place M K (drop 0 l) ssrc) (length l) ≡ place M K l ssrc
      go [] = refl
      go (a ∷ l) = rw (lt-ltb 0 (length (a ∷ l)) (omega arith)) (zero-add (place M K (a ∷ l) ssrc))

  module _ (i : ℕ) where
    pub from_hit : i < length t → holds M (record_at K t i) ssrc ≡ true → place_from M K t ssrc i ≡ i
    unfolding first_from
    from_hit h e = rw (lt-ltb i (length t) h, drop-cons t i K.none h, e) (omega arith)

    pub from_end : length t ≤ i → place_from M K t ssrc i ≡ length t
    unfolding first_from
    from_end h = rw (le-ltb i (length t) h)

    pub from_miss : i < length t → holds M (record_at K t i) ssrc ≡ false → place_from M K t ssrc i ≡ place_from M K t ssrc (i + 1)
    unfolding first_from
    from_miss h e =
        elim (dec_le (length t) (i + 1)) [
          | yes last ↦
              let over : length t ≤ suc i = omega arith in
              rw (lt-ltb i (length t) h, drop-cons t i K.none h, e, drop_of_length-le t over, le-ltb (i + 1) (length t) last) (omega arith)
          | no more ↦
              let k = lt_of_not-le more in
              rw (lt-ltb i (length t) h, drop-cons t i K.none h, e, lt-ltb (i + 1) (length t) k, add-one i) (omega arith)
        ]
