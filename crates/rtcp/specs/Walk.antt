-- A walk along the places of a list: at each place before the end a turn is taken, which may go on to a further place.
-- Recursion needs a count of the turns left; `walk_step` and `walk_done` are what a walk is, with no count in sight.
use Rattle.std.specs.Prelude.{◌≡◌, ltb}
use Rattle.std.proofs.Math.Path.{refl, sym}
use Rattle.std.proofs.Common.{◌∙◌, lt_of_not-le, arith, lt-ltb, le-ltb}
use Prim.Native.Nat.{ℕ, zero, suc, ◌+◌, ◌-◌, ◌<◌, ◌≤◌}
use Rattle.std.proofs.Math.Decide.{dec_le}
use Rattle.rtcp.specs.Pick.{pick}

-- a turn at a place, given what comes of each place that it may go on to
abbrev pub Turn : Type 0 → Type 0
Turn A = ℕ → (ℕ → A) → A

unfoldable pub walk_f : {A : Type 0} → Turn A → A → ℕ → ℕ → ℕ → A
unfolding pick
walk_f turn over end zero at = over
walk_f turn over end (suc left) at = pick (ltb at end) (turn at (λ next. walk_f turn over end left next)) over

unfoldable pub walk : {A : Type 0} → Turn A → A → ℕ → ℕ → A
unfolding walk_f
walk turn over end at = walk_f turn over end (end - at) at

-- a turn goes on to further places alone
abbrev pub Onward : {A : Type 0} → Turn A → Type 0
Onward {A} turn = (at : ℕ) (f g : ℕ → A) → ((next : ℕ) → at < next → f next ≡ g next) → turn at f ≡ turn at g

module _ {A : Type 0} (turn : Turn A) (over : A) (end : ℕ) where
  done_f : (left at : ℕ) → end ≤ at → walk_f turn over end left at ≡ over
  unfolding walk_f
  done_f zero at h = refl
  done_f (suc left) at h = rw (le-ltb at end h)

  pub walk_done : (at : ℕ) → end ≤ at → walk turn over end at ≡ over
  unfolding walk
  walk_done at h = done_f (end - at) at h

  module _ (onward : Onward turn) where
    same_f : (l m at : ℕ) → end - at ≤ l → end - at ≤ m → walk_f turn over end l at ≡ walk_f turn over end m at
    unfolding walk_f
    same_f zero m at h k = sym (done_f m at (omega arith))
    same_f (suc l) zero at h k = done_f (suc l) at (omega arith)
    same_f (suc l) (suc m) at h k =
        go (onward at (λ next. walk_f turn over end l next) (λ next. walk_f turn over end m next) (λ next a. same_f l m next (omega arith) (omega arith)))
      where
        go : {a b : A} → a ≡ b → pick (ltb at end) a over ≡ pick (ltb at end) b over
        go e = rw e

    step_f : (left at : ℕ) → at < end → walk_f turn over end (suc left) at ≡ turn at (λ next. walk_f turn over end left next)
    unfolding walk_f
    step_f left at h = rw (lt-ltb at end h)

    pub walk_step : (at : ℕ) → at < end → walk turn over end at ≡ turn at (λ next. walk turn over end next)
    unfolding walk
    walk_step at h =
        same_f (end - at) (suc (end - at)) at (omega arith) (omega arith)
        ∙ step_f (end - at) at h
        ∙ onward at (λ next. walk_f turn over end (end - at) next) (λ next. walk_f turn over end (end - next) next) (λ next a. same_f (end - at) (end - next) next (omega arith) (omega arith))

-- Induction along a walk: what holds at the end, and at a place where it holds at all further places, holds everywhere.
pub by_places {ℓ} : (P : ℕ → Type ℓ) (end : ℕ) → ((at : ℕ) → end ≤ at → P at)
    → ((at : ℕ) → at < end → ((next : ℕ) → at < next → P next) → P at) → (at : ℕ) → P at
by_places P end over more at = go (end - at) at (omega arith)
  where
    go : (left at : ℕ) → end ≤ at + left → P at
    go zero at h = over at (omega arith)
    go (suc left) at h =
        elim (dec_le end at) [
          | yes k ↦ over at k
          | no k ↦ more at (lt_of_not-le k) (λ next a. go left next (omega arith))
        ]
