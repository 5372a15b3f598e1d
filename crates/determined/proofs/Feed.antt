-- The public functions of `feed`.
-- Assumes nothing.
use mathlib.Core.List.{List}
use mathlib.Core.Path.{◌≡◌, refl, ap, sym, ◌∙◌}
use Prim.Native.Nat.{ℕ}
use Rattle.feed.specs.Feed.{State, Feeds}
use Rattle.feed.specs.declared.Fed.{Fed}
use Rattle.feed.proofs.feed as feed
use Rattle.feed.proofs.end as end
use Rattle.determined.proofs.Both.{Both}

same_fed : (x y : Fed) → x.held ≡ y.held → x.at ≡ y.at → x.written ≡ y.written → x ≡ y
same_fed x y held at written =
    ap (λ (n : ℕ). record { held = n; at = x.at; written = x.written }) held
    ∙ ap (λ (n : ℕ). record { held = y.held; at = n; written = x.written }) at
    ∙ ap (λ (n : ℕ). record { held = y.held; at = y.at; written = n }) written

module _ {st : State} {bytes out : List ℕ} {at : ℕ} where
  -- two ends of a call that was to feed the same bytes
  fed_same : {x y : Fed} {s t : State} {a b : List ℕ} → Feeds st bytes at out x s a → Feeds st bytes at out y t b
      → x.held ≡ s.held → y.held ≡ t.held → x ≡ y
  fed_same {x} {y} p q hx hy =
      same_fed x y (hx ∙ ap (λ (s : State). s.held) (p.state ∙ sym q.state) ∙ sym hy) (p.taking ∙ sym q.taking) (p.count ∙ sym q.count)

pub feed_determined : Both 6 feed.Kinds.ps feed.Kinds.r feed.Reads.Post
    (λ κs x y s t. (x ≡ y) × (s.0.now ≡ t.0.now) × (s.1.0.now ≡ t.1.0.now) × (s.1.1.1.0.now ≡ t.1.1.1.0.now)
    × (s.1.1.1.1.0.now ≡ t.1.1.1.1.0.now) × (s.1.1.1.1.1.1.1.0.now ≡ t.1.1.1.1.1.1.1.0.now))
feed_determined κs args x y s t p q =
    let e = p.state ∙ sym q.state in (
      fed_same p q refl refl,
      ap (λ (s : State). s.table) e,
      ap (λ (s : State). s.line) e,
      ap (λ (s : State). s.buffers.bytes) e,
      ap (λ (s : State). s.buffers.reply) e,
      p.output ∙ sym q.output,
    )

pub end_determined : Both 5 end.Kinds.ps end.Kinds.r end.Reads.Post
    (λ κs x y s t. (x ≡ y) × (s.0.now ≡ t.0.now) × (s.1.0.now ≡ t.1.0.now) × (s.1.1.1.0.now ≡ t.1.1.1.0.now)
    × (s.1.1.1.1.0.now ≡ t.1.1.1.1.0.now) × (s.1.1.1.1.1.0.now ≡ t.1.1.1.1.1.0.now))
end_determined κs args x y s t p q =
    let e = p.state ∙ sym q.state in (
      fed_same p q refl refl,
      ap (λ (s : State). s.table) e,
      ap (λ (s : State). s.line) e,
      ap (λ (s : State). s.buffers.bytes) e,
      ap (λ (s : State). s.buffers.reply) e,
      p.output ∙ sym q.output,
    )
