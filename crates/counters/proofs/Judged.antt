-- The judgement of a PauseID, from its difference modulo 65,536.
-- Assumes nothing.
use Rattle.std.proofs.Common.{◌≡◌, ℕ, zero, suc, ◌<◌, ◌≤◌, false, leb, pos, refl, lt_of_not-le, arith, le-leb}
use native.Mathlib.Decide.{dec_le, ℕ_discrete}
use borrow.Author.Tests.{lt-leb}
use Rattle.counters.specs.Width.{less}
use Rattle.counters.specs.Counters.{judgement, judged, is_past}
use Rattle.counters.specs.declared.PauseId.{PauseId}
use Rattle.counters.specs.declared.Judgement.TheVariants.{Past, Current, Future}
use Rattle.counters.proofs.Width.{signed_ahead, signed_behind}

module _ (p c : PauseId) (d : ℕ) (e : less 16 p.0 c.0 ≡ d) where
  pub judged_current : d ≡ 0 → judged p c ≡ Current
  unfolding judged
  judged_current z = rw (e, z, signed_ahead 16 {d = 0} (omega arith))

  pub judged_future : (0 < d) → d < 32768 → judged p c ≡ Future
  unfolding judged
  judged_future h k = rw (e, signed_ahead 16 {d = d} k) (above d h)
    where
      above : (n : ℕ) → 0 < n → judgement (pos n) ≡ Future
      above zero h = absurd (omega arith)
      above (suc n) h = refl

  pub judged_past : 32768 ≤ d → d < 65536 → judged p c ≡ Past
  unfolding judged
  judged_past h k = rw (e, (signed_behind 16 {d = d} h k).1)

  pub past_test : d < 65536 → leb 32768 d ≡ is_past (judged p c)
  past_test k =
      elim (dec_le 32768 d) [
        | yes h ↦ rw (le-leb 32768 d h, judged_past h k)
        | no h ↦ rw (lt-leb 32768 d (lt_of_not-le h)) (other (lt_of_not-le h))
      ]
    where
      other : d < 32768 → false ≡ is_past (judged p c)
      other h =
          elim (ℕ_discrete d 0) [
            | yes z ↦ rw (judged_current z)
            | no z ↦ rw (judged_future (let some = z in omega arith) h)
          ]
