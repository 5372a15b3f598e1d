-- What send decided, from what the rules said: a number goes with the two states that send, Held with the two that do not.
-- Assumes nothing.
use Rattle.std.specs.Prelude.{Ok, Err}
use Rattle.std.proofs.Common.{◌≡◌, ℕ, List, ap, arith}
use Rattle.stream.specs.Said.{number_said}
use Rattle.stream.specs.Events.{send_row}
use Rattle.counters.specs.declared.Seq.{Seq}
use Rattle.stream.specs.declared.State.{State}
use Rattle.stream.specs.declared.State.TheVariants.{Playing, Pausing, Paused, LocalPaused}
use Rattle.stream.specs.declared.Stream.{Stream}
use Rattle.stream.specs.declared.Sent.{Sent}
use Rattle.stream.proofs.Said.{number_apart}
use Rattle.decide.specs.code.Decide.{sent_by}

abbrev numbered : Seq → Stream → Sent
numbered q s = record { stream = s; number = Ok q }

abbrev held : Stream → Sent
held s = record { stream = s; number = Err (record {}) }

case : ℕ × List ℕ → ℕ
case said = said.0

module _ (s after : Stream) where
  same_number : (q : Seq) → number_said (Ok q) ≡ number_said (Ok s.next) → q ≡ s.next
  same_number q e = let n = number_apart (Ok q) (Ok s.next) e in cc

  pub sent_next : (state : State) (q : Seq) → after ≡ (send_row state s).0 → number_said (Ok q) ≡ (send_row state s).1 → numbered q after ≡ sent_by state s
  unfolding case
  sent_next Playing q e n = rw (e, same_number q n)
  sent_next (Pausing d) q e n = rw (e, same_number q n)
  sent_next Paused q e n = let z : ◌≡◌ {A = ℕ} 0 13 = ap case n in absurd (omega arith)
  sent_next LocalPaused q e n = let z : ◌≡◌ {A = ℕ} 0 13 = ap case n in absurd (omega arith)

  pub sent_held : (state : State) → after ≡ (send_row state s).0 → number_said (Err (record {})) ≡ (send_row state s).1 → held after ≡ sent_by state s
  unfolding case
  sent_held Playing e n = let z : ◌≡◌ {A = ℕ} 13 0 = ap case n in absurd (omega arith)
  sent_held (Pausing d) e n = let z : ◌≡◌ {A = ℕ} 13 0 = ap case n in absurd (omega arith)
  sent_held Paused e n = rw e
  sent_held LocalPaused e n = rw e
