-- What passes does nothing: no change and no reply, whatever the state and the time.
-- Assumes nothing.
use Prim.Native.Nat.{ℕ}
use mathlib.Core.Bool.{true}
use mathlib.Core.Path.{◌≡◌, refl, sym}
use Rattle.counters.specs.Counters.{judged}
use Rattle.stream.specs.Events.{by_judgement, received}
use Rattle.stream.specs.Record.{silent}
use Rattle.stream.specs.code.Passes.{passes}
use Rattle.counters.specs.declared.PauseId.{PauseId}
use Rattle.counters.specs.declared.Judgement.{Judgement}
use Rattle.counters.specs.declared.Judgement.TheVariants.{Past, Current, Future}
use Rattle.counters.specs.declared.Message.{Message}
use Rattle.counters.specs.declared.Message.TheVariants as message
use Rattle.stream.specs.declared.Stream.{Stream}
use Rattle.stream.proofs.Rows.{past_silent}

module _ (t : ℕ) (s : Stream) where
  passing : (m : Message) (j : Judgement) → passes m j ≡ true → by_judgement t m j s ≡ silent s
  passing message.Pause Past e = sym (past_silent s.state s)
  passing message.Pause Current e = cc
  passing message.Pause Future e = cc
  passing message.Resume Past e = sym (past_silent s.state s)
  passing message.Resume Current e = cc
  passing message.Resume Future e = cc
  passing message.Paused j e = refl
  passing message.Refused j e = refl
  passing message.Reserved j e = refl

  pub passes_silent : (m : Message) (p : PauseId) → passes m (judged p s.current) ≡ true → received m p t s ≡ silent s
  unfolding received
  passes_silent m p e = passing m (judged p s.current) e
