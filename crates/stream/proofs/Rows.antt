-- The two rows of the state table that are the same in every state.
-- Assumes nothing.
use mathlib.Core.Path.{◌≡◌, refl}
use Rattle.stream.specs.Events.{past_row, future_row}
use Rattle.stream.specs.Record.{silent, REFUSED}
use Rattle.stream.specs.declared.State.{State}
use Rattle.stream.specs.declared.State.TheVariants.{Playing, Pausing, Paused, LocalPaused}
use Rattle.stream.specs.declared.Stream.{Stream}

pub past_silent : (state : State) (s : Stream) → silent s ≡ past_row state s
past_silent Playing s = refl
past_silent (Pausing d) s = refl
past_silent Paused s = refl
past_silent LocalPaused s = refl

pub future_refused : (state : State) (s : Stream) → REFUSED s ≡ future_row state s
future_refused Playing s = refl
future_refused (Pausing d) s = refl
future_refused Paused s = refl
future_refused LocalPaused s = refl
