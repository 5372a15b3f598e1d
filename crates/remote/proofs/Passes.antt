-- What passes does nothing: no change and no message, whatever the state.
-- Assumes nothing.
use mathlib.Core.Bool.{true, true≢false}
use mathlib.Core.Path.{◌≡◌, refl, sym}
use Rattle.counters.specs.declared.PauseId.{PauseId}
use Rattle.counters.specs.declared.Message.{Message}
use Rattle.counters.specs.declared.Message.TheVariants as message
use Rattle.remote.specs.Events.{received}
use Rattle.remote.specs.Record.{silent}
use Rattle.remote.specs.code.Passes.{passes}
use Rattle.remote.specs.declared.Remote.{Remote}

pub passes_silent : (m : Message) (id : PauseId) (s : Remote) → passes m ≡ true → received m id s ≡ silent s
passes_silent message.Pause id s e = refl
passes_silent message.Resume id s e = refl
passes_silent message.Paused id s e = absurd (true≢false (sym e))
passes_silent message.Refused id s e = absurd (true≢false (sym e))
passes_silent message.Reserved id s e = refl
