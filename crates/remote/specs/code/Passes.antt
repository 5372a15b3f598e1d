-- The entries that do nothing in any state: all but PAUSED and REFUSED.
use Rattle.std.specs.Prelude.{Bool, true, false}
use Rattle.counters.specs.declared.Message.{Message}
use Rattle.counters.specs.declared.Message.TheVariants as message

abbrev pub passes : Message → Bool
passes message.Pause = true
passes message.Resume = true
passes message.Paused = false
passes message.Refused = false
passes message.Reserved = true
