-- Which received entries do nothing in any state: document 01, "One stream", the state table's first row, and "A received PAUSED or REFUSED does nothing here".
-- proofs/Passes.antt ties it to the table.
use Rattle.std.specs.Prelude.{Bool, true, false, cond}
use Rattle.counters.specs.Counters.{is_past}
use Rattle.counters.specs.declared.Judgement.{Judgement}
use Rattle.counters.specs.declared.Message.{Message}
use Rattle.counters.specs.declared.Message.TheVariants as message

-- PAUSE and RESUME ask for something
abbrev pub asks : Message → Bool
asks message.Pause = true
asks message.Resume = true
asks message.Paused = false
asks message.Refused = false
asks message.Reserved = false

abbrev pub passes : Message → Judgement → Bool
passes m j = cond (asks m) (is_past j) true
