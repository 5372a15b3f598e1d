-- The number of an answer, which `cases::number` gives, is the first part of what the answer says: 0 of Done, and 18 of Busy.
-- Assumes nothing.
use mathlib.Core.Path.{◌≡◌, refl}
use Rattle.std.specs.Prelude.{Result, Ok, Err}
use Rattle.cases.specs.Case.{number_of}
use Rattle.remote.specs.Said.{asked_said, busy_number}
use Rattle.remote.specs.declared.Outcome.{Outcome}
use Rattle.remote.specs.declared.Busy.{Busy}

pub asked_number : (a : Result Outcome Busy) → number_of busy_number a ≡ (asked_said a).0
asked_number (Ok o) = refl
asked_number (Err busy) = refl
