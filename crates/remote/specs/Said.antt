-- Document 02, "One", and document 01, "What can come back": the number and the values of each case that an ask comes to. A refusal's value is its place, 0.
use Rattle.std.specs.Prelude.{◌≡◌, ℕ, List, [], ◌∷◌, Option, Some, None, Result, Ok, Err}
use Rattle.remote.specs.declared.AskEntry.{AskEntry}
use Rattle.remote.specs.declared.Busy.{Busy}
use Rattle.remote.specs.declared.Outcome.{Outcome}

-- one 20-byte packet or nothing
abbrev pub length_of : Option AskEntry → ℕ
length_of None = 0
length_of (Some e) = 20

-- 0 Done with the length of what goes out; "18 Busy, for asking while Asked"
abbrev pub asked_said : Result Outcome Busy → ℕ × List ℕ
asked_said (Ok o) = (0, length_of o.sent ∷ [])
asked_said (Err busy) = (18, 0 ∷ [])

abbrev pub busy_number : Busy → ℕ
busy_number busy = (asked_said (Err busy)).0

-- "so no refusal is read as success"
pub busy_never_done : (busy : Busy) → busy_number busy ≡ 0 → ⊥
busy_never_done busy e = cc
