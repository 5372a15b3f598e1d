-- Document 01, "What can come back": "0 Done", and the number of each refusal.
use Rattle.std.specs.Prelude.{ℕ, Result, Ok, Err}

-- the number of an answer, from the numbers of its refusals
abbrev pub number_of : {A E : Type 0} → (E → ℕ) → Result A E → ℕ
number_of numbered (Ok done) = 0
number_of numbered (Err refusal) = numbered refusal
