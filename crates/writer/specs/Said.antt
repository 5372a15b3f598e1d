-- Document 01, "What can come back": the number of each case that the writer answers with, and its values.
use Rattle.std.specs.Prelude.{◌≡◌, List, [], ◌∷◌, ℕ, Result, Ok, Err}
use Rattle.writer.specs.declared.WriteRefusal.{WriteRefusal}
use Rattle.writer.specs.declared.WriteRefusal.TheVariants.{Limit, Room}

abbrev pub written_said : Result ℕ WriteRefusal → ℕ × List ℕ
written_said (Ok n) = (0, n ∷ [])
written_said (Err Limit) = (14, 0 ∷ [])
written_said (Err Room) = (10, 0 ∷ [])

-- the number alone
abbrev pub written_number : WriteRefusal → ℕ
written_number refusal = (written_said (Err refusal)).0

-- "so no refusal is read as success"
pub written_never_done : (refusal : WriteRefusal) → written_number refusal ≡ 0 → ⊥
written_never_done Limit said = cc
written_never_done Room said = cc
