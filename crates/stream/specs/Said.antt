-- Document 01, "What can come back": the number and the values of each case that a stream's own functions answer with. A refusal's value is its place, 0.
use Rattle.std.specs.Prelude.{ℕ, ◌≡◌, List, [], ◌∷◌, Result, Ok, Err}
use Rattle.counters.specs.declared.Seq.{Seq}
use Rattle.stream.specs.declared.Stream.{Stream}
use Rattle.stream.specs.declared.Held.{Held}
use Rattle.stream.specs.declared.Limit.{Limit}

-- 0 Done with the number; 13 Held
abbrev pub number_said : Result Seq Held → ℕ × List ℕ
number_said (Ok q) = (0, q.0 ∷ [])
number_said (Err held) = (13, 0 ∷ [])

abbrev pub held_number : Held → ℕ
held_number held = (number_said (Err held)).0

pub held_never_done : (held : Held) → held_number held ≡ 0 → ⊥
held_never_done held e = cc

-- 0 Done with the record; 14 Limit
abbrev pub started_said : Result Stream Limit → ℕ × List Stream
started_said (Ok s) = (0, s ∷ [])
started_said (Err limit) = (14, [])

abbrev pub limit_number : Limit → ℕ
limit_number limit = (started_said (Err limit)).0

pub limit_never_done : (limit : Limit) → limit_number limit ≡ 0 → ⊥
limit_never_done limit e = cc
