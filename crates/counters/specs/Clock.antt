-- Document 01, "One stream": "The clock is a 32-bit count of milliseconds that runs over."
use Rattle.std.specs.Prelude.{ℕ, ◌+◌, ◌%◌, ◌^◌, Bool, nat_lt}
use Rattle.counters.specs.Width.{less}

-- "A deadline is the time of the PAUSE plus H, modulo 2^32."
abbrev pub deadline_of : ℕ → ℕ → ℕ
deadline_of time holdoff = (time + holdoff) % 2 ^ 32

-- "It is due at time t when t less the deadline, modulo 2^32, is below 2^31."
abbrev pub is_due : ℕ → ℕ → Bool
is_due t deadline = nat_lt (less 32 t deadline) (2 ^ 31)
