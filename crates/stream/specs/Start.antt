-- Document 01, "One stream": a new stream, and its hold-off.
use Rattle.std.specs.Prelude.{ℕ, ◌+◌, ◌*◌, Bool, true, cond, List, [], ◌∷◌, ltb}
use Rattle.counters.specs.declared.PauseId.{PauseId}
use Rattle.counters.specs.declared.Seq.{Seq}
use Rattle.stream.specs.declared.State.TheVariants.{Playing}
use Rattle.stream.specs.declared.Stream.{Stream}

-- "RTT and dither are at most 60,000 each"
abbrev pub most_milliseconds : ℕ
most_milliseconds = 60000

-- "H is 2 × RTT + T_dither_max, in milliseconds, or 0 with nowait."
abbrev pub holdoff_of : ℕ → ℕ → Bool → ℕ
holdoff_of rtt dither nowait = cond nowait 0 (2 * rtt + dither)

-- "A new stream starts in Playing with the PauseID and sequence number given, without the step, and r = 0."
abbrev pub start_of : ℕ → PauseId → Seq → ℕ → Stream
start_of ssrc c q holdoff =
    record { state = Playing; ssrc = ssrc; holdoff = holdoff; current = c; next = q; used = true; repeats = 0 }

-- What a new stream comes back with: its record, or case 14, Limit: "RTT or dither over 60,000, nowait or not".
abbrev pub starting : ℕ → PauseId → Seq → ℕ → ℕ → Bool → ℕ × List Stream
starting ssrc c q rtt dither nowait =
    cond (ltb most_milliseconds rtt) (14, [])
    (cond (ltb most_milliseconds dither) (14, [])
    (0, start_of ssrc c q (holdoff_of rtt dither nowait) ∷ []))
