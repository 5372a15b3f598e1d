-- Document 01, "The RTCP datagram": "All numbers are big-endian." Numbers of 1, 2 and 4 bytes are read as there; a byte past the end counts as 0.
use Rattle.std.specs.Prelude.{ℕ, ◌+◌, ◌*◌, ◌^◌, List}
use Rattle.rtcp.specs.Number.{four}

abbrev pub eight : List ℕ → ℕ → ℕ
eight d i = four d i * 2 ^ 32 + four d (i + 4)
