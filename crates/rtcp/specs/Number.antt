-- Document 01, "The RTCP datagram": "All numbers are big-endian."
use Rattle.std.specs.Prelude.{List, ℕ, ◌+◌, ◌*◌, ◌^◌, get_or}

abbrev pub byte : List ℕ → ℕ → ℕ
byte d i = get_or d i 0

abbrev pub two : List ℕ → ℕ → ℕ
two d i = byte d i * 2 ^ 8 + byte d (i + 1)

abbrev pub four : List ℕ → ℕ → ℕ
four d i = two d i * 2 ^ 16 + two d (i + 2)
