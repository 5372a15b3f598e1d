-- Document 01, "The RTCP datagram": "All numbers are big-endian."
use Rattle.std.specs.Prelude.{List, [], ◌∷◌, ◌++◌, ℕ, ◌/◌, ◌%◌, ◌^◌}

abbrev pub bytes_of_two : ℕ → List ℕ
bytes_of_two x = x / 2 ^ 8 ∷ x % 2 ^ 8 ∷ []

abbrev pub bytes_of_four : ℕ → List ℕ
bytes_of_four x = bytes_of_two (x / 2 ^ 16) ++ bytes_of_two (x % 2 ^ 16)
