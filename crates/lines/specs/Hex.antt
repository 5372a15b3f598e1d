-- Document 01, "The line program": "lines of lower-case hexadecimal". What the digits of a line stand for, and how bytes are printed.
use Rattle.std.specs.Prelude.{ℕ, ◌+◌, ◌-◌, ◌*◌, ◌/◌, ◌%◌, Bool, true, cond, not, ◌&&◌, List, [], ◌∷◌, ◌++◌, length, ◌==◌, nat_le, nat_lt, Option, Some, None}
use Rattle.std.proofs.lemmas.List.Edits.{sets}

-- "over 3,100 digits"
abbrev pub most_digits : ℕ
most_digits = 3100

-- the bytes that so many digits stand for
abbrev pub most_read : ℕ
most_read = most_digits / 2

abbrev pub line_feed : ℕ
line_feed = 10

-- the value of a digit, 0 to 9 or a to f; 16 of a byte that is none
unfoldable pub value_of : ℕ → ℕ
value_of b = cond (nat_le 48 b && nat_le b 57) (b - 48) (cond (nat_le 97 b && nat_le b 102) (b - 87) 16)

-- "a bad .. digit"
abbrev pub is_digit : ℕ → Bool
is_digit b = not (value_of b == 16)

abbrev pub are_digits : List ℕ → Bool
are_digits [] = true
are_digits (b ∷ bs) = is_digit b && are_digits bs

-- two digits a byte
abbrev pub bytes_of : List ℕ → List ℕ
bytes_of [] = []
bytes_of (high ∷ []) = []
bytes_of (high ∷ low ∷ digits) = (value_of high * 16 + value_of low) ∷ bytes_of digits

-- no "bad or odd digit", and not "over 3,100 digits"
unfoldable pub hexadecimal : List ℕ → Bool
hexadecimal line = nat_le (length line) most_digits && (length line % 2 == 0 && are_digits line)

-- what is read of a line, how many bytes it stands for if it is hexadecimal, and the lent bytes after it
pub record Reading : Type 0 where
  pub digits : Option ℕ
  pub bytes : List ℕ

-- the bytes that the line stands for, at the start of the lent ones; what is no hexadecimal changes none
unfoldable pub digits_read : List ℕ → List ℕ → Reading
digits_read line lent =
    cond (hexadecimal line) (record { digits = Some (length line / 2); bytes = sets lent 0 (bytes_of line) }) (record { digits = None; bytes = lent })

unfoldable pub digit_of : ℕ → ℕ
digit_of value = cond (nat_lt value 10) (value + 48) (value + 87)

abbrev pub digits_of : List ℕ → List ℕ
digits_of [] = []
digits_of (b ∷ bs) = digit_of (b / 16) ∷ digit_of (b % 16) ∷ digits_of bs

-- the digits of the bytes, and a line feed
unfoldable pub printed : List ℕ → List ℕ
printed bytes = digits_of bytes ++ (line_feed ∷ [])

-- what printing leaves: the place after the line, and the output
pub record Printing : Type 0 where
  pub next : ℕ
  pub output : List ℕ

-- bytes printed from a place of the output on; where they have no room, nothing is printed
unfoldable pub printing : List ℕ → List ℕ → ℕ → Printing
printing bytes out at =
    cond (nat_le (at + length (printed bytes)) (length out)) (record { next = at + length (printed bytes); output = sets out at (printed bytes) })
    (record { next = at; output = out })
