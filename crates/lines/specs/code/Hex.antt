-- What the code alone needs of a line that is read.
use Rattle.std.specs.Prelude.{◌≤◌, ℕ, Option, Some, None}
use Rattle.lines.specs.Hex.{most_read}

-- no more bytes than are lent
abbrev pub Within : Option ℕ → Type 0
Within (Some n) = n ≤ most_read
Within None = Unit {0}
