-- How much there is of what a call is lent.
use Rattle.std.specs.Prelude.{ℕ}

-- "each has 65 records"
abbrev pub records : ℕ
records = 65

-- "it has 4,000 bytes"
abbrev pub reply_bytes : ℕ
reply_bytes = 4000
