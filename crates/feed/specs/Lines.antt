-- Document 01, "The line program", as a whole: from the bytes of the input to the bytes of the output, line by line.
use Rattle.std.specs.Prelude.{cond, List, [], ◌∷◌, ◌++◌, ℕ, length, replicate, eqb}
use Rattle.sides.specs.Calls.{most_records}
use Rattle.lines.specs.Hex.{line_feed, printed}
use Rattle.frames.specs.Serve.{Table}
use Rattle.frames.specs.Whole.{line_served}

-- "A line ends at a line feed or at the end of input; nothing after the last line feed is no line."
abbrev pub lines_after : List ℕ → List ℕ → List (List ℕ)
lines_after begun [] = cond (eqb (length begun) 0) [] (begun ∷ [])
lines_after begun (b ∷ bs) = cond (eqb b line_feed) (begun ∷ lines_after [] bs) (lines_after (begun ++ (b ∷ [])) bs)

abbrev pub lines_of : List ℕ → List (List ℕ)
lines_of input = lines_after [] input

-- "prints one line for each"
abbrev pub answers_to : Table → List (List ℕ) → List ℕ
answers_to t [] = []
answers_to t (line ∷ lines) = printed (line_served line t).answer ++ answers_to (line_served line t).table lines

-- "the table has 64 records, all unused at first"
abbrev pub unused_table : Table
unused_table = replicate most_records (replicate 8 0)

abbrev pub program_output : List ℕ → List ℕ
program_output input = answers_to unused_table (lines_of input)
