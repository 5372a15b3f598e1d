-- Standard input in pieces: the bytes from `at` to `end` of what was read are still to be served.
use Rattle.std.specs.Prelude.{Bool, true, false, not, ◌&&◌, ◌≡◌, List, ℕ, ◌+◌, ◌-◌, ◌≤◌, ◌<◌, ltb, length, take}
use Rattle.lines.specs.Gather.{Gathering, gathering}
use Rattle.standard.specs.declared.Piece.{Piece}
use Rattle.standard.specs.declared.Reading.{Reading}

-- something is left to serve, and so are turns
unfoldable pub left : Piece → Bool
left piece = ltb piece.at piece.end && ltb 0 piece.turns

-- bytes are left of a piece from a place on, and they lie in what is lent
abbrev pub Rests : Piece → ℕ → List ℕ → Type 0
Rests piece at input = (at < piece.end) × (piece.end ≤ length input)

-- they are served next, with one turn less
abbrev pub rest_from : Piece → ℕ → Piece
rest_from piece at = record { at = at; end = piece.end; turns = piece.turns - 1; failed = false }

-- What follows a piece from a place on. Where bytes are left, nothing is read: they are served next, and the input stays as it was lent. Where none are, what was
-- read stands at the input's start; how much that is, which bytes, and whether the read failed, is the world's.
pub record Following (piece : Piece) (at : ℕ) (input : List ℕ) (next : Piece) (input_after : List ℕ) : Type 0 where
  pub rest : Rests piece at input → (next ≡ rest_from piece at) × (input_after ≡ input)
  pub read : ¬ Rests piece at input → next.at ≡ 0
  pub within : next.end ≤ length input_after
  pub turn : next.turns ≡ piece.turns - 1

-- the line that what is left of a piece begins with, gathered into an empty line: up to its line feed, or to the piece's end
abbrev pub line_of : Piece → List ℕ → List ℕ → Gathering
line_of piece line input = gathering line 0 (take piece.end input) piece.at

-- turns are left, and what is left of the piece lies in what is lent and has a line feed
pub record Ends (piece : Piece) (line input : List ℕ) : Type 0 where
  pub turns : 0 < piece.turns
  pub lent : piece.end ≤ length input
  pub feed : (line_of piece line input).at < piece.end

-- the line is whole, and the piece goes on after its line feed
abbrev pub whole_line : Piece → Gathering → Reading
whole_line piece line = record { piece = rest_from piece (line.at + 1); held = line.held; whole = true }

-- nothing follows: what is held is the last line, unless it is nothing or a read failed; no turn is left
abbrev pub last_line : ℕ → Bool → Reading
last_line held failed = record { piece = record { at = 0; end = 0; turns = 0; failed = failed }; held = held; whole = not failed && ltb 0 held }

-- What the next line leaves. Where no turn is left, nothing is read, and there is no line. Where the line ends in what is left of the piece, nothing is read, and
-- it is that line; nor is anything read in the last turn where bytes are left, and these are the last line. Else it goes on in what the world gives. In all cases:
-- a line takes a turn; where there is none, no turn is left, and no byte is held unless a read failed; and where a read failed, there is none.
pub record Lined (last : Piece) (line input : List ℕ) (reading : Reading) (line_after input_after : List ℕ) : Type 0 where
  pub over : last.turns ≡ 0 → (reading ≡ record { piece = last; held = 0; whole = false }) × (line_after ≡ line) × (input_after ≡ input)
  pub ended : Ends last line input → (reading ≡ whole_line last (line_of last line input)) × (line_after ≡ (line_of last line input).line) × (input_after ≡ input)
  pub last_turn : last.turns ≡ 1 → Rests last last.at input → last.end ≤ (line_of last line input).at → (reading ≡ last_line (line_of last line input).held false) × (line_after ≡ (line_of last line input).line) × (input_after ≡ input)
  pub turn : reading.whole ≡ true → reading.piece.turns < last.turns
  pub none : reading.whole ≡ false → reading.piece.turns ≡ 0
  pub empty : reading.whole ≡ false → reading.piece.failed ≡ false → reading.held ≡ 0
  pub failed : reading.piece.failed ≡ true → reading.whole ≡ false
