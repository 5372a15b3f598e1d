-- Document 01, "The line program": the input byte by byte. "It reads standard input, lines of lower-case hexadecimal, one frame a line, and prints one line for
-- each. A line ends at a line feed or at the end of input".
use Rattle.std.specs.Prelude.{cond, ◌≡◌, List, [], ◌∷◌, ◌++◌, ℕ, suc, ◌+◌, ◌-◌, ◌≤◌, length, take, set, eqb, ltb}
use Rattle.std.proofs.lemmas.List.Edits.{sets}
use Rattle.lines.specs.Gather.{most_held}
use Rattle.lines.specs.Hex.{line_feed, printed}
use Rattle.frames.specs.Serve.{Table}
use Rattle.frames.specs.Whole.{Answered, line_served, Buffers, buffers_after, longest}
use Rattle.feed.specs.declared.Fed.{Fed}

-- what stands between two bytes: the unfinished line is the first `held` bytes of the lent ones, and the buffers are as they were lent or as the line before it left them
pub record State : Type 0 where
  pub held : ℕ
  pub line : List ℕ
  pub table : Table
  pub buffers : Buffers

abbrev pub unfinished : State → List ℕ
unfinished now = take now.held now.line

-- what some bytes of input lead to
pub record Feeding : Type 0 where
  pub state : State
  pub output : List ℕ

-- one more byte of the unfinished line, of which one byte more than 3,100 is held; the rest of it is read away
abbrev pub kept : State → ℕ → State
kept now b =
    cond (ltb now.held most_held)
    (record { held = now.held + 1; line = set now.line now.held b; table = now.table; buffers = now.buffers }) now

-- the line's answer is printed, and a new line begins
abbrev pub answered : State → Answered → Feeding
answered now s =
    record {
      state = record { held = 0; line = now.line; table = s.table; buffers = buffers_after (unfinished now) now.table now.buffers };
      output = printed s.answer;
    }

unfoldable pub fed_byte : State → ℕ → Feeding
fed_byte now b =
    cond (eqb b line_feed) (answered now (line_served (unfinished now) now.table)) (record { state = kept now b; output = [] })

-- the bytes of input one after the other
abbrev pub fed : State → List ℕ → Feeding
fed now [] = record { state = now; output = [] }
fed now (b ∷ bs) =
    record {
      state = (fed (fed_byte now b).state bs).state;
      output = (fed_byte now b).output ++ (fed (fed_byte now b).state bs).output;
    }

-- how many of the bytes are taken where the output has room for so many: as long as the longest answer fits
abbrev pub taken : ℕ → State → List ℕ → ℕ
taken room now [] = 0
taken room now (b ∷ bs) =
    cond (ltb room longest) 0 (suc (taken (room - length (fed_byte now b).output) (fed_byte now b).state bs))

-- "A line ends .. at the end of input; nothing after the last line feed is no line": the line feed that the end of input stands for
abbrev pub closing : ℕ → List ℕ
closing held = cond (eqb held 0) [] (line_feed ∷ [])

-- the whole input, and its end
abbrev pub fed_whole : State → List ℕ → List ℕ
fed_whole now input = (fed now input).output ++ (fed (fed now input).state (closing (fed now input).state.held)).output

-- what a call leaves that was to feed these bytes, from this place of the input on, with this output lent
pub record Feeds (before : State) (bytes : List ℕ) (at : ℕ) (out : List ℕ) (r : Fed) (after : State) (written : List ℕ) : Type 0 where
  pub taking : r.at ≡ at + taken (length out) before bytes
  pub state : after ≡ (fed before (take (taken (length out) before bytes) bytes)).state
  pub count : r.written ≡ length (fed before (take (taken (length out) before bytes) bytes)).output
  pub output : written ≡ sets out 0 (fed before (take (taken (length out) before bytes) bytes)).output
  pub fits : r.written ≤ length out
