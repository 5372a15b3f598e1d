-- Document 01, "The line program": "A line ends at a line feed or at the end of input". The bytes of a line, gathered from the input.
use Rattle.std.specs.Prelude.{ℕ, suc, ◌+◌, ◌-◌, min, cond, List, [], ◌∷◌, take, drop, ◌==◌}
use Rattle.std.proofs.lemmas.List.Edits.{sets}
use Rattle.lines.specs.Hex.{most_digits, line_feed}

-- Of an unfinished line one byte more than 3,100 is held, so that a longer line is known by its length; the rest of it is read away.
abbrev pub most_held : ℕ
most_held = suc most_digits

-- how many bytes stand before the first line feed, or in all where there is none
abbrev pub in_line : List ℕ → ℕ
in_line [] = 0
in_line (b ∷ bs) = cond (b == line_feed) 0 (suc (in_line bs))

-- how many of `count` bytes more a line has place for
abbrev pub fitting : ℕ → ℕ → ℕ
fitting held count = min count (most_held - held)

-- what gathering leaves: how many bytes of the line are held, where its line feed stands or the input ends, and the lent bytes of the line
pub record Gathering : Type 0 where
  pub held : ℕ
  pub at : ℕ
  pub line : List ℕ

-- from a place of the input on, after the bytes that the line holds
unfoldable pub gathering : List ℕ → ℕ → List ℕ → ℕ → Gathering
gathering line held input at =
    record {
      held = held + fitting held (in_line (drop at input));
      at = at + in_line (drop at input);
      line = sets line held (take (fitting held (in_line (drop at input))) (drop at input));
    }
