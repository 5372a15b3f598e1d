-- The first piece that a line is gathered from: where it has the line feed, all of the result is known from it.
-- Assumes nothing.
use Rattle.std.proofs.Common.{Bool, true, false, not, ◌&&◌, true≢false, List, ◌≡◌, refl, sym, ◌∙◌, ap, ℕ, ◌+◌, ◌≤◌, ◌<◌, arith, ltb-false, ltb, take}
use Rattle.lines.specs.Gather.{Gathering, gathering}
use Rattle.standard.specs.Piece.{left, Rests, rest_from, line_of, whole_line, last_line, Following, Ends}
use Rattle.standard.specs.declared.Piece.{Piece}

-- the line goes on: its piece is used up, and has turns left
pub used_up : (piece : Piece) (at : ℕ) → (not (ltb at piece.end) && left piece) ≡ true → (piece.end ≤ at) × (left piece ≡ true)
used_up piece at on = go (ltb at piece.end) refl on
  where
    go : (before : Bool) → ltb at piece.end ≡ before → (not before && left piece) ≡ true → (piece.end ≤ at) × (left piece ≡ true)
    go true e h = absurd (true≢false (sym h))
    go false e h = (ltb-false at piece.end e, h)

-- where the last line is none and no read failed, nothing is held
pub nothing_held : (held : ℕ) (failed : Bool) → (not failed && ltb 0 held) ≡ false → failed ≡ false → held ≡ 0
nothing_held held true none e = absurd (true≢false e)
nothing_held held false none e = let few = ltb-false 0 held none in omega arith

-- what stands after a turn is what stood after the first gathering
pub record Same (input₀ line₀ : List ℕ) (turns₀ : ℕ) (failed₀ : Bool) (end₀ held₀ at₀ : ℕ) (input₁ line₁ : List ℕ) (turns₁ : ℕ) (failed₁ : Bool) (end₁ held₁ at₁ : ℕ) : Type 0 where
  pub input : input₁ ≡ input₀
  pub line : line₁ ≡ line₀
  pub turns : turns₁ ≡ turns₀
  pub failed : failed₁ ≡ failed₀
  pub end : end₁ ≡ end₀
  pub held : held₁ ≡ held₀
  pub at : at₁ ≡ at₀

begins : (last : Piece) (line input : List ℕ) → (line_of last line input).at < last.end → last.at < last.end
unfolding gathering
begins last line input feed = omega (arith, feed)

pub line_rests : (last : Piece) (line input : List ℕ) → Ends last line input → Rests last last.at input
line_rests last line input ends = (begins last line input ends.feed, ends.lent)

module _
    (last : Piece) (line input : List ℕ) (piece : Piece) (input₀ : List ℕ) (first : Gathering)
    (next : Following last last.at input piece input₀)
    (gathered : gathering line 0 (take piece.end input₀) piece.at ≡ first)
    (rests : Rests last last.at input)
  where
    rest : (piece ≡ rest_from last last.at) × (input₀ ≡ input)
    rest = next.rest rests

    pub same_end : piece.end ≡ last.end
    same_end = ap (λ p. p.end) rest.0

    pub first_line : line_of last line input ≡ first
    first_line =
        ap (λ p. gathering line 0 (take p.end input) p.at) (sym rest.0)
        ∙ ap (λ i. gathering line 0 (take piece.end i) piece.at) (sym rest.1)
        ∙ gathered

    pub same_at : (line_of last line input).at ≡ first.at
    same_at = ap (λ g. g.at) first_line

    pub has_feed : (line_of last line input).at < last.end → first.at < piece.end
    has_feed feed = omega (arith, feed, same_at, same_end)

    module _
        (input₁ line₁ : List ℕ) (turns : ℕ) (failed : Bool) (end held at : ℕ)
        (same : Same input₀ first.line piece.turns piece.failed piece.end first.held first.at input₁ line₁ turns failed end held at)
      where
        same_line : line₁ ≡ (line_of last line input).line
        same_line = rw (first_line, same.line)

        pub whole_line_lem : (record { piece = record { at = at + 1; end = end; turns = turns; failed = false }; held = held; whole = true } ≡ whole_line last (line_of last line input)) × (line₁ ≡ (line_of last line input).line) × (input₁ ≡ input)
        whole_line_lem = (
          rw (first_line, same.at, same.end, same.turns, same.held, ap (λ p. p.turns) rest.0, same_end),
          same_line,
          same.input ∙ rest.1,
        )

        pub rest_line : (last_line held failed ≡ last_line (line_of last line input).held false) × (line₁ ≡ (line_of last line input).line) × (input₁ ≡ input)
        rest_line = (rw (first_line, same.held, same.failed, ap (λ p. p.failed) rest.0), same_line, same.input ∙ rest.1)
