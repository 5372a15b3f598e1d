-- A program's loop ends: where something is left to serve, so are turns, and the next piece, or the next line, has fewer of them.
-- Assumes nothing.
use Rattle.std.proofs.Common.{Bool, true, false, cond, ◌&&◌, true≢false, ◌≡◌, refl, sym, ℕ, suc, ◌-◌, ◌<◌, arith, ltb-true, ltb}
use Rattle.standard.specs.Piece.{left, rest_from}
use Rattle.standard.specs.declared.Piece.{Piece}
use Rattle.standard.specs.declared.Reading.{Reading}

fewer : (bytes : Bool) (turns after : ℕ) → (bytes && ltb 0 turns) ≡ true → after ≡ turns - 1 → after < turns
fewer true turns after more e = let some = ltb-true 0 turns more in omega arith
fewer false turns after more e = absurd (true≢false (sym more))

pub fewer_turns : (piece : Piece) (after : ℕ) → left piece ≡ true → after ≡ piece.turns - 1 → after < piece.turns
unfolding left
fewer_turns piece after more e = fewer (ltb piece.at piece.end) piece.turns after more e

-- what is left of a piece is served with one turn less
pub turn_taken : (piece : Piece) (at turns : ℕ) → turns ≡ piece.turns - 1 → record { at = at; end = piece.end; turns = turns; failed = false } ≡ rest_from piece at
turn_taken piece at turns e = rw e

-- more turns than after the line that is to be answered
abbrev pub turns_of : Reading → ℕ
turns_of reading = cond reading.whole (suc reading.piece.turns) 0

pub fewer_lines : (reading next : Reading) → reading.whole ≡ true → (next.whole ≡ true → next.piece.turns < reading.piece.turns) → turns_of next < turns_of reading
fewer_lines reading next whole less = rw whole (go next.whole less)
  where
    go : (another : Bool) → (another ≡ true → next.piece.turns < reading.piece.turns) → cond another (suc next.piece.turns) 0 < suc reading.piece.turns
    go true l = let h = l refl in omega arith
    go false l = omega arith
