-- Where the first piece has the line feed, the loop does nothing; a piece after the first has fewer turns than it. The measure is the turns that are left.
use Rattle.std.proofs.Common.{◌≡◌, ◌⊎◌, ◌≤◌, ◌<◌, length}
use Rattle.standard.proofs.First.{Same}
use Rattle.standard.proofs.next_line.Given as goal

abbrev pub invariant-loop-input : goal.invariant-loop-input
invariant-loop-input l = record {
  lent : length l.input ≡ length l.initial.input;
  end : l.end ≡ l.piece.end;
  within : l.end ≤ length l.input;
  turns : l.piece.turns ≤ l.initial.piece.turns;
  first : (l.initial.got.at < l.initial.end) ⊎ (l.initial.piece.turns ≡ 0) → Same l.initial.input l.initial.line l.initial.piece.turns l.initial.piece.failed l.initial.end l.initial.got.held l.initial.got.at l.input l.line l.piece.turns l.piece.failed l.end l.got.held l.got.at;
}

abbrev pub decreases-loop-input : goal.decreases-loop-input
decreases-loop-input l = l.piece.turns
