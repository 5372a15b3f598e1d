-- Every line that document 01 marks [P] is answered as the document prints it: one computed test over the whole table.
-- Assumes nothing.
use Prim.Native.Nat.{ℕ}
use mathlib.Core.List.{map}
use mathlib.Core.Path.{◌≡◌, refl}
use Rattle.rtcp.specs.Datagram.{contents, opened, packets, reading, refuse_if}
use Rattle.rtcp.specs.Pick.{pick}
use Rattle.rtcp.specs.Walk.{walk}
use Rattle.counters.specs.Counters.{judged}
use Rattle.stream.specs.Events.{received}
use Rattle.stream.specs.Rules.{ruled}
use Rattle.counters.specs.Width.{less, signed}
use Rattle.marked.specs.Marked.{Line, answer, marked}

pub marked_cases : (a b c d e f g h : ℕ) → map (λ (l : Line). answer l.asked) (marked a b c d e f g h) ≡ map (λ (l : Line). l.told) (marked a b c d e f g h)
unfolding judged less signed ruled received reading packets opened contents refuse_if pick walk
marked_cases a b c d e f g h = refl
