-- Demand 3, streams are apart: the requests that calls carry, a stream's own history among them (`own`), and the one-stream rules on that history alone.
use Rattle.std.specs.Prelude.{List, ℕ}
use Rattle.stream.specs.Rules.{Event}
use Rattle.stream.specs.declared.Stream.{Stream}
use Rattle.stream.specs.declared.ReplyEntry.{ReplyEntry}
use Rattle.serving.specs.History as serving
use Rattle.sides.specs.Run as side
use Rattle.sender.specs.Serve.{Request, entered, streams}
use Rattle.apart.specs.Calls.{Call, as_call, as_calls}
pub use Rattle.serving.specs.History.{own, events}

-- the requests that a call carries: every entry of a datagram is one at the datagram's time, a refused datagram carries none, a local call is one
abbrev pub carried : Call → List Request
carried call = side.carried entered (as_call call)

-- those of a run, in order
abbrev pub history : List Call → List Request
history calls = side.history entered (as_calls calls)

-- a local call is answered; an entry of a datagram is not answered by itself
abbrev pub answer_of : Event → ℕ × List ℕ → List (ℕ × List ℕ)
answer_of e said = serving.answer_of streams e said

-- what the one-stream rules give on one stream's events: the record at the end, its replies and the answers to its local calls, each in order
abbrev pub Alone : Type 0
Alone = serving.Alone Stream ReplyEntry

abbrev pub by_rules : List Event → Stream → Alone
by_rules es s = serving.by_rules streams es s
