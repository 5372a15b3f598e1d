-- Demand 3, streams are apart, on the receiver's table: the requests that calls carry, and a run of calls as a fold of what the table's contracts promise.
use Rattle.std.specs.Prelude.{List, ℕ}
use Rattle.remote.specs.declared.AskEntry.{AskEntry}
use Rattle.serving.specs.Order as order
use Rattle.serving.specs.Run as served
use Rattle.sides.specs.Run as side
use Rattle.receiver.specs.Calls.{receiver}
use Rattle.receiver.specs.Keeping.{Keeping}
use Rattle.receiver.specs.Serve.{Request, entered, remotes}
use Rattle.remote_apart.specs.Calls.{Call, as_call, as_calls}
pub use Rattle.serving.specs.History.{own}
pub use Rattle.serving.specs.Order.{one_by_one}

-- the requests that calls carry, in order: every entry of a datagram is one, a refused datagram carries none, a local call is one
abbrev pub history : List Call → List Request
history calls = side.history entered (as_calls calls)

-- what a run comes to: the table at the end, and the messages that were sent and the answers to the local calls, in order over the whole run
abbrev pub Run : Type 0 → Type 0
Run A = served.Run A AskEntry

-- two runs that no stream can tell apart: the same table, and for every SSRC, in use or not, the same messages and the same answers, in the same order
abbrev pub Alike : {A : Type 0} → Run A → Run A → Type 0
Alike one other = order.Alike remotes one other

module _ {A : Type 0} (K : Keeping A) where
  -- requests served one after the other, each by the table's own `serve`
  abbrev pub serving : List Request → List A → Run A
  serving rs t = served.serving remotes K rs t

  -- the message of a call: a call that says Done, case 0, sends what the rules send for its requests, a refusal sends nothing
  abbrev pub sent : ℕ → Call → List A → List AskEntry
  sent house call t = side.sent (receiver house) K (as_call call) t

  -- the run: each call on the table that the one before it left
  abbrev pub run : ℕ → List Call → List A → Run A
  run house calls t = side.run (receiver house) K (as_calls calls) t

  -- every call of a run says a case other than 0, Done
  abbrev pub AllRefused : ℕ → List Call → List A → Type 0
  AllRefused house calls t = side.AllRefused (receiver house) K (as_calls calls) t
