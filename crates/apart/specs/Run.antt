-- Demand 3, streams are apart: a run of calls on a table, as a fold of what the table's contracts promise.
use Rattle.std.specs.Prelude.{List, ℕ}
use Rattle.stream.specs.declared.ReplyEntry.{ReplyEntry}
use Rattle.serving.specs.Run.{Answer}
use Rattle.serving.specs.Run as served
use Rattle.sides.specs.Run as side
use Rattle.sender.specs.Calls.{sender}
use Rattle.sender.specs.Keeping.{Keeping}
use Rattle.sender.specs.Serve.{Request, streams}
use Rattle.apart.specs.Calls.{Call, as_call, as_calls}
pub use Rattle.serving.specs.Run.{answers_to}

-- what a run comes to: the table at the end, and the reply entries that were sent and the answers to the local calls, in order over the whole run
abbrev pub Run : Type 0 → Type 0
Run A = served.Run A ReplyEntry

-- of some replies those with one SSRC as target
abbrev pub replies_to : ℕ → List ReplyEntry → List ReplyEntry
replies_to ssrc es = served.replies_to streams ssrc es

-- the answer to a local call
abbrev pub answers_of : Call → ℕ × List ℕ → List Answer
answers_of call said = side.answers_of streams (as_call call) said

module _ {A : Type 0} (K : Keeping A) where
  -- requests served one after the other, each by the table's own `serve`
  abbrev pub serving : List Request → List A → Run A
  serving rs t = served.serving streams K rs t

  -- The reply entries of a call: a call that says Done, case 0, sends the replies to its requests, a refusal sends none. (proofs/Written.antt: these are the
  -- entries of the packets in its reply buffer.)
  abbrev pub sent : Call → List A → List ReplyEntry
  sent call t = side.sent sender K (as_call call) t

  -- the run: each call on the table that the one before it left
  abbrev pub run : List Call → List A → Run A
  run calls t = side.run sender K (as_calls calls) t

  -- every call of a run says a case other than 0, Done
  abbrev pub AllRefused : List Call → List A → Type 0
  AllRefused calls t = side.AllRefused sender K (as_calls calls) t
