-- Document 01, "The table" and "What can come back", with document 02's "Two": the sender's side (`sender`), and each call of its table, which `sides` defines
-- over any side.
use Rattle.std.specs.Prelude.{Bool, false, ◌&&◌, List, [], ◌∷◌, ℕ, ◌*◌, ltb}
use Rattle.rtcp.specs.Datagram.{Reading}
use Rattle.stream.specs.Rules.{Event, entry, time, local_pause, local_resume, report, send}
use Rattle.stream.specs.Start.{starting}
use Rattle.counters.specs.declared.PauseId.{PauseId}
use Rattle.counters.specs.declared.Seq.{Seq}
use Rattle.stream.specs.declared.Stream.{Stream}
use Rattle.stream.specs.declared.ReplyEntry.{ReplyEntry}
use Rattle.writer.specs.Writer.{packet_of_one}
use Rattle.sides.specs.Calls.{Side}
use Rattle.sides.specs.Calls as side
use Rattle.sender.specs.Keeping.{Keeping}
use Rattle.sender.specs.Replies.{packet_of}
use Rattle.sender.specs.Serve.{streams, entered, Served, Between}
pub use Rattle.sides.specs.Calls.{Came, most_records, wrong_size, refusal, stored}
unfoldable pub use Rattle.sides.specs.Calls.{refuse_if}

-- ---- the side

-- case 10, Room: "for a datagram when n > 0 and the buffer is under 20n"
abbrev pub no_room : ℕ → ℕ → Bool
no_room n room = ltb 0 n && ltb room (packet_of_one * n)

-- case 10, Room: "local pause, time, report …: under 20, reply or none"
abbrev pub short : Event → ℕ → Bool
short (entry m p t) room = false
short (time t) room = ltb room packet_of_one
short local_pause room = ltb room packet_of_one
short local_resume room = false
short report room = ltb room packet_of_one
short send room = false

-- "The answer has the reply length, n (entries of every type, at most 186) and u".
abbrev pub sender : Side Stream Event ReplyEntry
sender =
    record {
      rules = streams;
      entered = entered;
      packet = packet_of;
      no_room = no_room;
      short = short;
      counts = λ length n u. length ∷ n ∷ u ∷ [];
    }

-- ---- the calls

abbrev pub finished : {A : Type 0} → Between A → ℕ → List ℕ → Came A
finished now n buffer = side.finished sender now n buffer

abbrev pub spoken : {A : Type 0} → Served A → List ℕ → Came A
spoken served buffer = side.spoken sender served buffer

module _ {A : Type 0} (K : Keeping A) where
  abbrev pub after_reading : Reading → ℕ → List A → List ℕ → Came A
  after_reading r at t buffer = side.after_reading sender K r at t buffer

  abbrev pub datagram_call : List ℕ → ℕ → List A → List ℕ → Came A
  datagram_call datagram at t buffer = side.datagram_call sender K datagram at t buffer

  -- local pause, time and report
  abbrev pub reply_call : Event → ℕ → List A → List ℕ → Came A
  reply_call event ssrc t buffer = side.local_call sender K event ssrc t buffer

  -- Local resume and send, which are lent no buffer and reply nothing; Held is what the rules of send say.
  abbrev pub quiet_call : Event → ℕ → List A → Came A
  quiet_call event ssrc t = side.local_call sender K event ssrc t []

  abbrev pub vacant : List A → ℕ
  vacant t = side.vacant streams K t

  abbrev pub after_start : ℕ → List Stream → List A → Came A
  after_start case came t = side.after_start streams K case came t

  -- Shut, so that what it is called with can be read off: what a new stream comes back with computes.
  unfoldable pub add_call : ℕ → PauseId → Seq → ℕ → ℕ → Bool → List A → Came A
  add_call ssrc c q rtt dither nowait t = side.add_call streams K (starting ssrc c q rtt dither nowait) t

  abbrev pub remove_call : ℕ → List A → Came A
  remove_call ssrc t = side.remove_call streams K ssrc t
