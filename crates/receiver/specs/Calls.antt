-- Document 02, "One", on document 01's "The table" and "What can come back": the receiver's side (`receiver`), and each call of its table, which `sides` defines
-- over any side.
use Rattle.std.specs.Prelude.{Bool, false, List, [], ◌∷◌, ℕ, ltb}
use Rattle.counters.specs.declared.PauseId.{PauseId}
use Rattle.remote.specs.Record.{start_of}
use Rattle.remote.specs.Rules.{Event, entry, ask_to_pause, ask_to_resume, report, media_seen}
use Rattle.remote.specs.declared.Remote.{Remote}
use Rattle.remote.specs.declared.AskEntry.{AskEntry}
use Rattle.writer.specs.Writer.{packet_of_one}
use Rattle.sides.specs.Calls.{Side}
use Rattle.sides.specs.Calls as side
use Rattle.receiver.specs.Keeping.{Keeping}
use Rattle.receiver.specs.Messages.{packet_of}
use Rattle.receiver.specs.Serve.{remotes, entered}
pub use Rattle.sides.specs.Calls.{Came, most_records, wrong_size, refusal, stored}
unfoldable pub use Rattle.sides.specs.Calls.{refuse_if}

-- ---- the side

-- "Room (under 20 bytes, for asks and reports)"
abbrev pub short : Event → ℕ → Bool
short (entry m n) room = false
short ask_to_pause room = ltb room packet_of_one
short ask_to_resume room = ltb room packet_of_one
short report room = ltb room packet_of_one
short media_seen room = false

-- "no reply is written, so no Room"; Done has n and u.
abbrev pub receiver : ℕ → Side Remote Event AskEntry
receiver house =
    record {
      rules = remotes;
      entered = entered;
      packet = packet_of house;
      no_room = λ n room. false;
      short = short;
      counts = λ length n u. n ∷ u ∷ [];
    }

-- ---- the calls

module _ {A : Type 0} (K : Keeping A) where
  -- A datagram: it is lent no buffer, writes nothing from any house, and its time is nothing to it.
  abbrev pub datagram_call : List ℕ → List A → Came A
  datagram_call datagram t = side.datagram_call (receiver 0) K datagram 0 t []

  -- ask to pause, ask to resume and report
  abbrev pub ask_call : Event → ℕ → List A → List ℕ → ℕ → Came A
  ask_call event ssrc t buffer house = side.local_call (receiver house) K event ssrc t buffer

  -- media seen, which is lent no buffer and writes nothing from any house
  abbrev pub media_call : ℕ → List A → Came A
  media_call ssrc t = side.local_call (receiver 0) K media_seen ssrc t []

  abbrev pub vacant : List A → ℕ
  vacant t = side.vacant remotes K t

  -- Add has no limit to pass: Size, Duplicate, Full. Shut, so that what it is called with can be read off.
  unfoldable pub add_call : ℕ → PauseId → List A → Came A
  add_call ssrc id t = side.add_call remotes K (0, start_of ssrc id ∷ []) t

  abbrev pub remove_call : ℕ → List A → Came A
  remove_call ssrc t = side.remove_call remotes K ssrc t
