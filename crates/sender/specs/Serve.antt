-- Document 01, "One stream" and "The table": the one-stream rules as the rules of a table's records (`streams`), and what `serving` and `sides` say of a table
-- with any rules, said of this one.
use Rattle.std.specs.Prelude.{Bool, true, false, List, [], ◌∷◌, ℕ, Option, Some, None}
use Rattle.rtcp.specs.declared.Entry.{Entry}
use Rattle.counters.specs.Counters.{message_of}
use Rattle.stream.specs.Rules.{Event, entry, time, local_pause, local_resume, report, send, Ruled, ruled}
use Rattle.stream.specs.declared.Stream.{Stream}
use Rattle.stream.specs.declared.ReplyEntry.{ReplyEntry}
use Rattle.serving.specs.Rules.{Rules}
use Rattle.serving.specs.Serve as serving
use Rattle.sides.specs.Entries as entries
use Rattle.sender.specs.Keeping.{Keeping}
pub use Rattle.serving.specs.Serve.{first}

-- ---- the rules

abbrev pub listed : Option ReplyEntry → List ReplyEntry
listed None = []
listed (Some e) = e ∷ []

-- "write one 20-byte packet or nothing, and answer with the length, 20 or 0"
abbrev pub length_of : Option ReplyEntry → ℕ
length_of None = 0
length_of (Some e) = 20

-- What a local call answers, case and values: local pause, time and report the reply's length, send what the rules give, local resume nothing more.
-- An entry of a datagram is not answered by itself.
abbrev pub said_of : Event → Ruled → ℕ × List ℕ
said_of (entry m p t) r = (0, [])
said_of (time t) r = (0, length_of r.reply ∷ [])
said_of local_pause r = (0, length_of r.reply ∷ [])
said_of local_resume r = (0, [])
said_of report r = (0, length_of r.reply ∷ [])
said_of send r = r.said

abbrev pub called : Event → Bool
called (entry m p t) = false
called (time t) = true
called local_pause = true
called local_resume = true
called report = true
called send = true

-- The one-stream rules. "PAUSED and REFUSED replies carry the stream's SSRC as target", so a reply is from the stream that is its target.
abbrev pub streams : Rules Stream Event ReplyEntry
streams =
    record {
      used = λ s. s.used;
      ssrc = λ s. s.ssrc;
      ruled = λ e s. record { next = (ruled e s).stream; sent = listed (ruled e s).reply; said = said_of e (ruled e s) };
      called = called;
      from = λ e. e.target;
    }

-- ---- one request

abbrev pub holds : Stream → ℕ → Bool
holds s ssrc = serving.holds streams s ssrc

module _ {A : Type 0} (K : Keeping A) where
  abbrev pub place : List A → ℕ → ℕ
  place t ssrc = serving.place streams K t ssrc

  abbrev pub answers : List A → ℕ → Bool
  answers t ssrc = serving.answers streams K t ssrc

  abbrev pub kept_at : List A → ℕ → A
  kept_at t i = serving.kept_at K t i

abbrev pub Request : Type 0
Request = serving.Request Event

abbrev pub Served : Type 0 → Type 0
Served A = serving.Served A ReplyEntry

abbrev pub served_at : {A : Type 0} → Keeping A → Event → List A → ℕ → Served A
served_at K e t i = serving.served_at streams K e t i

abbrev pub unserved : {A : Type 0} → List A → Served A
unserved t = serving.unserved t

abbrev pub serve : {A : Type 0} → Keeping A → Request → List A → Served A
serve K r t = serving.serve streams K r t

-- ---- a datagram's entries

-- the event that an entry is, at its datagram's time
abbrev pub entered : ℕ → Entry → Event
entered t e = entry (message_of e.kind) (record { 0 = e.id }) t

abbrev pub request_of : ℕ → Entry → Request
request_of t e = entries.request_of entered t e

abbrev pub Between : Type 0 → Type 0
Between A = entries.Between A ReplyEntry

abbrev pub starts : {A : Type 0} → List A → Between A
starts t = entries.starts t

abbrev pub turn : {A : Type 0} → Keeping A → ℕ → Between A → Entry → Between A
turn K t now e = entries.turn streams entered K t now e

abbrev pub turns : {A : Type 0} → Keeping A → ℕ → Between A → List Entry → Between A
turns K t now es = entries.turns streams entered K t now es
