-- Document 02, "One": this request's rules for one stream as the rules of a table's records (`remotes`), and what `serving` and `sides` say of a table with any
-- rules, said of this one.
use Rattle.std.specs.Prelude.{Bool, true, false, List, [], ◌∷◌, ℕ, Option, Some, None}
use Rattle.rtcp.specs.declared.Entry.{Entry}
use Rattle.counters.specs.Counters.{message_of}
use Rattle.remote.specs.Rules.{Event, entry, ask_to_pause, ask_to_resume, report, media_seen, ruled}
use Rattle.remote.specs.declared.Remote.{Remote}
use Rattle.remote.specs.declared.AskEntry.{AskEntry}
use Rattle.serving.specs.Rules.{Rules}
use Rattle.serving.specs.Serve as serving
use Rattle.sides.specs.Entries as entries
use Rattle.receiver.specs.Keeping.{Keeping}

-- ---- the rules

abbrev pub listed : Option AskEntry → List AskEntry
listed None = []
listed (Some e) = e ∷ []

-- An entry of a datagram is not answered by itself.
abbrev pub called : Event → Bool
called (entry m n) = false
called ask_to_pause = true
called ask_to_resume = true
called report = true
called media_seen = true

-- A message has the stream's SSRC as its target: it counts as that stream's.
abbrev pub remotes : Rules Remote Event AskEntry
remotes =
    record {
      used = λ s. s.used;
      ssrc = λ s. s.ssrc;
      ruled = λ e s. record { next = (ruled e s).remote; sent = listed (ruled e s).sent; said = (ruled e s).said };
      called = called;
      from = λ e. e.target;
    }

-- ---- one request

abbrev pub holds : Remote → ℕ → Bool
holds s ssrc = serving.holds remotes s ssrc

module _ {A : Type 0} (K : Keeping A) where
  abbrev pub place : List A → ℕ → ℕ
  place t ssrc = serving.place remotes K t ssrc

  abbrev pub answers : List A → ℕ → Bool
  answers t ssrc = serving.answers remotes K t ssrc

  abbrev pub kept_at : List A → ℕ → A
  kept_at t i = serving.kept_at K t i

abbrev pub Request : Type 0
Request = serving.Request Event

abbrev pub Served : Type 0 → Type 0
Served A = serving.Served A AskEntry

abbrev pub serve : {A : Type 0} → Keeping A → Request → List A → Served A
serve K r t = serving.serve remotes K r t

-- ---- a datagram's entries

-- the event that an entry is; a datagram's time is nothing to it
abbrev pub entered : ℕ → Entry → Event
entered t e = entry (message_of e.kind) e.id

abbrev pub Between : Type 0 → Type 0
Between A = entries.Between A AskEntry

abbrev pub starts : {A : Type 0} → List A → Between A
starts t = entries.starts t

abbrev pub turns : {A : Type 0} → Keeping A → Between A → List Entry → Between A
turns K now es = entries.turns remotes entered K 0 now es
