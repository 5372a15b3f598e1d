-- Document 02, "One": messages as bytes. Which calls may send one, what it says, and what a reader finds in its bytes.
use Rattle.std.specs.Prelude.{◌≡◌, List, ℕ}
use Rattle.rtcp.specs.declared.Entry.{Entry}
use Rattle.writer.specs.Writer.{entry_read}
use Rattle.remote.specs.Record.{type_of}
use Rattle.remote.specs.declared.Ask.{Ask}
use Rattle.remote.specs.declared.Ask.TheVariants as ask
use Rattle.remote.specs.declared.AskEntry.{AskEntry}
use Rattle.remote.specs.declared.State.{State}
use Rattle.remote.specs.declared.State.TheVariants.{Receiving, AskedToPause, Paused, AskedToResume}
use Rattle.remote.specs.declared.Remote.{Remote}
use Rattle.serving.specs.Apart.{record_at}
use Rattle.receiver.specs.Keeping.{Keeping}
use Rattle.receiver.specs.Serve.{place}
use Rattle.remote_apart.specs.Calls.{Call, datagram, ask_to_pause, ask_to_resume, report, media_seen}

-- "for asks and reports"; "no reply is written" for a datagram
abbrev pub MaySend : Call → Type 0
MaySend (datagram bytes) = ⊥
MaySend (ask_to_pause ssrc buffer) = Unit
MaySend (ask_to_resume ssrc buffer) = Unit
MaySend (report ssrc buffer) = Unit
MaySend (media_seen ssrc) = ⊥

-- what a report repeats: the ask that runs
abbrev pub Repeats : State → Ask → Type 0
Repeats Receiving a = ⊥
Repeats (AskedToPause left) a = a ≡ ask.Pause
Repeats Paused a = ⊥
Repeats (AskedToResume left) a = a ≡ ask.Resume

module _ {A : Type 0} (K : Keeping A) (t : List A) where
  -- the record that answers for an SSRC
  abbrev pub record_of : ℕ → Remote
  record_of ssrc = record_at K t (place K t ssrc)

  -- a message about a stream has it as its target, and the ID that is believed of it
  pub record Of (ssrc : ℕ) (e : AskEntry) : Type 0 where
    pub target : e.target ≡ ssrc
    pub id : e.id ≡ (record_of ssrc).id

  -- "An ask sends PAUSE … or RESUME … with that ID; four reports repeat it, with the ID believed at that report"
  abbrev pub About : Call → AskEntry → Type 0
  About (datagram bytes) e = ⊥
  About (ask_to_pause ssrc buffer) e = Of ssrc e × (e.ask ≡ ask.Pause)
  About (ask_to_resume ssrc buffer) e = Of ssrc e × (e.ask ≡ ask.Resume)
  About (report ssrc buffer) e = Of ssrc e × Repeats (record_of ssrc).state e.ask
  About (media_seen ssrc) e = ⊥

-- a message as it is read: from the house SSRC, for its stream, type 0 PAUSE or 1 RESUME, with the ID and no parameters, after the packet's header and its two
-- SSRCs
abbrev pub message_read : ℕ → AskEntry → Entry
message_read house e = entry_read house e.target (type_of e.ask) e.id.0
