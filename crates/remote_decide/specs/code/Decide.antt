-- What the by-value decisions of src/ give: a refusal, or what is stored and written, from the record that answers for the SSRC, the table's size and the room.
-- proofs/Decided.antt and proofs/Opened.antt tie them to the calls of the crate `receiver`.
use Rattle.std.specs.Prelude.{ℕ, Bool, false, Option, Some, None, Result, Ok, Err, cond, List, nat_lt}
use Rattle.rtcp.specs.declared.Entry.{Entry}
use Rattle.rtcp.specs.declared.Refusal.{Refusal}
use Rattle.counters.specs.Counters.{message_of}
use Rattle.remote.specs.Events.{ask_to_pause_row, ask_to_resume_row, report_row, media_row, received}
use Rattle.remote.specs.Rules.{Event, ask_to_pause, ask_to_resume, pause_id}
use Rattle.remote.specs.code.Passes.{passes}
use Rattle.remote.specs.declared.Ask.{Ask}
use Rattle.remote.specs.declared.Ask.TheVariants as ask
use Rattle.remote.specs.declared.AskEntry.{AskEntry}
use Rattle.remote.specs.declared.Busy.{Busy}
use Rattle.remote.specs.declared.Outcome.{Outcome}
use Rattle.remote.specs.declared.Remote.{Remote}
use Rattle.writer.specs.Writer.{packet_of_one, placed}
use Rattle.sides.specs.code.Places.{inside, storing}
use Rattle.sides.specs.code.Search.{found_in, vacant_in}
use Rattle.sides.specs.declared.ChangeRefusal.{ChangeRefusal}
use Rattle.sides.specs.declared.ChangeRefusal.TheVariants as change
use Rattle.sides.specs.declared.PacketRefusal.{PacketRefusal}
use Rattle.sides.specs.declared.PacketRefusal.TheVariants as packet
use Rattle.receiver.specs.Messages.{packet_of}
use Rattle.receiver.specs.Calls.{wrong_size}
use Rattle.receiver.specs.Keeping.{Keeping}
use Rattle.receiver.specs.Serve.{holds, remotes}
use Rattle.receiver.specs.declared.AddRefusal.{AddRefusal}
use Rattle.receiver.specs.declared.AddRefusal.TheVariants as add
use Rattle.receiver.specs.declared.AskRefusal.{AskRefusal}
use Rattle.receiver.specs.declared.AskRefusal.TheVariants as refuses
use Rattle.receiver.specs.declared.DatagramRefusal.{DatagramRefusal}
use Rattle.receiver.specs.declared.DatagramRefusal.TheVariants as datagram

-- ---- the table

-- the place of the record that answers for an SSRC, if there is one
abbrev pub found : {A : Type 0} → Keeping A → List A → ℕ → Option ℕ
found K t ssrc = found_in K holds t ssrc

-- the place of the first record not in use, if there is one
abbrev pub vacancy : {A : Type 0} → Keeping A → List A → Option ℕ
vacancy K t = vacant_in K remotes.used t

-- the table once a record is stored where a search found one
abbrev pub keeping : {A : Type 0} → Keeping A → List A → Option ℕ → Remote → List A
keeping K t None s = t
keeping K t (Some i) s = storing K t i s

-- a message written: its packet at the buffer's start
abbrev pub message_placed : List ℕ → ℕ → Option AskEntry → List ℕ
message_placed buffer house None = buffer
message_placed buffer house (Some e) = placed buffer 0 (packet_of house e)

-- ---- the local calls

-- the two asks
abbrev pub event_of : Ask → Event
event_of ask.Pause = ask_to_pause
event_of ask.Resume = ask_to_resume

abbrev pub asked_of : Ask → Remote → Result Outcome Busy
asked_of ask.Pause s = ask_to_pause_row s.state s
asked_of ask.Resume s = ask_to_resume_row s.state s

-- Busy "after NoStream and before Room"
abbrev pub asked_with : Result Outcome Busy → ℕ → Result Outcome AskRefusal
asked_with (Err busy) room = Err refuses.Busy
asked_with (Ok o) room = cond (nat_lt room packet_of_one) (Err refuses.Room) (Ok o)

abbrev pub asked_by : Option Remote → Ask → ℕ → Result Outcome AskRefusal
asked_by None a room = Err refuses.NoStream
asked_by (Some s) a room = asked_with (asked_of a s) room

abbrev pub asked : Option Remote → Ask → ℕ → ℕ → Result Outcome AskRefusal
asked h a size room = cond (wrong_size size) (Err refuses.Size) (asked_by h a room)

-- report
abbrev pub reported_by : Option Remote → ℕ → Result Outcome PacketRefusal
reported_by None room = Err packet.NoStream
reported_by (Some s) room = cond (nat_lt room packet_of_one) (Err packet.Room) (Ok (report_row s.state s))

abbrev pub reported : Option Remote → ℕ → ℕ → Result Outcome PacketRefusal
reported h size room = cond (wrong_size size) (Err packet.Size) (reported_by h room)

-- media seen
abbrev pub seen_by : Option Remote → Result Remote ChangeRefusal
seen_by None = Err change.NoStream
seen_by (Some s) = Ok (media_row s.state s).remote

abbrev pub seen : Option Remote → ℕ → Result Remote ChangeRefusal
seen h size = cond (wrong_size size) (Err change.Size) (seen_by h)

-- ---- a datagram

-- before its first event: "Size, 1, then packet by packet 2 to 9"
abbrev pub opened_by : Result ℕ Refusal → Result ℕ DatagramRefusal
opened_by (Err refusal) = Err (datagram.Refused refusal)
opened_by (Ok n) = Ok n

abbrev pub opened : ℕ → Result ℕ Refusal → Result ℕ DatagramRefusal
opened size checked = cond (wrong_size size) (Err datagram.Size) (opened_by checked)

-- one entry; of a stranger's nothing comes
abbrev pub taken : Option Remote → Entry → Option Remote
taken None e = None
taken (Some s) e = Some (received (message_of e.kind) (pause_id e.id) s).remote

-- an entry that does nothing to the record that was found, whatever its state
abbrev pub passes_at : Option ℕ → Entry → Bool
passes_at None e = false
passes_at (Some i) e = passes (message_of e.kind)

-- ---- add, at the place of the record with the SSRC and that of the first not in use

abbrev pub placed_at : Option ℕ → Option ℕ → Remote → Result (ℕ × Remote) AddRefusal
placed_at (Some i) vacant s = Err add.Duplicate
placed_at None (Some j) s = Ok (j, s)
placed_at None None s = Err add.Full

abbrev pub admission : Remote → ℕ → Option ℕ → Option ℕ → Result (ℕ × Remote) AddRefusal
admission s size found vacant = cond (wrong_size size) (Err add.Size) (placed_at (inside size found) (inside size vacant) s)
