-- What a call leaves of the table and the buffer, and what the run of a datagram's entries leaves between two entries, for any way of keeping the records;
-- proofs/Before.antt ties the run to `turns` of the crate `sides`.
use Rattle.std.specs.Prelude.{◌≡◌, ℕ, ◌+◌, ◌*◌, ◌%◌, ◌^◌, ◌≤◌, Option, Some, None, Result, Ok, Err, List, [], length}
use Rattle.writer.specs.Writer.{packet_of_one, placed}
use Rattle.rtcp.specs.declared.Entry.{Entry}
use Rattle.rtcp.specs.declared.cursor.Cursor.{Cursor}
use Rattle.stream.specs.declared.Stream.{Stream}
use Rattle.stream.specs.declared.ReplyEntry.{ReplyEntry}
use Rattle.stream.specs.declared.Outcome.{Outcome}
use Rattle.stream.specs.declared.Sent.{Sent}
use Rattle.stream.specs.declared.Held.{Held}
use Rattle.counters.specs.declared.Seq.{Seq}
use Rattle.sides.specs.Said.{packet_said, change_said}
use Rattle.sides.specs.code.Counted.{Counted}
use Rattle.sides.specs.declared.PacketRefusal.{PacketRefusal}
use Rattle.sides.specs.declared.ChangeRefusal.{ChangeRefusal}
use Rattle.sides.specs.code.Places.{holder_at, storing}
use Rattle.sides.specs.code.Search.{found_in, vacant_in}
use Rattle.sender.specs.Calls.{Came}
use Rattle.sender.specs.Keeping.{Keeping}
use Rattle.sender.specs.Said.{send_said, add_said}
use Rattle.sender.specs.declared.SendRefusal.{SendRefusal}
use Rattle.sender.specs.declared.SendRefusal.TheVariants as send
use Rattle.sender.specs.declared.AddRefusal.{AddRefusal}
use Rattle.sender.specs.Replies.{packet_of, packets_of, over}
use Rattle.sender.specs.Serve.{length_of, holds, streams, Between}
use Rattle.decide.specs.code.Decide.{taken}
use Rattle.decide.specs.declared.datagram.Turning.{Turning}

-- the place of the record that answers for an SSRC, if there is one
abbrev pub found : {A : Type 0} → Keeping A → List A → ℕ → Option ℕ
found K t ssrc = found_in K holds t ssrc

-- the table once a record is stored where a search found one
abbrev pub keeping : {A : Type 0} → Keeping A → List A → Option ℕ → Stream → List A
keeping K t None s = t
keeping K t (Some i) s = storing K t i s

-- the place of the first record not in use, if there is one
abbrev pub vacancy : {A : Type 0} → Keeping A → List A → Option ℕ
vacancy K t = vacant_in K streams.used t

-- the packet of a reply from a place of the buffer on; with no reply, no byte
abbrev pub packet_placed : List ℕ → ℕ → Option ReplyEntry → List ℕ
packet_placed buffer at None = buffer
packet_placed buffer at (Some e) = placed buffer at (packet_of e)

-- what send answers: Held is in what is sent
abbrev pub number_or_held : Result Seq Held → Result Seq SendRefusal
number_or_held (Ok q) = Ok q
number_or_held (Err held) = Err send.Held

module _ {A : Type 0} (K : Keeping A) (t : List A) where
  -- what a call leaves that was decided so: a refusal stores and writes nothing
  abbrev pub reply_left : Option ℕ → List ℕ → Result Outcome PacketRefusal → Came A
  reply_left i buffer (Err refusal) = record { said = packet_said (Err refusal); table = t; buffer = buffer }
  reply_left i buffer (Ok o) = record { said = packet_said (Ok (length_of o.reply)); table = keeping K t i o.stream; buffer = packet_placed buffer 0 o.reply }

  abbrev pub resume_left : Option ℕ → Result Stream ChangeRefusal → Came A
  resume_left i (Err refusal) = record { said = change_said (Err refusal); table = t; buffer = [] }
  resume_left i (Ok s) = record { said = change_said (Ok tt); table = keeping K t i s; buffer = [] }

  abbrev pub send_left : Option ℕ → Result Sent SendRefusal → Came A
  send_left i (Err refusal) = record { said = send_said (Err refusal); table = t; buffer = [] }
  send_left i (Ok sent) = record { said = send_said (number_or_held sent.number); table = keeping K t i sent.stream; buffer = [] }

  abbrev pub add_left : Result (ℕ × Stream) AddRefusal → Came A
  add_left (Err refusal) = record { said = add_said (Err refusal); table = t; buffer = [] }
  add_left (Ok (i, s)) = record { said = add_said (Ok tt); table = storing K t i s; buffer = [] }

-- what stands between two entries: before which entry the run is, the table and the buffer
pub record Left (A : Type 0) : Type 0 where
  pub at : Turning
  pub table : List A
  pub buffer : List ℕ

-- what was decided on an entry, of a stranger's nothing: its reply, the table once its record is stored, and 1 for a stranger
abbrev pub reply_of : Option Outcome → Option ReplyEntry
reply_of None = None
reply_of (Some o) = o.reply

abbrev pub kept_by : {A : Type 0} → Keeping A → List A → Option ℕ → Option Outcome → List A
kept_by K t i None = t
kept_by K t i (Some o) = keeping K t i o.stream

abbrev pub unknown_of : Option Outcome → ℕ
unknown_of None = 1
unknown_of (Some o) = 0

-- before which entry the run is, after one with this reply and so many strangers; the sums wrap at 64 bits, which no run reaches
abbrev pub tallied : Turning → Cursor → Option ReplyEntry → ℕ → Turning
tallied at next reply unknown =
    record {
      cursor = next;
      written = (at.written + length_of reply) % 2 ^ 64;
      unknown = (at.unknown + unknown) % 2 ^ 64;
    }

-- the same, once one was decided on
abbrev pub turning_after : Turning → Cursor → Option Outcome → Turning
turning_after at next decided = tallied at next (reply_of decided) (unknown_of decided)

-- an entry that was decided on: its record is stored, its reply written after those before it
abbrev pub left_by : {A : Type 0} → Keeping A → Left A → Cursor → Option ℕ → Option Outcome → Left A
left_by K now next i decided =
    record {
      at = turning_after now.at next decided;
      table = kept_by K now.table i decided;
      buffer = packet_placed now.buffer now.at.written (reply_of decided);
    }

-- one entry: the record that answers for its target is found, and decides
abbrev pub entered : {A : Type 0} → Keeping A → ℕ → Left A → Entry → Cursor → Left A
entered K t now e next =
    left_by K now next (found K now.table e.target) (taken (holder_at K now.table (found K now.table e.target)) e t)

-- one step of the cursor
abbrev pub turned : {A : Type 0} → Keeping A → ℕ → Left A → Option (Entry × Cursor) → Left A
turned K t now None = now
turned K t now (Some (e, next)) = entered K t now e next

-- the datagram was accepted, with n entries, and the buffer has room for as many replies
pub record Accepted (datagram : List ℕ) (n size : ℕ) : Type 0 where
  pub counted : Counted datagram n
  pub room : packet_of_one * n ≤ size

-- what the whole run leaves: the replies' packets stand at the buffer's start
pub record Through {A : Type 0} (now : Between A) (lent : List ℕ) (at : Turning) (kept : List A) (left : List ℕ) : Type 0 where
  pub written : at.written ≡ length (packets_of now.replies)
  pub unknown : at.unknown ≡ now.unknown
  pub table : kept ≡ now.table
  pub buffer : left ≡ over (packets_of now.replies) lent
