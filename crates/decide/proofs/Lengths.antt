-- What is stored and written keeps the length of the table and of the buffer.
-- Assumes nothing.
use Rattle.std.proofs.Common.{◌≡◌, ℕ, Option, Some, None, List, length, refl, length-set}
use Rattle.rtcp.specs.declared.Entry.{Entry}
use Rattle.rtcp.specs.declared.cursor.Cursor.{Cursor}
use Rattle.writer.proofs.Placed.{length_placed}
use Rattle.stream.specs.declared.Stream.{Stream}
use Rattle.stream.specs.declared.ReplyEntry.{ReplyEntry}
use Rattle.stream.specs.declared.Outcome.{Outcome}
use Rattle.sides.specs.code.Places.{holder_at}
use Rattle.sender.specs.Keeping.{Keeping}
use Rattle.decide.specs.code.Decide.{taken}
use Rattle.decide.specs.code.Turning.{Left, found, keeping, kept_by, reply_of, packet_placed, turned}

pub reply_keeps : (buffer : List ℕ) (at : ℕ) (r : Option ReplyEntry) → length (packet_placed buffer at r) ≡ length buffer
reply_keeps buffer at None = refl
reply_keeps buffer at (Some e) = length_placed buffer at _

module _ {A : Type 0} (K : Keeping A) where
  pub store_keeps : (t : List A) (i : Option ℕ) (s : Stream) → length (keeping K t i s) ≡ length t
  store_keeps t None s = refl
  store_keeps t (Some i) s = length-set t i _

  kept_keeps : (t : List A) (i : Option ℕ) (decided : Option Outcome) → length (kept_by K t i decided) ≡ length t
  kept_keeps t i None = refl
  kept_keeps t i (Some o) = store_keeps t i o.stream

  pub turn_keeps : (time : ℕ) (now : Left A) (s : Option (Entry × Cursor)) → (length (turned K time now s).table ≡ length now.table) × (length (turned K time now s).buffer ≡ length now.buffer)
  turn_keeps time now None = (refl, refl)
  turn_keeps time now (Some (e, next)) =
      let i : Option ℕ = found K now.table e.target in
      let decided : Option Outcome = taken (holder_at K now.table i) e time in
      (kept_keeps now.table i decided, reply_keeps now.buffer now.at.written (reply_of decided))
