-- Demand 3 for the two tables: rows of numbers, which the host lends to the calls of `table`, and records themselves. Proved in `serving` and `sides` for any
-- lawful side and any faithful table.
-- Assumes nothing.
use Prim.Native.Nat.{ℕ, ◌*◌, ◌≤◌, ◌<◌}
use mathlib.Core.Path.{◌≡◌, refl}
use mathlib.Core.Bool.{false}
use mathlib.Core.List.{List, [], ◌∷◌}
use native.Mathlib.Omega.{arith}
use borrow.Author.Tests.{le-ltb}
use lib.Dec.{ltb}
use lib.ListN.{length, get_or}
use Rattle.rtcp.specs.Datagram.{most_entries, entries, reading}
use Rattle.stream.specs.declared.ReplyEntry.{ReplyEntry}
use Rattle.stream.specs.declared.Stream.{Stream}
use Rattle.writer.specs.Writer.{packet_of_one}
use Rattle.sides.specs.Run as sides
use Rattle.sides.proofs.Apart as side
use Rattle.sides.proofs.House as houses
use Rattle.sender.proofs.Room.{enough_room}
use Rattle.sender.specs.Calls.{no_room, sender}
use Rattle.sender.specs.Keeping.{Keeping, records}
use Rattle.sender.specs.Replies.{packet_of, most_reply}
use Rattle.rows.specs.Rows.{rows}
use Rattle.apart.specs.Apart.{Table, AllRoomy, Apart}
use Rattle.apart.specs.Calls.{Call, datagram, local_pause, time, report, local_resume, send, as_call, as_calls, made, Roomy}
use Rattle.apart.specs.History.{history, own}
use Rattle.apart.specs.Order.{one_by_one, Alike}
use Rattle.apart.specs.Run.{run, serving, sent}
use Rattle.apart.specs.Written.{MayReply, length_said, packet_at, reply_read}
use Rattle.apart.proofs.Faithful.{Faithful, records_faithful, rows_faithful}
use Rattle.apart.proofs.Lawful.{sender_lawful}
use Rattle.apart.proofs.Written.{says_length, sent_read_back}

-- ---- buffers of 3,720 bytes are so large that Room never occurs

one_fits : (room : ℕ) → most_reply ≤ room → ltb room packet_of_one ≡ false
one_fits room h = le-ltb room packet_of_one (omega arith)

all_fit : (room : ℕ) → most_reply ≤ room → (n : ℕ) → n ≤ most_entries → no_room n room ≡ false
all_fit room h n few = enough_room n room (omega arith)

call_roomy : (call : Call) → Roomy call → sides.Roomy sender (as_call call)
call_roomy (datagram bytes at buffer) h = all_fit (length buffer) (omega (arith, h))
call_roomy (local_pause x buffer) h = one_fits (length buffer) (omega (arith, h))
call_roomy (time x at buffer) h = one_fits (length buffer) (omega (arith, h))
call_roomy (report x buffer) h = one_fits (length buffer) (omega (arith, h))
call_roomy (local_resume x) h = refl
call_roomy (send x) h = refl

calls_roomy : (calls : List Call) → AllRoomy calls → sides.AllRoomy sender (as_calls calls)
calls_roomy [] h = tt
calls_roomy (call ∷ calls) h = (call_roomy call h.0, calls_roomy calls h.1)

-- ---- any faithful table

module _ {A : Type 0} (K : Keeping A) (F : Faithful K) where
  pub apart : (calls : List Call) (t : List A) → Table K t → AllRoomy calls → Apart K calls t
  apart calls t table roomy =
      side.apart sender sender_lawful K F t table.some table.few table.no_two (as_calls calls) (calls_roomy calls roomy)

  module _ (t : List A) (table : Table K t) where
    -- runs with the same own history for each SSRC: however the requests of several streams are mixed, and whatever datagrams they come in
    pub any_mix : (calls calls' : List Call) → AllRoomy calls → AllRoomy calls'
        → ((ssrc : ℕ) → own ssrc (history calls) ≡ own ssrc (history calls')) → Alike (run K calls t) (run K calls' t)
    any_mix calls calls' roomy roomy' =
        -- the law for two houses, at one: both runs write the same packets
        houses.any_mix sender sender_lawful packet_of K F t table.some table.few table.no_two (as_calls calls) (as_calls calls')
        (calls_roomy calls roomy) (calls_roomy calls' roomy')

    -- one stream after another, in any order of the streams
    pub any_order : (calls : List Call) → AllRoomy calls → (order : List ℕ)
        → Alike (run K calls t) (serving K (one_by_one order (history calls)) t)
    any_order calls roomy =
        side.any_order sender sender_lawful K F t table.some table.few table.no_two (as_calls calls) (calls_roomy calls roomy)

-- ---- rows of numbers

pub rows_apart : (calls : List Call) (t : List (List ℕ)) → Table rows t → AllRoomy calls → Apart rows calls t
rows_apart = apart rows rows_faithful

pub rows_any_mix : (t : List (List ℕ)) → Table rows t → (calls calls' : List Call) → AllRoomy calls → AllRoomy calls'
    → ((ssrc : ℕ) → own ssrc (history calls) ≡ own ssrc (history calls')) → Alike (run rows calls t) (run rows calls' t)
rows_any_mix = any_mix rows rows_faithful

pub rows_any_order : (t : List (List ℕ)) → Table rows t → (calls : List Call) → AllRoomy calls → (order : List ℕ)
    → Alike (run rows calls t) (serving rows (one_by_one order (history calls)) t)
rows_any_order = any_order rows rows_faithful

pub rows_read_back : (call : Call) (t : List (List ℕ)) (k : ℕ) (none : ReplyEntry) → k < length (sent rows call t)
    → reading (packet_at k (made rows call t).buffer) ≡ entries (reply_read (get_or (sent rows call t) k none) ∷ [])
rows_read_back = sent_read_back rows rows_faithful

pub rows_say_length : (t : List (List ℕ)) (call : Call) → MayReply call → (made rows call t).said.0 ≡ 0
    → length_said (made rows call t).said ≡ packet_of_one * length (sent rows call t)
rows_say_length = says_length rows

-- ---- records

pub records_apart : (calls : List Call) (t : List Stream) → Table records t → AllRoomy calls → Apart records calls t
records_apart = apart records records_faithful

pub records_any_mix : (t : List Stream) → Table records t → (calls calls' : List Call) → AllRoomy calls → AllRoomy calls'
    → ((ssrc : ℕ) → own ssrc (history calls) ≡ own ssrc (history calls')) → Alike (run records calls t) (run records calls' t)
records_any_mix = any_mix records records_faithful

pub records_any_order : (t : List Stream) → Table records t → (calls : List Call) → AllRoomy calls → (order : List ℕ)
    → Alike (run records calls t) (serving records (one_by_one order (history calls)) t)
records_any_order = any_order records records_faithful

pub records_read_back : (call : Call) (t : List Stream) (k : ℕ) (none : ReplyEntry) → k < length (sent records call t)
    → reading (packet_at k (made records call t).buffer) ≡ entries (reply_read (get_or (sent records call t) k none) ∷ [])
records_read_back = sent_read_back records records_faithful

pub records_say_length : (t : List Stream) (call : Call) → MayReply call → (made records call t).said.0 ≡ 0
    → length_said (made records call t).said ≡ packet_of_one * length (sent records call t)
records_say_length = says_length records
