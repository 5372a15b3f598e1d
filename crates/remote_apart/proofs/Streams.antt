-- Demand 3 for the receiver's table, by this request's rules: rows of numbers, which the host lends to the calls of `remote_table`. Proved in `serving` and `sides`
-- for any lawful side and any faithful table.
-- Assumes nothing.
use Prim.Native.Nat.{ℕ}
use mathlib.Core.Path.{◌≡◌, refl}
use mathlib.Core.List.{List, [], ◌∷◌}
use borrow.Author.Tests.{le-ltb}
use lib.ListN.{length}
use Rattle.writer.specs.Writer.{packet_of_one}
use Rattle.sides.specs.Run as sides
use Rattle.sides.proofs.Apart as side
use Rattle.sides.proofs.House as houses
use Rattle.receiver.specs.Calls.{receiver}
use Rattle.receiver.specs.Messages.{packet_of}
use Rattle.remote_rows.specs.Rows.{rows}
use Rattle.remote_apart.specs.Apart.{Table, AllRoomy, Apart}
use Rattle.remote_apart.specs.Calls.{Call, datagram, ask_to_pause, ask_to_resume, report, media_seen, as_call, as_calls, Roomy}
use Rattle.remote_apart.specs.Run.{history, own, one_by_one, Alike, run, serving}
use Rattle.remote_apart.proofs.Lawful.{receiver_lawful, rows_faithful}

-- buffers of 20 bytes are so large that Room never occurs
call_roomy : (house : ℕ) (call : Call) → Roomy call → sides.Roomy (receiver house) (as_call call)
call_roomy house (datagram bytes) h = λ n few. refl
call_roomy house (ask_to_pause x buffer) h = le-ltb (length buffer) packet_of_one h
call_roomy house (ask_to_resume x buffer) h = le-ltb (length buffer) packet_of_one h
call_roomy house (report x buffer) h = le-ltb (length buffer) packet_of_one h
call_roomy house (media_seen x) h = refl

calls_roomy : (house : ℕ) (calls : List Call) → AllRoomy calls → sides.AllRoomy (receiver house) (as_calls calls)
calls_roomy house [] h = tt
calls_roomy house (call ∷ calls) h = (call_roomy house call h.0, calls_roomy house calls h.1)

pub rows_apart : (house : ℕ) (calls : List Call) (t : List (List ℕ)) → Table rows t → AllRoomy calls → Apart rows house calls t
rows_apart house calls t table roomy =
    side.apart (receiver house) (receiver_lawful house) rows rows_faithful t table.some table.few table.no_two (as_calls calls) (calls_roomy house calls roomy)

-- runs with the same own history for each SSRC: however the requests of several streams are mixed, and whatever datagrams they come in
pub rows_any_mix : (t : List (List ℕ)) → Table rows t → (house house' : ℕ) (calls calls' : List Call) → AllRoomy calls → AllRoomy calls'
    → ((ssrc : ℕ) → own ssrc (history calls) ≡ own ssrc (history calls')) → Alike (run rows house calls t) (run rows house' calls' t)
rows_any_mix t table house house' calls calls' roomy roomy' =
    houses.any_mix (receiver house) (receiver_lawful house) (packet_of house') rows rows_faithful t table.some table.few table.no_two
    (as_calls calls) (as_calls calls') (calls_roomy house calls roomy) (calls_roomy house' calls' roomy')

-- one stream after another, in any order of the streams
pub rows_any_order : (t : List (List ℕ)) → Table rows t → (house : ℕ) (calls : List Call) → AllRoomy calls → (order : List ℕ)
    → Alike (run rows house calls t) (serving rows (one_by_one order (history calls)) t)
rows_any_order t table house calls roomy =
    side.any_order (receiver house) (receiver_lawful house) rows rows_faithful t table.some table.few table.no_two (as_calls calls) (calls_roomy house calls roomy)
