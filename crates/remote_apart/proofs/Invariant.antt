-- "No two in use share an SSRC" is kept by every call of the receiver's table, add and remove too, with any table and any buffer; and so is the table's size.
-- Assumes nothing.
use Prim.Native.Nat.{ℕ}
use mathlib.Core.Path.{◌≡◌}
use mathlib.Core.List.{List, [], ◌∷◌}
use lib.ListN.{length}
use Rattle.counters.specs.declared.PauseId.{PauseId}
use Rattle.remote.specs.Record.{start_of}
use Rattle.sides.proofs.Invariant as side
use Rattle.receiver.specs.Calls.{receiver, add_call, remove_call}
use Rattle.receiver.specs.Serve.{remotes}
use Rattle.remote_rows.specs.Rows.{rows}
use Rattle.remote_apart.specs.Apart.{NoTwo}
use Rattle.remote_apart.specs.Calls.{Call, as_call, as_calls, made}
use Rattle.remote_apart.specs.Run.{run}
use Rattle.remote_apart.proofs.Lawful.{receiver_lawful, rows_faithful}

pub call_keeps_no_two : (house : ℕ) (call : Call) (t : List (List ℕ)) → NoTwo rows t → NoTwo rows (made rows house call t).table
call_keeps_no_two house call t = side.call_keeps_no_two (receiver house) (receiver_lawful house) rows rows_faithful (as_call call) t

pub call_keeps_size : (house : ℕ) (call : Call) (t : List (List ℕ)) → length (made rows house call t).table ≡ length t
call_keeps_size house call t = side.call_keeps_size (receiver house) (receiver_lawful house) rows rows_faithful (as_call call) t

pub run_keeps_no_two : (house : ℕ) (calls : List Call) (t : List (List ℕ)) → NoTwo rows t → NoTwo rows (run rows house calls t).table
run_keeps_no_two house calls t = side.run_keeps_no_two (receiver house) (receiver_lawful house) rows rows_faithful (as_calls calls) t

pub remove_keeps_size : (t : List (List ℕ)) (ssrc : ℕ) → length (remove_call rows ssrc t).table ≡ length t
remove_keeps_size = side.remove_keeps_size remotes rows

pub remove_keeps_no_two : (t : List (List ℕ)) → NoTwo rows t → (ssrc : ℕ) → NoTwo rows (remove_call rows ssrc t).table
remove_keeps_no_two t = side.remove_keeps_no_two remotes rows t rows_faithful

pub add_keeps_size : (t : List (List ℕ)) (ssrc : ℕ) (id : PauseId) → length (add_call rows ssrc id t).table ≡ length t
unfolding add_call
add_keeps_size t ssrc id = side.add_keeps_size remotes rows t (0, start_of ssrc id ∷ [])

pub add_keeps_no_two : (t : List (List ℕ)) → NoTwo rows t → (ssrc : ℕ) (id : PauseId) → NoTwo rows (add_call rows ssrc id t).table
unfolding add_call
add_keeps_no_two t no_two ssrc id = side.add_keeps_no_two remotes rows t rows_faithful no_two (0, start_of ssrc id ∷ [])
