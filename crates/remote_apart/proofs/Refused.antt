-- A refusal on the receiver's table, Busy too, changes no record and no byte, and so a run of refused calls changes nothing.
-- Assumes nothing.
use Prim.Native.Nat.{ℕ}
use mathlib.Core.Path.{◌≡◌}
use mathlib.Core.List.{List, [], ◌∷◌}
use Rattle.counters.specs.declared.PauseId.{PauseId}
use Rattle.remote.specs.Record.{start_of}
use Rattle.sides.proofs.Refused as side
use Rattle.receiver.specs.Calls.{receiver, add_call, remove_call}
use Rattle.receiver.specs.Serve.{remotes}
use Rattle.remote_rows.specs.Rows.{rows}
use Rattle.remote_apart.specs.Calls.{Call, as_call, as_calls, made, buffer_of}
use Rattle.remote_apart.specs.Run.{run, AllRefused}
use Rattle.remote_apart.proofs.Lawful.{receiver_lawful, rows_faithful}

-- a call that says anything but Done
pub refused_stays : (house : ℕ) (call : Call) (t : List (List ℕ)) → ¬ ((made rows house call t).said.0 ≡ 0)
    → ((made rows house call t).table ≡ t) × ((made rows house call t).buffer ≡ buffer_of call)
refused_stays house call t = side.refused_stays (receiver house) (receiver_lawful house) rows rows_faithful (as_call call) t

pub refused_run : (house : ℕ) (calls : List Call) (t : List (List ℕ)) → AllRefused rows house calls t
    → ((run rows house calls t).table ≡ t) × ((run rows house calls t).replies ≡ [])
refused_run house calls t = side.refused_run (receiver house) (receiver_lawful house) rows rows_faithful (as_calls calls) t

pub refused_remove : (t : List (List ℕ)) (ssrc : ℕ) → ¬ ((remove_call rows ssrc t).said.0 ≡ 0) → (remove_call rows ssrc t).table ≡ t
refused_remove = side.refused_remove remotes rows

pub refused_add : (t : List (List ℕ)) (ssrc : ℕ) (id : PauseId) → ¬ ((add_call rows ssrc id t).said.0 ≡ 0) → (add_call rows ssrc id t).table ≡ t
unfolding add_call
refused_add t ssrc id = side.refused_add remotes rows t (0, start_of ssrc id ∷ [])
