-- One decision, two tables: a call on any faithful table, read as records, is the same call on the table of those records; and so for a run.
-- Assumes nothing.
use mathlib.Core.Path.{◌≡◌}
use mathlib.Core.List.{List}
use Rattle.sides.proofs.Seen.{seen, came_seen, run_seen}
use Rattle.sides.proofs.Seen as side
use Rattle.sender.specs.Calls.{sender}
use Rattle.sender.specs.Keeping.{Keeping, unused, blank, records}
use Rattle.apart.specs.Calls.{Call, as_call, as_calls, made}
use Rattle.apart.specs.Run.{run}
use Rattle.apart.proofs.Faithful.{Faithful}

module _ {A : Type 0} (K : Keeping A) (F : Faithful K) where
  pub call_seen : (call : Call) (t : List A) → made records call (seen K t) ≡ came_seen K (made K call t)
  call_seen call t = side.call_seen sender K F blank unused (as_call call) t

  pub run_seen_lem : (calls : List Call) (t : List A) → run records calls (seen K t) ≡ run_seen K (run K calls t)
  run_seen_lem calls t = side.run_seen_lem sender K F blank unused (as_calls calls) t
