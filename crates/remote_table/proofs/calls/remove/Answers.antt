-- Find, decide; a refusal changes nothing, else clear. Assumes nothing.
use Rattle.std.proofs.Common.{Ok, Err}
use Rattle.std.proofs.lemmas.Result.{err_from_is_err_and}
use Rattle.sides.proofs.Removed.{removed}
use Rattle.receiver.specs.Serve.{remotes}
use Rattle.remote_rows.specs.Rows.{rows}
use Rattle.remote_table.proofs.calls.remove.Goals as goal

pub returns-in_err-place : goal.returns-in_err-place
returns-in_err-place c =
    let p = err_from_is_err_and c.from_residual.result c.from_residual.ensures.1 in
    rw (p.1, p.2)
    (removed remotes rows _ _ (Err _) (rw c.find-found.ensures.is at c.in_err-place.ensures))

pub returns : goal.returns
returns c = rw c.clear.ensures (removed remotes rows _ _ (Ok _) (rw c.find-found.ensures.is at c.in_ok-place.ensures))
