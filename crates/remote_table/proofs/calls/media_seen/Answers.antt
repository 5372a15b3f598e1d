-- Find, decide; a refusal changes nothing, else store. Assumes nothing.
use Rattle.std.proofs.Common.{Ok, Err}
use Rattle.std.proofs.lemmas.Result.{err_from_is_err_and}
use Rattle.remote_decide.proofs.Called.{sees}
use Rattle.remote_rows.specs.Rows.{rows}
use Rattle.remote_table.proofs.calls.media_seen.Goals as goal

pub returns-in_err-next : goal.returns-in_err-next
returns-in_err-next c =
    let p = err_from_is_err_and c.from_residual.result c.from_residual.ensures.1 in
    rw (p.1, p.2)
    (sees rows _ _ _ c.find-found.ensures.is _ c.holder.ensures (Err _) c.in_err-next.ensures)

pub returns : goal.returns
returns c = rw c.store.ensures (sees rows _ _ _ c.find-found.ensures.is _ c.holder.ensures (Ok _) c.in_ok-next.ensures)
