-- Start, find, decide; a refusal changes nothing, else store. Assumes nothing.
use Rattle.std.proofs.Common.{Ok, Err}
use Rattle.std.proofs.lemmas.Result.{err_from_is_err_and}
use Rattle.remote_decide.proofs.Called.{added}
use Rattle.remote_rows.specs.Rows.{rows}
use Rattle.remote_table.proofs.calls.add.Goals as goal

pub returns-in_err-place : goal.returns-in_err-place
returns-in_err-place c =
    let p = err_from_is_err_and c.from_residual.result c.from_residual.ensures.1 in
    rw (p.1, p.2)
    (added rows _ _ _ c.find-found.ensures.is _ _ _ (Err _) c.start.ensures c.find_vacant-vacant.ensures.is c.in_err-place.ensures)

pub returns : goal.returns
returns c = rw c.keep.ensures (added rows _ _ _ c.find-found.ensures.is _ _ _ (Ok (_, _)) c.start.ensures c.find_vacant-vacant.ensures.is c.in_ok-place.ensures)
