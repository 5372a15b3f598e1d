-- Find, decide; a refusal changes nothing, else store and write. Assumes nothing.
use Rattle.std.proofs.Common.{Ok, Err}
use Rattle.std.proofs.lemmas.Result.{err_from_is_err_and}
use Rattle.remote_decide.proofs.Called.{reports}
use Rattle.remote_rows.specs.Rows.{rows}
use Rattle.remote_table.proofs.calls.report.Goals as goal

pub returns-in_err-outcome : goal.returns-in_err-outcome
returns-in_err-outcome c =
    let p = err_from_is_err_and c.from_residual.result c.from_residual.ensures.1 in
    rw (p.1, p.2)
    (reports rows _ _ _ c.find-found.ensures.is _ c.holder-reporter.ensures _ _ (Err _) c.in_err-outcome.ensures)

pub returns : goal.returns
returns c =
    rw (c.length.ensures, c.store.ensures, c.put_message.ensures)
    (reports rows _ _ _ c.find-found.ensures.is _ c.holder-reporter.ensures _ _ (Ok _) c.in_ok-outcome.ensures)
