-- The datagram opens; a refused one changes nothing, and of an accepted one all entries run. Assumes nothing.
use Rattle.std.proofs.Common.{Ok, Err}
use Rattle.std.proofs.lemmas.Result.{err_from_is_err_and}
use Rattle.remote_decide.proofs.Opened.{datagram_by}
use Rattle.remote_rows.specs.Rows.{rows}
use Rattle.remote_table.proofs.calls.datagram.Goals as goal

pub returns-in_err-entries : goal.returns-in_err-entries
returns-in_err-entries c =
    let p = err_from_is_err_and c.from_residual.result c.from_residual.ensures.1 in
    rw (p.1, p.2)
    (datagram_by rows _ _ (Err _) c.in_err-entries.ensures)

pub returns : goal.returns
returns c = (datagram_by rows _ _ (Ok _) c.in_ok-entries.ensures).1 _ _ c.turns-unknown.ensures
