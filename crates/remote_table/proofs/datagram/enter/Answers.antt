-- An entry that does nothing is gone past, any other is found, decided on and stored. Assumes nothing.
use Rattle.std.proofs.Common.{Some, None, sym, ◌∙◌}
use Rattle.sides.proofs.Rows.{same_stored}
use Rattle.remote_decide.proofs.Before.{entered_by}
use Rattle.remote_decide.proofs.Passed.{passed_by}
use Rattle.remote_rows.specs.Rows.{numbers, read_row, row_of, rows}
use Rattle.remote_table.proofs.datagram.enter.Goals as goal

pub returns-then-passes_at : goal.returns-then-passes_at
returns-then-passes_at c =
    passed_by rows (same_stored numbers read_row row_of) _ _ _ c.find-found.ensures.is (sym c.passes_at.ensures ∙ c.if-passes_at.true)

pub returns-in-Some : goal.returns-in-Some
returns-in-Some c = rw c.store.ensures (entered_by rows _ _ _ c.find-found.ensures.is _ c.holder.ensures (Some _) c.in-Some.ensures)

pub returns-in-None : goal.returns-in-None
returns-in-None c = entered_by rows _ _ _ c.find-found.ensures.is _ c.holder.ensures None c.in-None.ensures
