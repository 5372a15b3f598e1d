-- Before the first entry all are left; each turn runs the first that is left. Assumes nothing.
use Rattle.std.proofs.Common.{◌≡◌, Bool, true, false, not, List, sym, refl, subst, arith}
use mir.Val.{bool_byte}
use Rattle.rtcp.specs.Datagram.{reading}
use Rattle.rtcp.specs.code.Entries.{left}
use Rattle.rtcp.specs.declared.Entry.{Entry}
use Rattle.rtcp.proofs.Steps.{starts, stands_left}
use Rattle.sides.specs.code.Counted.{entries_of}
use Rattle.remote_decide.proofs.Before.{Before, stranger, before_first, before_next, before_fits}
use Rattle.remote_rows.specs.Rows.{rows}
use Rattle.remote_table.proofs.datagram.turns.Goals as goal

counted : (known : Bool) → bool_byte (not known) ≡ stranger known
counted true = refl
counted false = refl

pub invariant_of-entry-items : goal.invariant_of-entry-items
invariant_of-entry-items c = record { ready = rw c.start.ensures ((stands_left (starts c.requires)).1) }

pub loop-entry-init : goal.loop-entry-init
loop-entry-init c =
    let es = entries_of (reading c.args.datagram.now) in
    let all : left c.into_iter-entry-iterator.result ≡ es =
    rw (c.into_iter-entry-iterator.ensures.into_iter_gives, c.start.ensures) ((stands_left (starts c.requires)).0) in
    subst (λ (l : List Entry). Before rows c.args.table.now es l 0 c.args.table.now) (sym all) (before_first rows c.args.table.now es)

pub overflow_add-unknown : goal.overflow_add-unknown
overflow_add-unknown c =
    let fits = before_fits rows _ _ _ _ _ c.in-Some.ensures.steps.first _ _ c.loop-entry.invariant c.enter.result c.args.datagram.now c.requires in
    rw (c.from-unknown.ensures, counted c.enter.result) (omega (arith, fits))

pub loop-entry-preserved : goal.loop-entry-preserved
loop-entry-preserved c =
    rw (c.from-unknown.ensures, counted c.enter.result)
    (before_next rows _ _ _ _ _ c.in-Some.ensures.steps.first _ _ c.loop-entry.invariant c.enter.result _ c.enter.ensures)
