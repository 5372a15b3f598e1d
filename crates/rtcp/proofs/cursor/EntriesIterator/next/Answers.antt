-- A step gives the first of what is left, and leaves the others.
use Rattle.std.proofs.Common.{refl, sym, ap, length, arith}
use Rattle.rtcp.proofs.Steps.{left_none, left_some}
use Rattle.rtcp.proofs.cursor.EntriesIterator.next.Goals as goal

pub returns-in_err-entry-clause-steps : goal.returns-in_err-entry-clause-steps
returns-in_err-entry-clause-steps c =
    let none = left_none c.args.self.now (sym c.in_err-entry.ensures) in
    rw c.from_residual.ensures (record { first = (none, none); datagram = refl; step = rw (← c.in_err-entry.ensures) })

pub invariant_of-self : goal.invariant_of-self
invariant_of-self c = record { ready = (left_some c.args.self.now (sym c.in_ok-entry.ensures)).1 }

pub returns-clause-steps : goal.returns-clause-steps
returns-clause-steps c =
    record { first = (left_some c.args.self.now (sym c.in_ok-entry.ensures)).0; datagram = refl; step = rw (← c.in_ok-entry.ensures) }

pub returns-clause-goes : goal.returns-clause-goes
returns-clause-goes c =
    let some = left_some c.args.self.now (sym c.in_ok-entry.ensures) in
    record { on = λ _. (tt, tt, omega (arith, ap length some.0)); keeps = tt; rests = λ _. tt }
