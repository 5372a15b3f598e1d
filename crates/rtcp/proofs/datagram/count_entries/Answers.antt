-- The entries that were passed before the loop, with those from there on, are the packet's; an entry that was passed is counted,
-- and the next starts past it.
use Rattle.std.proofs.Common.{◌≡◌, ℕ, List, sym, ◌∙◌, arith}
use Rattle.rtcp.specs.Datagram.{entries_from, counted}
use Rattle.rtcp.specs.code.Equations.{ends_at}
use Rattle.rtcp.specs.code.Plain.{PassesPlain}
use Rattle.rtcp.specs.declared.datagram.Passed.{Passed}
use Rattle.rtcp.proofs.Count.{counted_from, entries_counted, entry_lacks, entry_counts}
use Rattle.rtcp.proofs.Plain.{plain_counts}
use Rattle.rtcp.proofs.datagram.count_entries.Goals as goal

before : (d : List ℕ) (sender from end : ℕ) (p : Passed) → PassesPlain d from end p
    → counted_from p.entries (entries_from d sender end p.place) ≡ counted (entries_from d sender end from)
before d sender from end p passed = rw passed.place (plain_counts d sender from end p.entries passed.plain)

pub returns-in_default : goal.returns-in_default
returns-in_default c =
    let a = c.args in
    c.refused.ensures
    ∙ sym (entry_lacks a.datagram.now a.cursor.sender a.cursor.end c.loop-place.place c.loop-place.n c.loop-place-test.true (sym c.in_default.ensures))
    ∙ c.loop-place.invariant.1 a.cursor.sender
    ∙ before a.datagram.now a.cursor.sender a.cursor.place a.cursor.end _ c.pass_plain-passed.ensures

pub loop-place-smaller : goal.loop-place-smaller
loop-place-smaller c = omega (arith, ends_at c.args.datagram.now c.args.cursor.end c.loop-place.place _ (sym c.in-Some.ensures))

pub loop-place-preserved : goal.loop-place-preserved
loop-place-preserved c =
    let a = c.args in (
      omega (arith, ends_at a.datagram.now a.cursor.end c.loop-place.place _ (sym c.in-Some.ensures)),
      λ sender. sym (entry_counts a.datagram.now sender a.cursor.end c.loop-place.place c.loop-place.n _ c.loop-place-test.true (sym c.in-Some.ensures)) ∙ c.loop-place.invariant.1 sender,
    )

pub returns : goal.returns
returns c =
    let a = c.args in
    sym (entries_counted a.datagram.now a.cursor.sender a.cursor.end c.loop-place.place c.loop-place.n c.loop-place-test.false)
    ∙ c.loop-place.invariant.1 a.cursor.sender
    ∙ before a.datagram.now a.cursor.sender a.cursor.place a.cursor.end _ c.pass_plain-passed.ensures
