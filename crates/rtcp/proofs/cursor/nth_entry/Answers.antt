-- Before the first packet all entries are left, and `nth` gives the one with the number.
use Rattle.std.proofs.Common.{◌≡◌, ◌∙◌, sym, subst}
use Rattle.std.proofs.lemmas.Iterator.Adapters.{option_map_id}
use Rattle.std.proofs.lemmas.Iterator.Consumers.{nth_from_yields_List}
use Rattle.std.proofs.lemmas.Iterator.{YieldsList}
use Rattle.rtcp.specs.code.Cursor.{listed, onward}
use Rattle.rtcp.specs.code.Entries.{Gives}
use Rattle.rtcp.specs.declared.Entry.{Entry}
use Rattle.rtcp.proofs.Steps.{starts, stands_left, all_left}
use Rattle.rtcp.proofs.cursor.nth_entry.Goals as goal

pub invariant_of-entries : goal.invariant_of-entries
invariant_of-entries c = record { ready = rw c.start.ensures ((stands_left (starts c.requires.1)).1) }

pub returns : goal.returns
returns c =
    let all_es : listed (onward c.args.datagram.now c.start.result) ≡ c.requires.0 = rw c.start.ensures ((stands_left (starts c.requires.1)).0) in
    rw c.requires.1
    (sym (option_map_id c.nth.result)
    ∙ nth_from_yields_List c.nth.result c.nth.new.self c.args.k c.nth.ensures.ran (subst (YieldsList Gives (λ (e : Entry). e) _) all_es (all_left _)))
