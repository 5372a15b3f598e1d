-- An entry that does nothing to the record it is for, whatever the record's state.
use Rattle.std.specs.Prelude.{Bool, false, Option, Some, None, List, ℕ}
use Rattle.rtcp.specs.declared.Entry.{Entry}
use Rattle.counters.specs.Counters.{judged, message_of}
use Rattle.stream.specs.code.Passes.{passes}
use Rattle.stream.specs.declared.Stream.{Stream}
use Rattle.sides.specs.code.Places.{holder_at}
use Rattle.sender.specs.Keeping.{Keeping}

abbrev pub passed_over : Option Stream → Entry → Bool
passed_over None e = false
passed_over (Some s) e = passes (message_of e.kind) (judged (record { 0 = e.id }) s.current)

abbrev pub passes_at : {A : Type 0} → Keeping A → List A → Option ℕ → Entry → Bool
passes_at K t i e = passed_over (holder_at K t i) e
