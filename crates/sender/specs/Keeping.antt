-- Document 01, "The table": how a host keeps a stream's record is its own matter: as eight numbers (the crate `rows`), or as the record itself (`records`, below).
use Rattle.std.specs.Prelude.{false}
use Rattle.stream.specs.declared.State.TheVariants.{Playing}
use Rattle.stream.specs.declared.Stream.{Stream}
use Rattle.serving.specs.Keeping.{plainly}
use Rattle.serving.specs.Keeping as serving

abbrev pub Keeping : Type 0 → Type 0
Keeping A = serving.Keeping Stream A

-- the record with "in use" cleared
abbrev pub unused : Stream → Stream
unused s =
    record {
      state = s.state;
      ssrc = s.ssrc;
      holdoff = s.holdoff;
      current = s.current;
      next = s.next;
      used = false;
      repeats = s.repeats;
    }

-- a record that is not in use, with every number 0
abbrev pub blank : Stream
blank =
    record { state = Playing; ssrc = 0; holdoff = 0; current = record { 0 = 0 }; next = record { 0 = 0 }; used = false; repeats = 0 }

-- the records themselves
abbrev pub records : Keeping Stream
records = plainly blank unused
