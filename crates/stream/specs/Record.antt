-- Document 01, "One stream": what entering a state does to a record, said once each, and the replies.
use Rattle.std.specs.Prelude.{ℕ, Some, None}
use Rattle.counters.specs.Clock.{deadline_of}
use Rattle.counters.specs.Counters.{id_after, seq_after}
use Rattle.counters.specs.declared.PauseId.{PauseId}
use Rattle.stream.specs.declared.State.{State}
use Rattle.stream.specs.declared.State.TheVariants.{Playing, Pausing, Paused, LocalPaused}
use Rattle.stream.specs.declared.Stream.{Stream}
use Rattle.counters.specs.declared.Notice.{Notice}
use Rattle.counters.specs.declared.Notice.TheVariants as notice
use Rattle.stream.specs.declared.Outcome.{Outcome}

-- the record with another state, c and r
abbrev pub moved : Stream → State → PauseId → ℕ → Stream
moved s state c r =
    record { state = state; ssrc = s.ssrc; holdoff = s.holdoff; current = c; next = s.next; used = s.used; repeats = r }

-- "Entering Playing adds 1 to c and sets r to 0."
abbrev pub to_playing : Stream → Stream
to_playing s = moved s Playing (id_after s.current) 0

-- "Only Pausing holds a deadline." c and r stay.
abbrev pub to_pausing : ℕ → Stream → Stream
to_pausing t s = moved s (Pausing (deadline_of t s.holdoff)) s.current s.repeats

-- "Entering Paused or Local paused sets r to 2"
abbrev pub to_paused : Stream → Stream
to_paused s = moved s Paused s.current 2

abbrev pub to_local_paused : Stream → Stream
to_local_paused s = moved s LocalPaused s.current 2

-- one repeat less is left
abbrev pub with_repeats : ℕ → Stream → Stream
with_repeats r s = moved s s.state s.current r

-- "Send gives the next sequence number and advances it"
abbrev pub with_next : Stream → Stream
with_next s =
    record {
      state = s.state;
      ssrc = s.ssrc;
      holdoff = s.holdoff;
      current = s.current;
      next = seq_after s.next;
      used = s.used;
      repeats = s.repeats;
    }

-- the record that follows, with no reply
abbrev pub silent : Stream → Outcome
silent s = record { stream = s; reply = None }

-- "PAUSED and REFUSED replies carry the stream's SSRC as target, and c."
abbrev pub replying : Notice → Stream → Outcome
replying kind s = record { stream = s; reply = Some (record { target = s.ssrc; notice = kind; id = s.current }) }

abbrev pub PAUSED : Stream → Outcome
PAUSED s = replying notice.Paused s

abbrev pub REFUSED : Stream → Outcome
REFUSED s = replying notice.Refused s
