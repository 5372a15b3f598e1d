-- Document 01, "One stream": "PauseID and RTP sequence number are both 16 bits and are counted apart. Both advance modulo 65,536", and the judgement of a
-- received PauseID. The types of an entry are those of "The RTCP datagram".
use Rattle.std.specs.Prelude.{ℕ, zero, suc, ◌+◌, ◌%◌, ◌^◌, Bool, true, false, cond, ℤ, pos, negsuc, ◌==◌}
use Rattle.counters.specs.Width.{less, signed}
use Rattle.counters.specs.declared.PauseId.{PauseId}
use Rattle.counters.specs.declared.Seq.{Seq}
use Rattle.counters.specs.declared.Judgement.{Judgement}
use Rattle.counters.specs.declared.Judgement.TheVariants.{Past, Current, Future}
use Rattle.counters.specs.declared.Message.{Message}
use Rattle.counters.specs.declared.Message.TheVariants as message
use Rattle.counters.specs.declared.Notice.{Notice}
use Rattle.counters.specs.declared.Notice.TheVariants as notice

-- one more, modulo 65,536
abbrev pub advanced : ℕ → ℕ
advanced n = (n + 1) % 2 ^ 16

abbrev pub id_after : PauseId → PauseId
id_after c = record { 0 = advanced c.0 }

abbrev pub seq_after : Seq → Seq
seq_after q = record { 0 = advanced q.0 }

-- "Below 0 is past, 0 is current, above 0 is future."
abbrev pub judgement : ℤ → Judgement
judgement (negsuc n) = Past
judgement (pos zero) = Current
judgement (pos (suc n)) = Future

-- "A received PauseID p is judged by its signed distance from c: p less c, brought into -32,768 to 32,767."
unfoldable pub judged : PauseId → PauseId → Judgement
judged p c = judgement (signed 16 (less 16 p.0 c.0))

-- whether it is past
abbrev pub is_past : Judgement → Bool
is_past Past = true
is_past Current = false
is_past Future = false

-- "Types: 0 PAUSE, 1 RESUME, 2 PAUSED, 3 REFUSED; 4 to 15 are passed over"
abbrev pub message_of : ℕ → Message
message_of kind =
    cond (kind == 0) message.Pause
    (cond (kind == 1) message.Resume
    (cond (kind == 2) message.Paused
    (cond (kind == 3) message.Refused message.Reserved)))

abbrev pub type_of : Notice → ℕ
type_of notice.Paused = 2
type_of notice.Refused = 3
