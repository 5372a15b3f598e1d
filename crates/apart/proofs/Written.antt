-- Replies as bytes are replies as entries: the packets in a call's reply buffer hold the entries that the call sent, and reading packet k gives back entry k.
-- Assumes nothing.
use Prim.Native.Nat.{ℕ, ◌+◌, ◌*◌, ◌<◌}
use mathlib.Core.Path.{◌≡◌, refl, sym, ap, ◌∙◌}
use mathlib.Core.Bool.{cond}
use mathlib.Core.List.{List, [], ◌∷◌, ◌++◌}
use native.Mathlib.Omega.{arith}
use borrow.Author.Tests.{eq-eqb}
use lib.ListN.{length, get_or, drop}
use lib.Seq.{slice}
use Rattle.rtcp.specs.Datagram.{Reading, refused, entries, reading}
use Rattle.writer.specs.Writer.{packet_of_one}
use Rattle.writer.proofs.Back.{read_back}
use Rattle.counters.specs.Counters.{type_of}
use Rattle.counters.specs.declared.Notice.{Notice}
use Rattle.counters.specs.declared.Notice.TheVariants as notice
use Rattle.stream.specs.Rules.{ruled}
use Rattle.stream.specs.Rules
use Rattle.stream.specs.declared.ReplyEntry.{ReplyEntry}
use Rattle.sides.specs.Calls as sides
use Rattle.sides.specs.Run.{entries_carried}
use Rattle.sides.proofs.Called.{turns_replies}
use Rattle.sides.proofs.Chain.{refuse_cases}
use Rattle.sides.proofs.Outcome.{fault_refuses}
use Rattle.sides.proofs.Packets.{packets_long, packet_at_lem}
use Rattle.sides.proofs.Refused as refusals
use Rattle.sides.proofs.Written as side
use Rattle.sender.proofs.Replies.{length_told}
use Rattle.sender.specs.Calls.{Came, wrong_size, no_room, after_reading, datagram_call, sender}
use Rattle.sender.specs.Keeping.{Keeping}
use Rattle.sender.specs.Replies.{packet_of, packets_of, over}
use Rattle.sender.specs.Serve.{starts, entered, streams}
use Rattle.apart.specs.Calls.{Call, datagram, local_pause, time, report, local_resume, send, as_call, made, buffer_of}
use Rattle.apart.specs.Run.{serving, sent}
use Rattle.apart.specs.Written.{MayReply, length_said, packet_from, packet_at, reply_read}
use Rattle.apart.proofs.Faithful.{Faithful}
use Rattle.apart.proofs.Lawful.{sender_lawful}

-- ---- what is written

module _ {A : Type 0} (K : Keeping A) (F : Faithful K) (t : List A) where
  -- the reply buffer after any call: the packets of what it sent, over the buffer as it was lent
  pub written : (call : Call) → (made K call t).buffer ≡ over (packets_of (sent K call t)) (buffer_of call)
  written call = refusals.written sender sender_lawful K F (as_call call) t

-- ---- the length that is said

one_long : (e : ReplyEntry) → length (packet_of e) ≡ packet_of_one
one_long e = refl

module _ {A : Type 0} (K : Keeping A) (t : List A) where
  datagram_long : (bytes : List ℕ) (at : ℕ) (buffer : List ℕ) → (datagram_call K bytes at t buffer).said.0 ≡ 0
      → length_said (datagram_call K bytes at t buffer).said ≡ length (packets_of (serving K (entries_carried entered at (reading bytes)) t).replies)
  unfolding sides.datagram_call
  datagram_long bytes at buffer =
      refuse_cases (wrong_size (length t)) 11 t buffer _ (Long (reading bytes)) (λ done. absurd (omega arith)) (λ sized. go (reading bytes))
    where
      Long : Reading → Came A → Type 0
      Long r came = came.said.0 ≡ 0 → length_said came.said ≡ length (packets_of (serving K (entries_carried entered at r) t).replies)

      go : (r : Reading) → Long r (after_reading K r at t buffer)
      go (refused f p) = λ done. absurd (fault_refuses f done)
      go (entries es) =
          refuse_cases (no_room (length es) (length buffer)) 10 t buffer _ (Long (entries es)) (λ done. absurd (omega arith))
          (λ room done. ap (λ l. length (packets_of l)) (turns_replies streams entered K at es (starts t)))

  told_length : (call : Call) → MayReply call → (made K call t).said.0 ≡ 0 → length_said (made K call t).said ≡ length (packets_of (sent K call t))
  told_length (datagram bytes at buffer) may done =
      datagram_long bytes at buffer done
      ∙ ap (λ b. length (packets_of (cond b (serving K (entries_carried entered at (reading bytes)) t).replies [])))
      (sym (eq-eqb (datagram_call K bytes at t buffer).said.0 0 done))
  told_length (local_pause x buffer) may done =
      ap (λ l. get_or l 0 0) (side.says_length sender K Rules.local_pause (λ s d. length_told (ruled Rules.local_pause s).reply) x buffer t done)
  told_length (time x at buffer) may done =
      ap (λ l. get_or l 0 0) (side.says_length sender K (Rules.time at) (λ s d. length_told (ruled (Rules.time at) s).reply) x buffer t done)
  told_length (report x buffer) may done = ap (λ l. get_or l 0 0) (side.says_length sender K Rules.report (λ s d. length_told (ruled Rules.report s).reply) x buffer t done)
  told_length (local_resume x) may done = absurd may
  told_length (send x) may done = absurd may

  -- a call that may reply, and says Done, says the length of the packets that it wrote: 20 for each reply
  pub says_length : (call : Call) → MayReply call → (made K call t).said.0 ≡ 0 → length_said (made K call t).said ≡ packet_of_one * length (sent K call t)
  says_length call may done = told_length call may done ∙ packets_long packet_of packet_of_one one_long (sent K call t)

-- ---- what is read back

kind_fits : (n : Notice) → type_of n < 16
kind_fits notice.Paused = omega arith
kind_fits notice.Refused = omega arith

reply_back : (e : ReplyEntry) → reading (packet_of e) ≡ entries (reply_read e ∷ [])
reply_back e = read_back e.target e.target (type_of e.notice) e.id.0 (kind_fits e.notice)

-- a reader of packet k finds the reply that was sent as number k, and nothing else
pub sent_read_back : {A : Type 0} (K : Keeping A) → Faithful K → (call : Call) (t : List A) (k : ℕ) (none : ReplyEntry) → k < length (sent K call t)
    → reading (packet_at k (made K call t).buffer) ≡ entries (reply_read (get_or (sent K call t) k none) ∷ [])
unfolding over
sent_read_back K F call t k none within =
    let rest : List ℕ = drop (length (packets_of (sent K call t))) (buffer_of call) in
    let from : packet_from k ≡ packet_of_one * k = omega arith in
    ap (λ l. reading (packet_at k l)) (written K F t call)
    ∙ ap (λ (n : ℕ). reading (slice n (n + packet_of_one) (packets_of (sent K call t) ++ rest))) from
    ∙ ap reading (packet_at_lem packet_of packet_of_one one_long (sent K call t) rest k none within)
    ∙ reply_back (get_or (sent K call t) k none)
