-- The replies' bytes: a packet written after those before it, from the buffer's start on.
-- Assumes nothing.
use Rattle.std.proofs.Common.{◌≡◌, ℕ, ◌+◌, ◌*◌, ◌/◌, ◌≤◌, Option, Some, None, ltb, List, [], ◌∷◌, ◌++◌, length, sym, ap, ◌∙◌, append-nil, lt_of_not-le, zero-add, arith, length-append, le-ltb, lt-ltb}
use native.Mathlib.Decide.{dec_le}
use Rattle.writer.specs.Writer.{packet_of_one, placed}
use Rattle.writer.proofs.Placed.{placed_first, placed_after}
use Rattle.stream.specs.declared.ReplyEntry.{ReplyEntry}
use Rattle.sides.proofs.Packets.{packets_append}
use Rattle.sender.proofs.Room.{enough_room}
use Rattle.sender.specs.Calls.{no_room}
use Rattle.sender.specs.Replies.{packet_of, packets_of, over}
use Rattle.decide.specs.code.Turning.{packet_placed}
use Rattle.sender.specs.Serve.{length_of, listed}

-- bytes over a buffer are bytes placed at its start
over_placed : (bytes buffer : List ℕ) → length bytes ≤ length buffer → over bytes buffer ≡ placed buffer 0 bytes
unfolding over
over_placed bytes buffer h = sym (placed_first buffer bytes h)

-- bytes written after bytes
over_after : (first next buffer : List ℕ) → length first + length next ≤ length buffer → placed (over first buffer) (length first) next ≡ over (first ++ next) buffer
over_after first next buffer h =
    ap (λ (l : List ℕ). placed l (length first) next) (over_placed first buffer (omega arith))
    ∙ ap (λ (i : ℕ). placed (placed buffer 0 first) i next) (sym (zero-add (length first)))
    ∙ placed_after buffer 0 first next (rw zero-add h)
    ∙ sym (over_placed (first ++ next) buffer (rw length-append h))

-- one reply more
pub reply_placed : (buffer : List ℕ) (rs : List ReplyEntry) (r : Option ReplyEntry) → length (packets_of rs) + length_of r ≤ length buffer
    → packet_placed (over (packets_of rs) buffer) (length (packets_of rs)) r ≡ over (packets_of (rs ++ listed r)) buffer
reply_placed buffer rs None h = rw append-nil
reply_placed buffer rs (Some e) h =
    over_after (packets_of rs) (packet_of e) buffer h
    ∙ ap (λ (l : List ℕ). over l buffer) (sym (packets_append packet_of rs (e ∷ []) ∙ ap (λ (l : List ℕ). packets_of rs ++ l) (append-nil (packet_of e))))

-- the test for room, made without a product that could run over
pub room_test : (n room : ℕ) → ltb (room / packet_of_one) n ≡ no_room n room
room_test n room =
    elim (dec_le (packet_of_one * n) room) [
      | yes k ↦
          le-ltb (room / packet_of_one) n (omega arith) ∙ sym (enough_room n room k)
      | no k ↦
          let short = lt_of_not-le k in
          rw (lt-ltb (room / packet_of_one) n (omega arith), lt-ltb 0 n (omega arith), lt-ltb room (packet_of_one * n) short)
    ]
