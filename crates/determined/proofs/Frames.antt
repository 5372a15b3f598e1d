-- The public functions of `frames`.
-- Assumes nothing.
use mathlib.Core.Path.{◌≡◌, ap, sym, ◌∙◌}
use Rattle.lines.specs.Hex.{Printing}
use Rattle.frames.specs.Serve.{Served}
use Rattle.frames.specs.Whole.{Answering}
use Rattle.frames.proofs.frame.frame_of as frame_of
use Rattle.frames.proofs.answer.refused as refused
use Rattle.frames.proofs.answer.datagram_said as datagram_said
use Rattle.frames.proofs.answer.reply_said as reply_said
use Rattle.frames.proofs.answer.change_said as change_said
use Rattle.frames.proofs.answer.send_said as send_said
use Rattle.frames.proofs.answer.add_said as add_said
use Rattle.frames.proofs.answer.say as say
use Rattle.frames.proofs.serve.serve as serve
use Rattle.frames.proofs.whole.answer as answer
use Rattle.determined.proofs.Both.{Both}

pub frame_of_determined : Both 1 frame_of.Kinds.ps frame_of.Kinds.r frame_of.Reads.Post (λ κs x y s t. x ≡ y)
frame_of_determined κs args x y s t p q = p ∙ sym q

pub refused_determined : Both 0 refused.Kinds.ps refused.Kinds.r refused.Reads.Post (λ κs x y s t. x ≡ y)
refused_determined κs args x y s t p q = p ∙ sym q

pub datagram_said_determined : Both 0 datagram_said.Kinds.ps datagram_said.Kinds.r datagram_said.Reads.Post (λ κs x y s t. x ≡ y)
datagram_said_determined κs args x y s t p q = p ∙ sym q

pub reply_said_determined : Both 0 reply_said.Kinds.ps reply_said.Kinds.r reply_said.Reads.Post (λ κs x y s t. x ≡ y)
reply_said_determined κs args x y s t p q = p ∙ sym q

pub change_said_determined : Both 0 change_said.Kinds.ps change_said.Kinds.r change_said.Reads.Post (λ κs x y s t. x ≡ y)
change_said_determined κs args x y s t p q = p ∙ sym q

pub send_said_determined : Both 0 send_said.Kinds.ps send_said.Kinds.r send_said.Reads.Post (λ κs x y s t. x ≡ y)
send_said_determined κs args x y s t p q = p ∙ sym q

pub add_said_determined : Both 0 add_said.Kinds.ps add_said.Kinds.r add_said.Reads.Post (λ κs x y s t. x ≡ y)
add_said_determined κs args x y s t p q = p ∙ sym q

pub say_determined : Both 2 say.Kinds.ps say.Kinds.r say.Reads.Post (λ κs x y s t. (x ≡ y) × (s.1.1.0.now ≡ t.1.1.0.now))
say_determined κs args x y s t p q =
    let e = sym p.0 ∙ q.0 in
    (ap (λ (a : Printing). a.next) e, ap (λ (a : Printing). a.output) e)

pub serve_determined : Both 3 serve.Kinds.ps serve.Kinds.r serve.Reads.Post (λ κs x y s t. (x ≡ y) × (s.0.now ≡ t.0.now) × (s.1.1.0.now ≡ t.1.1.0.now))
serve_determined κs args x y s t p q =
    let e = sym p.0 ∙ q.0 in
    (ap (λ (a : Served). a.head) e, ap (λ (a : Served). a.table) e, ap (λ (a : Served). a.reply) e)

pub answer_determined : Both 5 answer.Kinds.ps answer.Kinds.r answer.Reads.Post
    (λ κs x y s t. (x ≡ y) × (s.0.now ≡ t.0.now) × (s.1.1.1.0.now ≡ t.1.1.1.0.now) × (s.1.1.1.1.0.now ≡ t.1.1.1.1.0.now)
    × (s.1.1.1.1.1.0.now ≡ t.1.1.1.1.1.0.now))
answer_determined κs args x y s t p q =
    let e = sym p.0 ∙ q.0 in (
      ap (λ (a : Answering). a.next) e,
      ap (λ (a : Answering). a.table) e,
      ap (λ (a : Answering). a.buffers.bytes) e,
      ap (λ (a : Answering). a.buffers.reply) e,
      ap (λ (a : Answering). a.output) e,
    )
