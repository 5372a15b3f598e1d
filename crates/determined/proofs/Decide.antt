-- The public functions of `decide`, but for its calls (Kept.antt).
-- Assumes nothing.
use mathlib.Core.Path.{◌≡◌, sym, ◌∙◌}
use Rattle.decide.proofs.room.no_room as no_room
use Rattle.decide.proofs.calls.react as react
use Rattle.decide.proofs.calls.resume as resume
use Rattle.decide.proofs.calls.send as send
use Rattle.decide.proofs.datagram.take as take
use Rattle.decide.proofs.places.admit as admit
use Rattle.decide.proofs.replies.put_reply as put_reply
use Rattle.decide.proofs.datagram.after as after
use Rattle.decide.proofs.datagram.open as «open»
use Rattle.decide.proofs.datagram.with_room as with_room
use Rattle.determined.proofs.Both.{Both}

pub no_room_determined : Both 0 no_room.Kinds.ps no_room.Kinds.r no_room.Reads.Post (λ κs x y s t. x ≡ y)
no_room_determined κs args x y s t p q = p ∙ sym q

pub react_determined : Both 0 react.Kinds.ps react.Kinds.r react.Reads.Post (λ κs x y s t. x ≡ y)
react_determined κs args x y s t p q = p ∙ sym q

pub resume_determined : Both 0 resume.Kinds.ps resume.Kinds.r resume.Reads.Post (λ κs x y s t. x ≡ y)
resume_determined κs args x y s t p q = p ∙ sym q

pub send_determined : Both 0 send.Kinds.ps send.Kinds.r send.Reads.Post (λ κs x y s t. x ≡ y)
send_determined κs args x y s t p q = p ∙ sym q

pub take_determined : Both 0 take.Kinds.ps take.Kinds.r take.Reads.Post (λ κs x y s t. x ≡ y)
take_determined κs args x y s t p q = p ∙ sym q

pub admit_determined : Both 0 admit.Kinds.ps admit.Kinds.r admit.Reads.Post (λ κs x y s t. x ≡ y)
admit_determined κs args x y s t p q = p ∙ sym q

pub put_reply_determined : Both 1 put_reply.Kinds.ps put_reply.Kinds.r put_reply.Reads.Post (λ κs x y s t. s.0.now ≡ t.0.now)
put_reply_determined κs args x y s t p q = p ∙ sym q

pub after_determined : Both 0 after.Kinds.ps after.Kinds.r after.Reads.Post (λ κs x y s t. x ≡ y)
after_determined κs args x y s t p q = p ∙ sym q

pub open_determined : Both 1 «open».Kinds.ps «open».Kinds.r «open».Reads.Post (λ κs x y s t. x ≡ y)
open_determined κs args x y s t p q = p ∙ sym q

pub with_room_determined : Both 0 with_room.Kinds.ps with_room.Kinds.r with_room.Reads.Post (λ κs x y s t. x ≡ y)
with_room_determined κs args x y s t p q = p ∙ sym q
