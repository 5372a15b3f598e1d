-- The public functions of `sender`.
-- Assumes nothing.
use mathlib.Core.Path.{◌≡◌, sym, ◌∙◌}
use Rattle.sender.proofs.numbers.DatagramRefusalCase.number as datagram_number
use Rattle.sender.proofs.numbers.SendRefusalCase.number as send_number
use Rattle.sender.proofs.numbers.AddRefusalCase.number as add_number
use Rattle.sender.proofs.refused.DatagramRefusalFromRefusal.from as datagram_refused
use Rattle.sender.proofs.refused.SendRefusalFromHeld.from as send_held
use Rattle.sender.proofs.refused.AddRefusalFromLimit.from as add_limit
use Rattle.sender.proofs.unused as unused
use Rattle.determined.proofs.Both.{Both}

pub datagram_number_determined : Both 0 datagram_number.Kinds.ps datagram_number.Kinds.r datagram_number.Reads.Post (λ κs x y s t. x ≡ y)
datagram_number_determined κs args x y s t p q = p ∙ sym q

pub send_number_determined : Both 0 send_number.Kinds.ps send_number.Kinds.r send_number.Reads.Post (λ κs x y s t. x ≡ y)
send_number_determined κs args x y s t p q = p ∙ sym q

pub add_number_determined : Both 0 add_number.Kinds.ps add_number.Kinds.r add_number.Reads.Post (λ κs x y s t. x ≡ y)
add_number_determined κs args x y s t p q = p ∙ sym q

pub datagram_refused_determined : Both 0 datagram_refused.Kinds.ps datagram_refused.Kinds.r datagram_refused.Reads.Post (λ κs x y s t. x ≡ y)
datagram_refused_determined κs args x y s t p q = p ∙ sym q

pub send_held_determined : Both 0 send_held.Kinds.ps send_held.Kinds.r send_held.Reads.Post (λ κs x y s t. x ≡ y)
send_held_determined κs args x y s t p q = p ∙ sym q

pub add_limit_determined : Both 0 add_limit.Kinds.ps add_limit.Kinds.r add_limit.Reads.Post (λ κs x y s t. x ≡ y)
add_limit_determined κs args x y s t p q = p ∙ sym q

pub unused_determined : Both 0 unused.Kinds.ps unused.Kinds.r unused.Reads.Post (λ κs x y s t. x ≡ y)
unused_determined κs args x y s t p q = p ∙ sym q
