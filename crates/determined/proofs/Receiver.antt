-- The public functions of `receiver` and `remote_decide`.
-- Assumes nothing.
use mathlib.Core.Path.{◌≡◌, sym, ◌∙◌}
use Rattle.receiver.proofs.numbers.DatagramRefusalFromRtcpRefusal.from as datagram_refused
use Rattle.receiver.proofs.numbers.AskRefusalFromBusy.from as ask_busy
use Rattle.receiver.proofs.numbers.DatagramRefusalCase.number as datagram_number
use Rattle.receiver.proofs.numbers.AskRefusalCase.number as ask_number
use Rattle.receiver.proofs.numbers.AddRefusalCase.number as add_number
use Rattle.remote_decide.proofs.calls.ask as ask
use Rattle.remote_decide.proofs.calls.report as report
use Rattle.remote_decide.proofs.calls.see_media as see_media
use Rattle.remote_decide.proofs.datagram.take as take
use Rattle.remote_decide.proofs.places.admit as admit
use Rattle.remote_decide.proofs.datagram.open as opens
use Rattle.remote_decide.proofs.messages.length as length
use Rattle.remote_decide.proofs.messages.put_message as put_message
use Rattle.determined.proofs.Both.{Both}

pub datagram_refused_determined : Both 0 datagram_refused.Kinds.ps datagram_refused.Kinds.r datagram_refused.Reads.Post (λ κs x y s t. x ≡ y)
datagram_refused_determined κs args x y s t p q = p ∙ sym q

pub ask_busy_determined : Both 0 ask_busy.Kinds.ps ask_busy.Kinds.r ask_busy.Reads.Post (λ κs x y s t. x ≡ y)
ask_busy_determined κs args x y s t p q = p ∙ sym q

pub datagram_number_determined : Both 0 datagram_number.Kinds.ps datagram_number.Kinds.r datagram_number.Reads.Post (λ κs x y s t. x ≡ y)
datagram_number_determined κs args x y s t p q = p ∙ sym q

pub ask_number_determined : Both 0 ask_number.Kinds.ps ask_number.Kinds.r ask_number.Reads.Post (λ κs x y s t. x ≡ y)
ask_number_determined κs args x y s t p q = p ∙ sym q

pub add_number_determined : Both 0 add_number.Kinds.ps add_number.Kinds.r add_number.Reads.Post (λ κs x y s t. x ≡ y)
add_number_determined κs args x y s t p q = p ∙ sym q

pub ask_determined : Both 0 ask.Kinds.ps ask.Kinds.r ask.Reads.Post (λ κs x y s t. x ≡ y)
ask_determined κs args x y s t p q = p ∙ sym q

pub report_determined : Both 0 report.Kinds.ps report.Kinds.r report.Reads.Post (λ κs x y s t. x ≡ y)
report_determined κs args x y s t p q = p ∙ sym q

pub see_media_determined : Both 0 see_media.Kinds.ps see_media.Kinds.r see_media.Reads.Post (λ κs x y s t. x ≡ y)
see_media_determined κs args x y s t p q = p ∙ sym q

pub take_determined : Both 0 take.Kinds.ps take.Kinds.r take.Reads.Post (λ κs x y s t. x ≡ y)
take_determined κs args x y s t p q = p ∙ sym q

pub admit_determined : Both 0 admit.Kinds.ps admit.Kinds.r admit.Reads.Post (λ κs x y s t. x ≡ y)
admit_determined κs args x y s t p q = p ∙ sym q

pub opens_determined : Both 1 opens.Kinds.ps opens.Kinds.r opens.Reads.Post (λ κs x y s t. x ≡ y)
opens_determined κs args x y s t p q = p ∙ sym q

pub length_determined : Both 0 length.Kinds.ps length.Kinds.r length.Reads.Post (λ κs x y s t. x ≡ y)
length_determined κs args x y s t p q = p ∙ sym q

pub put_message_determined : Both 1 put_message.Kinds.ps put_message.Kinds.r put_message.Reads.Post (λ κs x y s t. s.0.now ≡ t.0.now)
put_message_determined κs args x y s t p q = p ∙ sym q
