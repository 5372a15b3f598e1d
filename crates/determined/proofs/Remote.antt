-- The public functions of `remote`.
-- Assumes nothing.
use mathlib.Core.Path.{◌≡◌, sym, ◌∙◌}
use Rattle.remote.proofs.asking.BusyCase.number as busy_number
use Rattle.remote.proofs.asking.U8FromAsk.from as ask_from
use Rattle.remote.proofs.Remote.start as start
use Rattle.remote.proofs.Remote.ask_to_pause as ask_to_pause
use Rattle.remote.proofs.Remote.ask_to_resume as ask_to_resume
use Rattle.remote.proofs.Remote.report as report
use Rattle.remote.proofs.Remote.media_seen as media_seen
use Rattle.remote.proofs.Remote.received_paused as received_paused
use Rattle.remote.proofs.Remote.received_refused as received_refused
use Rattle.remote.proofs.Remote.received as received
use Rattle.remote.proofs.passing.passes as passes
use Rattle.determined.proofs.Both.{Both}

pub busy_number_determined : Both 0 busy_number.Kinds.ps busy_number.Kinds.r busy_number.Reads.Post (λ κs x y s t. x ≡ y)
busy_number_determined κs args x y s t p q = p ∙ sym q

pub ask_from_determined : Both 0 ask_from.Kinds.ps ask_from.Kinds.r ask_from.Reads.Post (λ κs x y s t. x ≡ y)
ask_from_determined κs args x y s t p q = p ∙ sym q

pub start_determined : Both 0 start.Kinds.ps start.Kinds.r start.Reads.Post (λ κs x y s t. x ≡ y)
start_determined κs args x y s t p q = p ∙ sym q

pub ask_to_pause_determined : Both 0 ask_to_pause.Kinds.ps ask_to_pause.Kinds.r ask_to_pause.Reads.Post (λ κs x y s t. x ≡ y)
ask_to_pause_determined κs args x y s t p q = p ∙ sym q

pub ask_to_resume_determined : Both 0 ask_to_resume.Kinds.ps ask_to_resume.Kinds.r ask_to_resume.Reads.Post (λ κs x y s t. x ≡ y)
ask_to_resume_determined κs args x y s t p q = p ∙ sym q

pub report_determined : Both 0 report.Kinds.ps report.Kinds.r report.Reads.Post (λ κs x y s t. x ≡ y)
report_determined κs args x y s t p q = p ∙ sym q

pub media_seen_determined : Both 0 media_seen.Kinds.ps media_seen.Kinds.r media_seen.Reads.Post (λ κs x y s t. x ≡ y)
media_seen_determined κs args x y s t p q = p ∙ sym q

pub received_paused_determined : Both 0 received_paused.Kinds.ps received_paused.Kinds.r received_paused.Reads.Post (λ κs x y s t. x ≡ y)
received_paused_determined κs args x y s t p q = p ∙ sym q

pub received_refused_determined : Both 0 received_refused.Kinds.ps received_refused.Kinds.r received_refused.Reads.Post (λ κs x y s t. x ≡ y)
received_refused_determined κs args x y s t p q = p ∙ sym q

pub received_determined : Both 0 received.Kinds.ps received.Kinds.r received.Reads.Post (λ κs x y s t. x ≡ y)
received_determined κs args x y s t p q = p ∙ sym q

pub passes_determined : Both 0 passes.Kinds.ps passes.Kinds.r passes.Reads.Post (λ κs x y s t. x ≡ y)
passes_determined κs args x y s t p q = p ∙ sym q
