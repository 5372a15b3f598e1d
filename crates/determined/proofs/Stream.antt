-- The public functions of `stream`.
-- Assumes nothing.
use mathlib.Core.Path.{◌≡◌, sym, ◌∙◌}
use Rattle.stream.proofs.passing.passes as passes
use Rattle.stream.proofs.Stream.received as received
use Rattle.stream.proofs.Stream.time as time
use Rattle.stream.proofs.Stream.local_pause as local_pause
use Rattle.stream.proofs.Stream.local_resume as local_resume
use Rattle.stream.proofs.Stream.report as report
use Rattle.stream.proofs.Stream.send as send
use Rattle.stream.proofs.Stream.start as start
use Rattle.stream.proofs.numbers.HeldCase.number as held_number
use Rattle.stream.proofs.numbers.LimitCase.number as limit_number
use Rattle.stream.specs.declared.Sent.{Sent}
use Rattle.stream.proofs.Said.{number_apart, started_apart}
use Rattle.determined.proofs.Both.{Both}

pub passes_determined : Both 0 passes.Kinds.ps passes.Kinds.r passes.Reads.Post (λ κs x y s t. x ≡ y)
passes_determined κs args x y s t p q = p ∙ sym q

pub received_determined : Both 0 received.Kinds.ps received.Kinds.r received.Reads.Post (λ κs x y s t. x ≡ y)
received_determined κs args x y s t p q = p ∙ sym q

pub time_determined : Both 0 time.Kinds.ps time.Kinds.r time.Reads.Post (λ κs x y s t. x ≡ y)
time_determined κs args x y s t p q = p ∙ sym q

pub local_pause_determined : Both 0 local_pause.Kinds.ps local_pause.Kinds.r local_pause.Reads.Post (λ κs x y s t. x ≡ y)
local_pause_determined κs args x y s t p q = p ∙ sym q

pub local_resume_determined : Both 0 local_resume.Kinds.ps local_resume.Kinds.r local_resume.Reads.Post (λ κs x y s t. x ≡ y)
local_resume_determined κs args x y s t p q = p ∙ sym q

pub report_determined : Both 0 report.Kinds.ps report.Kinds.r report.Reads.Post (λ κs x y s t. x ≡ y)
report_determined κs args x y s t p q = p ∙ sym q

-- a record and what was said with it are the whole of what send gives
same_sent : (x y : Sent) → x.stream ≡ y.stream → x.number ≡ y.number → x ≡ y
same_sent x y e n = λ i. record { stream = e i; number = n i }

pub send_determined : Both 0 send.Kinds.ps send.Kinds.r send.Reads.Post (λ κs x y s t. x ≡ y)
send_determined κs args x y s t p q = same_sent x y (p.0 ∙ sym q.0) (number_apart x.number y.number (p.1 ∙ sym q.1))

pub start_determined : Both 0 start.Kinds.ps start.Kinds.r start.Reads.Post (λ κs x y s t. x ≡ y)
start_determined κs args x y s t p q = started_apart x y (p ∙ sym q)

pub held_number_determined : Both 0 held_number.Kinds.ps held_number.Kinds.r held_number.Reads.Post (λ κs x y s t. x ≡ y)
held_number_determined κs args x y s t p q = p ∙ sym q

pub limit_number_determined : Both 0 limit_number.Kinds.ps limit_number.Kinds.r limit_number.Reads.Post (λ κs x y s t. x ≡ y)
limit_number_determined κs args x y s t p q = p ∙ sym q
