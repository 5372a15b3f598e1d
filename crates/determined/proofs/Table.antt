-- The public functions of `table`.
-- Assumes nothing.
use mathlib.Core.Path.{◌≡◌}
use Rattle.table.proofs.calls.datagram as datagram
use Rattle.table.proofs.calls.local_pause as local_pause
use Rattle.table.proofs.calls.time as time
use Rattle.table.proofs.calls.report as report
use Rattle.table.proofs.calls.local_resume as local_resume
use Rattle.table.proofs.calls.send as send
use Rattle.table.proofs.calls.add as add
use Rattle.table.proofs.calls.remove as remove
use Rattle.sender.specs.Said.{datagram_said, send_said, add_said}
use Rattle.sides.specs.Said.{packet_said, change_said}
use Rattle.sender.proofs.Said.{datagram_apart, send_apart, add_apart}
use Rattle.sides.proofs.Said.{packet_apart, change_apart}
use Rattle.determined.proofs.Both.{Both, came_determined}

pub datagram_determined : Both 3 datagram.Kinds.ps datagram.Kinds.r datagram.Reads.Post (λ κs x y s t. (x ≡ y) × (s.0.now ≡ t.0.now) × (s.1.1.1.0.now ≡ t.1.1.1.0.now))
datagram_determined κs args x y s t p q = came_determined datagram_said datagram_apart _ _ _ _ _ _ p q

pub local_pause_determined : Both 2 local_pause.Kinds.ps local_pause.Kinds.r local_pause.Reads.Post (λ κs x y s t. (x ≡ y) × (s.0.now ≡ t.0.now) × (s.1.1.0.now ≡ t.1.1.0.now))
local_pause_determined κs args x y s t p q = came_determined packet_said packet_apart _ _ _ _ _ _ p q

pub time_determined : Both 2 time.Kinds.ps time.Kinds.r time.Reads.Post (λ κs x y s t. (x ≡ y) × (s.0.now ≡ t.0.now) × (s.1.1.1.0.now ≡ t.1.1.1.0.now))
time_determined κs args x y s t p q = came_determined packet_said packet_apart _ _ _ _ _ _ p q

pub report_determined : Both 2 report.Kinds.ps report.Kinds.r report.Reads.Post (λ κs x y s t. (x ≡ y) × (s.0.now ≡ t.0.now) × (s.1.1.0.now ≡ t.1.1.0.now))
report_determined κs args x y s t p q = came_determined packet_said packet_apart _ _ _ _ _ _ p q

pub local_resume_determined : Both 1 local_resume.Kinds.ps local_resume.Kinds.r local_resume.Reads.Post (λ κs x y s t. (x ≡ y) × (s.0.now ≡ t.0.now))
local_resume_determined κs args x y s t p q = let d = came_determined change_said change_apart _ _ _ _ _ _ p q in (d.0, d.1)

pub send_determined : Both 1 send.Kinds.ps send.Kinds.r send.Reads.Post (λ κs x y s t. (x ≡ y) × (s.0.now ≡ t.0.now))
send_determined κs args x y s t p q = let d = came_determined send_said send_apart _ _ _ _ _ _ p q in (d.0, d.1)

pub add_determined : Both 1 add.Kinds.ps add.Kinds.r add.Reads.Post (λ κs x y s t. (x ≡ y) × (s.0.now ≡ t.0.now))
add_determined κs args x y s t p q = let d = came_determined add_said add_apart _ _ _ _ _ _ p q in (d.0, d.1)

pub remove_determined : Both 1 remove.Kinds.ps remove.Kinds.r remove.Reads.Post (λ κs x y s t. (x ≡ y) × (s.0.now ≡ t.0.now))
remove_determined κs args x y s t p q = let d = came_determined change_said change_apart _ _ _ _ _ _ p q in (d.0, d.1)
