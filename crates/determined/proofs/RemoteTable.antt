-- The public functions of `remote_table`.
-- Assumes nothing.
use mathlib.Core.Path.{◌≡◌}
use Rattle.remote_table.proofs.calls.datagram as datagram
use Rattle.remote_table.proofs.calls.ask_to_pause as ask_to_pause
use Rattle.remote_table.proofs.calls.ask_to_resume as ask_to_resume
use Rattle.remote_table.proofs.calls.report as report
use Rattle.remote_table.proofs.calls.media_seen as media_seen
use Rattle.remote_table.proofs.calls.add as add
use Rattle.remote_table.proofs.calls.remove as remove
use Rattle.receiver.specs.Said.{datagram_said, ask_said, add_said}
use Rattle.receiver.proofs.Said.{datagram_apart, ask_apart, add_apart}
use Rattle.sides.specs.Said.{packet_said, change_said}
use Rattle.sides.proofs.Said.{packet_apart, change_apart}
use Rattle.determined.proofs.Both.{Both, came_determined}

pub datagram_determined : Both 2 datagram.Kinds.ps datagram.Kinds.r datagram.Reads.Post (λ κs x y s t. (x ≡ y) × (s.0.now ≡ t.0.now))
datagram_determined κs args x y s t p q = let d = came_determined datagram_said datagram_apart _ _ _ _ _ _ p q in (d.0, d.1)

pub ask_to_pause_determined : Both 2 ask_to_pause.Kinds.ps ask_to_pause.Kinds.r ask_to_pause.Reads.Post (λ κs x y s t. (x ≡ y) × (s.0.now ≡ t.0.now) × (s.1.1.0.now ≡ t.1.1.0.now))
ask_to_pause_determined κs args x y s t p q = came_determined ask_said ask_apart _ _ _ _ _ _ p q

pub ask_to_resume_determined : Both 2 ask_to_resume.Kinds.ps ask_to_resume.Kinds.r ask_to_resume.Reads.Post (λ κs x y s t. (x ≡ y) × (s.0.now ≡ t.0.now) × (s.1.1.0.now ≡ t.1.1.0.now))
ask_to_resume_determined κs args x y s t p q = came_determined ask_said ask_apart _ _ _ _ _ _ p q

pub report_determined : Both 2 report.Kinds.ps report.Kinds.r report.Reads.Post (λ κs x y s t. (x ≡ y) × (s.0.now ≡ t.0.now) × (s.1.1.0.now ≡ t.1.1.0.now))
report_determined κs args x y s t p q = came_determined packet_said packet_apart _ _ _ _ _ _ p q

pub media_seen_determined : Both 1 media_seen.Kinds.ps media_seen.Kinds.r media_seen.Reads.Post (λ κs x y s t. (x ≡ y) × (s.0.now ≡ t.0.now))
media_seen_determined κs args x y s t p q = let d = came_determined change_said change_apart _ _ _ _ _ _ p q in (d.0, d.1)

pub add_determined : Both 1 add.Kinds.ps add.Kinds.r add.Reads.Post (λ κs x y s t. (x ≡ y) × (s.0.now ≡ t.0.now))
add_determined κs args x y s t p q = let d = came_determined add_said add_apart _ _ _ _ _ _ p q in (d.0, d.1)

pub remove_determined : Both 1 remove.Kinds.ps remove.Kinds.r remove.Reads.Post (λ κs x y s t. (x ≡ y) × (s.0.now ≡ t.0.now))
remove_determined κs args x y s t p q = let d = came_determined change_said change_apart _ _ _ _ _ _ p q in (d.0, d.1)
