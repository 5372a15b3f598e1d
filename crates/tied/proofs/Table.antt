-- What a call of `table` promises is what a run makes of it: the contract, as the source has it, gives `made` at rows of numbers. The proof is
-- the contract itself.
-- Assumes nothing.
use mathlib.Core.List.{[]}
use mathlib.Core.Path.{◌≡◌}
use Rattle.sender.specs.Said.{datagram_said, send_said, add_said}
use Rattle.sides.specs.Said.{packet_said, change_said}
use Rattle.sender.specs.Calls.{add_call, remove_call}
use Rattle.rows.specs.Rows.{rows}
use Rattle.table.proofs.calls.datagram as datagram
use Rattle.table.proofs.calls.local_pause as local_pause
use Rattle.table.proofs.calls.time as time
use Rattle.table.proofs.calls.report as report
use Rattle.table.proofs.calls.local_resume as local_resume
use Rattle.table.proofs.calls.send as send
use Rattle.table.proofs.calls.add as add
use Rattle.table.proofs.calls.remove as remove
use Rattle.tied.specs.Calls.{datagram_made, local_pause_made, time_made, report_made, local_resume_made, send_made}
use Rattle.tied.proofs.Each.{Each}

pub datagram_made_lem : Each 3 datagram.Kinds.ps datagram.Kinds.r datagram.Reads.Post
    (λ κs a x s. datagram_made rows a.0.now a.1.0.now a.1.1.0 a.1.1.1.0.now
    ≡ record { said = datagram_said x; table = s.0.now; buffer = s.1.1.1.0.now })
datagram_made_lem κs a x s p = p

pub local_pause_made_lem : Each 2 local_pause.Kinds.ps local_pause.Kinds.r local_pause.Reads.Post
    (λ κs a x s. local_pause_made rows a.0.now a.1.0 a.1.1.0.now
    ≡ record { said = packet_said x; table = s.0.now; buffer = s.1.1.0.now })
local_pause_made_lem κs a x s p = p

pub time_made_lem : Each 2 time.Kinds.ps time.Kinds.r time.Reads.Post
    (λ κs a x s. time_made rows a.0.now a.1.0 a.1.1.0 a.1.1.1.0.now
    ≡ record { said = packet_said x; table = s.0.now; buffer = s.1.1.1.0.now })
time_made_lem κs a x s p = p

pub report_made_lem : Each 2 report.Kinds.ps report.Kinds.r report.Reads.Post
    (λ κs a x s. report_made rows a.0.now a.1.0 a.1.1.0.now
    ≡ record { said = packet_said x; table = s.0.now; buffer = s.1.1.0.now })
report_made_lem κs a x s p = p

pub local_resume_made_lem : Each 1 local_resume.Kinds.ps local_resume.Kinds.r local_resume.Reads.Post
    (λ κs a x s. local_resume_made rows a.0.now a.1.0 ≡ record { said = change_said x; table = s.0.now; buffer = [] })
local_resume_made_lem κs a x s p = p

pub send_made_lem : Each 1 send.Kinds.ps send.Kinds.r send.Reads.Post
    (λ κs a x s. send_made rows a.0.now a.1.0 ≡ record { said = send_said x; table = s.0.now; buffer = [] })
send_made_lem κs a x s p = p

-- add and remove, which are no calls of a run, by the definitions of which `apart` says that they keep its hypothesis
pub add_made : Each 1 add.Kinds.ps add.Kinds.r add.Reads.Post
    (λ κs a x s. add_call rows a.1.0 a.1.1.0 a.1.1.1.0 a.1.1.1.1.0 a.1.1.1.1.1.0 a.1.1.1.1.1.1.0 a.0.now
    ≡ record { said = add_said x; table = s.0.now; buffer = [] })
add_made κs a x s p = p

pub remove_made : Each 1 remove.Kinds.ps remove.Kinds.r remove.Reads.Post
    (λ κs a x s. remove_call rows a.1.0 a.0.now ≡ record { said = change_said x; table = s.0.now; buffer = [] })
remove_made κs a x s p = p
