-- What a call of `remote_table` promises is what a run makes of it: the contract, as the source has it, gives `made` of `remote_apart` at rows of numbers, from every
-- house where it names none. The proof is the contract itself.
-- Assumes nothing.
use Prim.Native.Nat.{ℕ}
use mathlib.Core.List.{[]}
use mathlib.Core.Path.{◌≡◌, ◌∙◌}
use Rattle.sides.specs.Said.{packet_said, change_said}
use Rattle.sides.proofs.House.{any_house}
use Rattle.receiver.specs.Calls.{receiver, add_call, remove_call}
use Rattle.receiver.specs.Messages.{packet_of}
use Rattle.receiver.specs.Said.{datagram_said, ask_said, add_said}
use Rattle.remote_rows.specs.Rows.{rows}
use Rattle.remote_table.proofs.calls.datagram as datagram
use Rattle.remote_table.proofs.calls.ask_to_pause as ask_to_pause
use Rattle.remote_table.proofs.calls.ask_to_resume as ask_to_resume
use Rattle.remote_table.proofs.calls.report as report
use Rattle.remote_table.proofs.calls.media_seen as media_seen
use Rattle.remote_table.proofs.calls.add as add
use Rattle.remote_table.proofs.calls.remove as remove
use Rattle.remote_apart.specs.Calls.{as_call}
use Rattle.remote_apart.specs.Calls as call
use Rattle.remote_apart.proofs.Written.{datagram_silent, media_seen_silent}
use Rattle.tied.specs.RemoteCalls.{datagram_made, ask_to_pause_made, ask_to_resume_made, report_made, media_seen_made}
use Rattle.tied.proofs.Each.{Each}

pub datagram_made_lem : Each 2 datagram.Kinds.ps datagram.Kinds.r datagram.Reads.Post
    (λ κs a x s. (house : ℕ) → datagram_made rows a.0.now a.1.0.now house ≡ record { said = datagram_said x; table = s.0.now; buffer = [] })
datagram_made_lem κs a x s p house =
    any_house (receiver 0) rows (packet_of house) a.0.now (as_call (call.datagram a.1.0.now)) (datagram_silent 0 a.1.0.now) ∙ p

pub ask_to_pause_made_lem : Each 2 ask_to_pause.Kinds.ps ask_to_pause.Kinds.r ask_to_pause.Reads.Post
    (λ κs a x s. ask_to_pause_made rows a.0.now a.1.0 a.1.1.0.now a.1.1.1.0
    ≡ record { said = ask_said x; table = s.0.now; buffer = s.1.1.0.now })
ask_to_pause_made_lem κs a x s p = p

pub ask_to_resume_made_lem : Each 2 ask_to_resume.Kinds.ps ask_to_resume.Kinds.r ask_to_resume.Reads.Post
    (λ κs a x s. ask_to_resume_made rows a.0.now a.1.0 a.1.1.0.now a.1.1.1.0
    ≡ record { said = ask_said x; table = s.0.now; buffer = s.1.1.0.now })
ask_to_resume_made_lem κs a x s p = p

pub report_made_lem : Each 2 report.Kinds.ps report.Kinds.r report.Reads.Post
    (λ κs a x s. report_made rows a.0.now a.1.0 a.1.1.0.now a.1.1.1.0
    ≡ record { said = packet_said x; table = s.0.now; buffer = s.1.1.0.now })
report_made_lem κs a x s p = p

pub media_seen_made_lem : Each 1 media_seen.Kinds.ps media_seen.Kinds.r media_seen.Reads.Post
    (λ κs a x s. (house : ℕ) → media_seen_made rows a.0.now a.1.0 house ≡ record { said = change_said x; table = s.0.now; buffer = [] })
media_seen_made_lem κs a x s p house =
    any_house (receiver 0) rows (packet_of house) a.0.now (as_call (call.media_seen a.1.0)) (media_seen_silent 0 a.1.0) ∙ p

-- add and remove, which are no calls of a run, by the definitions of which `remote_apart` says that they keep its hypothesis
pub add_made : Each 1 add.Kinds.ps add.Kinds.r add.Reads.Post
    (λ κs a x s. add_call rows a.1.0 a.1.1.0 a.0.now ≡ record { said = add_said x; table = s.0.now; buffer = [] })
add_made κs a x s p = p

pub remove_made : Each 1 remove.Kinds.ps remove.Kinds.r remove.Reads.Post
    (λ κs a x s. remove_call rows a.1.0 a.0.now ≡ record { said = change_said x; table = s.0.now; buffer = [] })
remove_made κs a x s p = p
