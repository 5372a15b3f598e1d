-- What a call of `lent` promises is what a run makes of it: the contract gives `made` at the records themselves, as in Table.antt. Over a slice of records it is said
-- of the `ensures` in the program logic.
-- Assumes nothing.
use mathlib.Core.List.{[]}
use mathlib.Core.Path.{◌≡◌}
use seplogic.Ra.Ura.{Ura}
use base.Logic.{SProp}
use prog.Memory.{Memory}
use prog.Routine.{Routine}
use types.Logic.{Logic}
use contract.Monad.{Fun}
use contract.Fact.{fact_mono}
use Rattle.sender.specs.Said.{datagram_said, send_said, add_said}
use Rattle.sides.specs.Said.{packet_said, change_said}
use Rattle.sender.specs.Calls.{add_call, remove_call}
use Rattle.sender.specs.Keeping.{records}
use Rattle.lent.specs.contracts.calls.datagram as datagram
use Rattle.lent.specs.contracts.calls.local_pause as local_pause
use Rattle.lent.specs.contracts.calls.time as time
use Rattle.lent.specs.contracts.calls.report as report
use Rattle.lent.specs.contracts.calls.local_resume as local_resume
use Rattle.lent.specs.contracts.calls.send as send
use Rattle.lent.specs.contracts.calls.add as add
use Rattle.lent.specs.contracts.calls.remove as remove
use Rattle.tied.specs.Calls.{datagram_made, local_pause_made, time_made, report_made, local_resume_made, send_made}
use Rattle.tied.proofs.Each.{EachEnd}

module _ {M : Type 1} {𝓤 : Ura M} (𝓛 : Logic 𝓤) (mem : Memory → SProp 𝓤) (run : Routine → Fun 𝓤) where
  pub datagram_made_lem : EachEnd 𝓤 datagram.ended (datagram.clauses 𝓛 mem run)
      (λ κs a x s. datagram_made records a.0.now a.1.0.now a.1.1.0 a.1.1.1.0.now
      ≡ record { said = datagram_said x; table = s.0.now; buffer = s.1.1.1.0.now })
  datagram_made_lem κs a g x s = fact_mono 𝓤 _ _ (λ p. p)

  pub local_pause_made_lem : EachEnd 𝓤 local_pause.ended (local_pause.clauses 𝓛 mem run)
      (λ κs a x s. local_pause_made records a.0.now a.1.0 a.1.1.0.now
      ≡ record { said = packet_said x; table = s.0.now; buffer = s.1.1.0.now })
  local_pause_made_lem κs a g x s = fact_mono 𝓤 _ _ (λ p. p)

  pub time_made_lem : EachEnd 𝓤 time.ended (time.clauses 𝓛 mem run)
      (λ κs a x s. time_made records a.0.now a.1.0 a.1.1.0 a.1.1.1.0.now
      ≡ record { said = packet_said x; table = s.0.now; buffer = s.1.1.1.0.now })
  time_made_lem κs a g x s = fact_mono 𝓤 _ _ (λ p. p)

  pub report_made_lem : EachEnd 𝓤 report.ended (report.clauses 𝓛 mem run)
      (λ κs a x s. report_made records a.0.now a.1.0 a.1.1.0.now
      ≡ record { said = packet_said x; table = s.0.now; buffer = s.1.1.0.now })
  report_made_lem κs a g x s = fact_mono 𝓤 _ _ (λ p. p)

  pub local_resume_made_lem : EachEnd 𝓤 local_resume.ended (local_resume.clauses 𝓛 mem run)
      (λ κs a x s. local_resume_made records a.0.now a.1.0 ≡ record { said = change_said x; table = s.0.now; buffer = [] })
  local_resume_made_lem κs a g x s = fact_mono 𝓤 _ _ (λ p. p)

  pub send_made_lem : EachEnd 𝓤 send.ended (send.clauses 𝓛 mem run)
      (λ κs a x s. send_made records a.0.now a.1.0 ≡ record { said = send_said x; table = s.0.now; buffer = [] })
  send_made_lem κs a g x s = fact_mono 𝓤 _ _ (λ p. p)

  -- add and remove, which are no calls of a run, by the definitions of which `apart` says that they keep its hypothesis
  pub add_made : EachEnd 𝓤 add.ended (add.clauses 𝓛 mem run)
      (λ κs a x s. add_call records a.1.0 a.1.1.0 a.1.1.1.0 a.1.1.1.1.0 a.1.1.1.1.1.0 a.1.1.1.1.1.1.0 a.0.now
      ≡ record { said = add_said x; table = s.0.now; buffer = [] })
  add_made κs a g x s = fact_mono 𝓤 _ _ (λ p. p)

  pub remove_made : EachEnd 𝓤 remove.ended (remove.clauses 𝓛 mem run)
      (λ κs a x s. remove_call records a.1.0 a.0.now ≡ record { said = change_said x; table = s.0.now; buffer = [] })
  remove_made κs a g x s = fact_mono 𝓤 _ _ (λ p. p)
