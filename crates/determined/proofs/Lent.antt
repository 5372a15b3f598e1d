-- The public functions of `lent`. Over a slice of records it is the `ensures` in the program logic, said of each of the two ends.
-- Assumes nothing.
use mathlib.Core.Path.{◌≡◌}
use seplogic.Ra.Ura.{Ura}
use base.Logic.{SProp}
use prog.Memory.{Memory}
use prog.Routine.{Routine}
use types.Logic.{Logic}
use contract.Monad.{Fun}
use Rattle.sender.specs.Said.{datagram_said, send_said, add_said}
use Rattle.sides.specs.Said.{packet_said, change_said}
use Rattle.sender.proofs.Said.{datagram_apart, send_apart, add_apart}
use Rattle.sides.proofs.Said.{packet_apart, change_apart}
use Rattle.lent.specs.contracts.calls.datagram as datagram
use Rattle.lent.specs.contracts.calls.local_pause as local_pause
use Rattle.lent.specs.contracts.calls.time as time
use Rattle.lent.specs.contracts.calls.report as report
use Rattle.lent.specs.contracts.calls.local_resume as local_resume
use Rattle.lent.specs.contracts.calls.send as send
use Rattle.lent.specs.contracts.calls.add as add
use Rattle.lent.specs.contracts.calls.remove as remove
use Rattle.determined.proofs.Both.{Ends, both_facts, came_determined}

module _ {M : Type 1} {𝓤 : Ura M} (𝓛 : Logic 𝓤) (mem : Memory → SProp 𝓤) (run : Routine → Fun 𝓤) where
  pub datagram_determined : Ends 𝓤 datagram.ended (datagram.clauses 𝓛 mem run) (λ κs x y s t. (x ≡ y) × (s.0.now ≡ t.0.now) × (s.1.1.1.0.now ≡ t.1.1.1.0.now))
  datagram_determined κs args g x y s t = both_facts 𝓤 _ _ _ (λ p q. came_determined datagram_said datagram_apart _ _ _ _ _ _ p q)

  pub local_pause_determined : Ends 𝓤 local_pause.ended (local_pause.clauses 𝓛 mem run) (λ κs x y s t. (x ≡ y) × (s.0.now ≡ t.0.now) × (s.1.1.0.now ≡ t.1.1.0.now))
  local_pause_determined κs args g x y s t = both_facts 𝓤 _ _ _ (λ p q. came_determined packet_said packet_apart _ _ _ _ _ _ p q)

  pub time_determined : Ends 𝓤 time.ended (time.clauses 𝓛 mem run) (λ κs x y s t. (x ≡ y) × (s.0.now ≡ t.0.now) × (s.1.1.1.0.now ≡ t.1.1.1.0.now))
  time_determined κs args g x y s t = both_facts 𝓤 _ _ _ (λ p q. came_determined packet_said packet_apart _ _ _ _ _ _ p q)

  pub report_determined : Ends 𝓤 report.ended (report.clauses 𝓛 mem run) (λ κs x y s t. (x ≡ y) × (s.0.now ≡ t.0.now) × (s.1.1.0.now ≡ t.1.1.0.now))
  report_determined κs args g x y s t = both_facts 𝓤 _ _ _ (λ p q. came_determined packet_said packet_apart _ _ _ _ _ _ p q)

  pub local_resume_determined : Ends 𝓤 local_resume.ended (local_resume.clauses 𝓛 mem run) (λ κs x y s t. (x ≡ y) × (s.0.now ≡ t.0.now))
  local_resume_determined κs args g x y s t = both_facts 𝓤 _ _ _ (λ p q. let d = came_determined change_said change_apart _ _ _ _ _ _ p q in (d.0, d.1))

  pub send_determined : Ends 𝓤 send.ended (send.clauses 𝓛 mem run) (λ κs x y s t. (x ≡ y) × (s.0.now ≡ t.0.now))
  send_determined κs args g x y s t = both_facts 𝓤 _ _ _ (λ p q. let d = came_determined send_said send_apart _ _ _ _ _ _ p q in (d.0, d.1))

  pub add_determined : Ends 𝓤 add.ended (add.clauses 𝓛 mem run) (λ κs x y s t. (x ≡ y) × (s.0.now ≡ t.0.now))
  add_determined κs args g x y s t = both_facts 𝓤 _ _ _ (λ p q. let d = came_determined add_said add_apart _ _ _ _ _ _ p q in (d.0, d.1))

  pub remove_determined : Ends 𝓤 remove.ended (remove.clauses 𝓛 mem run) (λ κs x y s t. (x ≡ y) × (s.0.now ≡ t.0.now))
  remove_determined κs args g x y s t = both_facts 𝓤 _ _ _ (λ p q. let d = came_determined change_said change_apart _ _ _ _ _ _ p q in (d.0, d.1))
