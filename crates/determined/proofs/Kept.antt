-- The calls of the sender's table in `decide`, which are for any way of keeping the records: the `ensures` in the program logic, said of each of the two ends.
-- Assumes nothing.
use mathlib.Core.Path.{◌≡◌}
use seplogic.Ra.Ura.{Ura}
use base.Logic.{SProp}
use prog.Memory.{Memory}
use prog.Routine.{Routine}
use types.Logic.{Logic}
use contract.Monad.{Fun}
use denote.RattleType.{RattleType}
use mir.Syntax.{Dict}
use Rattle.std.specs.declared.clone.Clone as clone
use Rattle.sides.specs.declared.keeps.Keeps as keeps
use Rattle.stream.specs.declared.Stream.{Stream}
use Rattle.decide.specs.declared.kept.Streams as streams
use Rattle.sender.specs.Said.{datagram_said, send_said, add_said}
use Rattle.sides.specs.Said.{packet_said, change_said}
use Rattle.sender.proofs.Said.{datagram_apart, send_apart, add_apart}
use Rattle.sides.proofs.Said.{packet_apart, change_apart}
use Rattle.decide.specs.contracts.kept.calls.datagram as datagram
use Rattle.decide.specs.contracts.kept.calls.local_pause as local_pause
use Rattle.decide.specs.contracts.kept.calls.time as time
use Rattle.decide.specs.contracts.kept.calls.report as report
use Rattle.decide.specs.contracts.kept.calls.local_resume as local_resume
use Rattle.decide.specs.contracts.kept.calls.send as send
use Rattle.decide.specs.contracts.kept.calls.add as add
use Rattle.decide.specs.contracts.kept.calls.remove as remove
use Rattle.determined.proofs.Both.{Ends, both_facts, came_determined}

module _ {M : Type 1} {𝓤 : Ura M} (𝓛 : Logic 𝓤) (mem : Memory → SProp 𝓤) (run : Routine → Fun 𝓤) where
  -- the way W keeps the records of streams as K does, as what the type A has
  module _ (W K A : RattleType) (V : streams.Ghosts W.Denot K.Denot A.Denot) (v : Dict) (G : keeps.Ghosts K.Denot Stream A.Denot) (g : Dict)
      (B : clone.Ghosts Stream) (b : Dict) (C : clone.Ghosts A.Denot) (c : Dict) where
    pub datagram_determined : Ends 𝓤 (datagram.ended W K A V v G g B b C c) (datagram.clauses W K A V v G g B b C c 𝓛 mem run) (λ κs x y s t. (x ≡ y) × (s.0.now ≡ t.0.now) × (s.1.1.1.0.now ≡ t.1.1.1.0.now))
    datagram_determined κs args h x y s t = both_facts 𝓤 _ _ _ (λ p q. came_determined datagram_said datagram_apart _ _ _ _ _ _ p q)

    pub local_pause_determined : Ends 𝓤 (local_pause.ended W K A V v G g B b C c) (local_pause.clauses W K A V v G g B b C c 𝓛 mem run) (λ κs x y s t. (x ≡ y) × (s.0.now ≡ t.0.now) × (s.1.1.0.now ≡ t.1.1.0.now))
    local_pause_determined κs args h x y s t = both_facts 𝓤 _ _ _ (λ p q. came_determined packet_said packet_apart _ _ _ _ _ _ p q)

    pub time_determined : Ends 𝓤 (time.ended W K A V v G g B b C c) (time.clauses W K A V v G g B b C c 𝓛 mem run) (λ κs x y s t. (x ≡ y) × (s.0.now ≡ t.0.now) × (s.1.1.1.0.now ≡ t.1.1.1.0.now))
    time_determined κs args h x y s t = both_facts 𝓤 _ _ _ (λ p q. came_determined packet_said packet_apart _ _ _ _ _ _ p q)

    pub report_determined : Ends 𝓤 (report.ended W K A V v G g B b C c) (report.clauses W K A V v G g B b C c 𝓛 mem run) (λ κs x y s t. (x ≡ y) × (s.0.now ≡ t.0.now) × (s.1.1.0.now ≡ t.1.1.0.now))
    report_determined κs args h x y s t = both_facts 𝓤 _ _ _ (λ p q. came_determined packet_said packet_apart _ _ _ _ _ _ p q)

    pub local_resume_determined : Ends 𝓤 (local_resume.ended W K A V v G g B b C c) (local_resume.clauses W K A V v G g B b C c 𝓛 mem run) (λ κs x y s t. (x ≡ y) × (s.0.now ≡ t.0.now))
    local_resume_determined κs args h x y s t = both_facts 𝓤 _ _ _ (λ p q. let d = came_determined change_said change_apart _ _ _ _ _ _ p q in (d.0, d.1))

    pub send_determined : Ends 𝓤 (send.ended W K A V v G g B b C c) (send.clauses W K A V v G g B b C c 𝓛 mem run) (λ κs x y s t. (x ≡ y) × (s.0.now ≡ t.0.now))
    send_determined κs args h x y s t = both_facts 𝓤 _ _ _ (λ p q. let d = came_determined send_said send_apart _ _ _ _ _ _ p q in (d.0, d.1))

    pub add_determined : Ends 𝓤 (add.ended W K A V v G g B b C c) (add.clauses W K A V v G g B b C c 𝓛 mem run) (λ κs x y s t. (x ≡ y) × (s.0.now ≡ t.0.now))
    add_determined κs args h x y s t = both_facts 𝓤 _ _ _ (λ p q. let d = came_determined add_said add_apart _ _ _ _ _ _ p q in (d.0, d.1))

    pub remove_determined : Ends 𝓤 (remove.ended W K A V v G g B b C c) (remove.clauses W K A V v G g B b C c 𝓛 mem run) (λ κs x y s t. (x ≡ y) × (s.0.now ≡ t.0.now))
    remove_determined κs args h x y s t = both_facts 𝓤 _ _ _ (λ p q. let d = came_determined change_said change_apart _ _ _ _ _ _ p q in (d.0, d.1))
