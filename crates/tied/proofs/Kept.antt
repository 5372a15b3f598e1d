-- What a call of `decide` promises, for any way of keeping the records, is what a run makes of it: the contract gives `made` at that way, as in Table.antt. It is said
-- of the `ensures` in the program logic, at every type and every `impl` that there can be.
-- Assumes nothing.
use mathlib.Core.List.{[]}
use mathlib.Core.Path.{◌≡◌}
use seplogic.Ra.Ura.{Ura}
use base.Logic.{SProp}
use prog.Memory.{Memory}
use prog.Routine.{Routine}
use types.Logic.{Logic}
use contract.Monad.{Fun}
use contract.Fact.{fact_mono}
use denote.RattleType.{RattleType}
use mir.Syntax.{Dict}
use Rattle.std.specs.declared.clone.Clone as clone
use Rattle.stream.specs.declared.Stream.{Stream}
use Rattle.sides.specs.declared.keeps.Keeps as keeps
use Rattle.decide.specs.declared.kept.Streams as streams
use Rattle.sender.specs.Said.{datagram_said, send_said, add_said}
use Rattle.sides.specs.Said.{packet_said, change_said}
use Rattle.sender.specs.Calls.{add_call, remove_call}
use Rattle.decide.specs.contracts.kept.calls.datagram as datagram
use Rattle.decide.specs.contracts.kept.calls.local_pause as local_pause
use Rattle.decide.specs.contracts.kept.calls.time as time
use Rattle.decide.specs.contracts.kept.calls.report as report
use Rattle.decide.specs.contracts.kept.calls.local_resume as local_resume
use Rattle.decide.specs.contracts.kept.calls.send as send
use Rattle.decide.specs.contracts.kept.calls.add as add
use Rattle.decide.specs.contracts.kept.calls.remove as remove
use Rattle.tied.specs.Calls.{datagram_made, local_pause_made, time_made, report_made, local_resume_made, send_made}
use Rattle.tied.proofs.Each.{EachEnd}

module _ {M : Type 1} {𝓤 : Ura M} (𝓛 : Logic 𝓤) (mem : Memory → SProp 𝓤) (run : Routine → Fun 𝓤) where
  -- the way W keeps the records of streams as K does, as what the type A has
  module _ (W K A : RattleType) (V : streams.Ghosts W.Denot K.Denot A.Denot) (v : Dict) (G : keeps.Ghosts K.Denot Stream A.Denot) (g : Dict)
      (B : clone.Ghosts Stream) (b : Dict) (C : clone.Ghosts A.Denot) (c : Dict) where
    pub datagram_made_lem : EachEnd 𝓤 (datagram.ended W K A V v G g B b C c) (datagram.clauses W K A V v G g B b C c 𝓛 mem run)
        (λ κs a x s. datagram_made G.keeping a.0.now a.1.0.now a.1.1.0 a.1.1.1.0.now
        ≡ record { said = datagram_said x; table = s.0.now; buffer = s.1.1.1.0.now })
    datagram_made_lem κs a h x s = fact_mono 𝓤 _ _ (λ p. p)

    pub local_pause_made_lem : EachEnd 𝓤 (local_pause.ended W K A V v G g B b C c) (local_pause.clauses W K A V v G g B b C c 𝓛 mem run)
        (λ κs a x s. local_pause_made G.keeping a.0.now a.1.0 a.1.1.0.now
        ≡ record { said = packet_said x; table = s.0.now; buffer = s.1.1.0.now })
    local_pause_made_lem κs a h x s = fact_mono 𝓤 _ _ (λ p. p)

    pub time_made_lem : EachEnd 𝓤 (time.ended W K A V v G g B b C c) (time.clauses W K A V v G g B b C c 𝓛 mem run)
        (λ κs a x s. time_made G.keeping a.0.now a.1.0 a.1.1.0 a.1.1.1.0.now
        ≡ record { said = packet_said x; table = s.0.now; buffer = s.1.1.1.0.now })
    time_made_lem κs a h x s = fact_mono 𝓤 _ _ (λ p. p)

    pub report_made_lem : EachEnd 𝓤 (report.ended W K A V v G g B b C c) (report.clauses W K A V v G g B b C c 𝓛 mem run)
        (λ κs a x s. report_made G.keeping a.0.now a.1.0 a.1.1.0.now
        ≡ record { said = packet_said x; table = s.0.now; buffer = s.1.1.0.now })
    report_made_lem κs a h x s = fact_mono 𝓤 _ _ (λ p. p)

    pub local_resume_made_lem : EachEnd 𝓤 (local_resume.ended W K A V v G g B b C c) (local_resume.clauses W K A V v G g B b C c 𝓛 mem run)
        (λ κs a x s. local_resume_made G.keeping a.0.now a.1.0 ≡ record { said = change_said x; table = s.0.now; buffer = [] })
    local_resume_made_lem κs a h x s = fact_mono 𝓤 _ _ (λ p. p)

    pub send_made_lem : EachEnd 𝓤 (send.ended W K A V v G g B b C c) (send.clauses W K A V v G g B b C c 𝓛 mem run)
        (λ κs a x s. send_made G.keeping a.0.now a.1.0 ≡ record { said = send_said x; table = s.0.now; buffer = [] })
    send_made_lem κs a h x s = fact_mono 𝓤 _ _ (λ p. p)

    -- add and remove, which are no calls of a run, by the definitions of which `apart` says that they keep its hypothesis
    pub add_made : EachEnd 𝓤 (add.ended W K A V v G g B b C c) (add.clauses W K A V v G g B b C c 𝓛 mem run)
        (λ κs a x s. add_call G.keeping a.1.0 a.1.1.0 a.1.1.1.0 a.1.1.1.1.0 a.1.1.1.1.1.0 a.1.1.1.1.1.1.0 a.0.now
        ≡ record { said = add_said x; table = s.0.now; buffer = [] })
    add_made κs a h x s = fact_mono 𝓤 _ _ (λ p. p)

    pub remove_made : EachEnd 𝓤 (remove.ended W K A V v G g B b C c) (remove.clauses W K A V v G g B b C c 𝓛 mem run)
        (λ κs a x s. remove_call G.keeping a.1.0 a.0.now ≡ record { said = change_said x; table = s.0.now; buffer = [] })
    remove_made κs a h x s = fact_mono 𝓤 _ _ (λ p. p)
