-- The public functions of `walk`. Of `entry` it is said of the contract's plain reading, of those of a `Walk` in the program logic.
-- Assumes nothing.
use mathlib.Core.Path.{◌≡◌, sym, ◌∙◌}
use seplogic.Ra.Ura.{Ura}
use base.Logic.{SProp}
use prog.Memory.{Memory}
use prog.Routine.{Routine}
use types.Logic.{Logic}
use contract.Monad.{Fun}
use Rattle.walk.specs.contracts.Walk.open as open'
use Rattle.walk.specs.contracts.Walk.answer as answer'
use Rattle.walk.specs.contracts.Walk.step as step
use Rattle.walk.specs.contracts.Walk.at as at'
use Rattle.walk.specs.contracts.Walk.next as next
use Rattle.walk.proofs.entry as entry
use Rattle.determined.proofs.Both.{Both, Ends, both_facts}

module _ {M : Type 1} {𝓤 : Ura M} (𝓛 : Logic 𝓤) (mem : Memory → SProp 𝓤) (run : Routine → Fun 𝓤) where
  pub open_determined : Ends 𝓤 open'.ended (open'.clauses 𝓛 mem run) (λ κs x y s t. x ≡ y)
  open_determined κs args g x y s t = both_facts 𝓤 _ _ _ (λ p q. p ∙ sym q)

  pub answer_determined : Ends 𝓤 answer'.ended (answer'.clauses 𝓛 mem run) (λ κs x y s t. x ≡ y)
  answer_determined κs args g x y s t = both_facts 𝓤 _ _ _ (λ p q. p ∙ sym q)

  pub step_determined : Ends 𝓤 step.ended (step.clauses 𝓛 mem run) (λ κs x y s t. x ≡ y)
  step_determined κs args g x y s t = both_facts 𝓤 _ _ _ (λ p q. p ∙ sym q)

  pub at_determined : Ends 𝓤 at'.ended (at'.clauses 𝓛 mem run) (λ κs x y s t. x ≡ y)
  at_determined κs args g x y s t = both_facts 𝓤 _ _ _ (λ p q. p ∙ sym q)

  pub next_determined : Ends 𝓤 next.ended (next.clauses 𝓛 mem run) (λ κs x y s t. x ≡ y)
  next_determined κs args g x y s t = both_facts 𝓤 _ _ _ (λ p q. p ∙ sym q)

pub entry_determined : Both 1 entry.Kinds.ps entry.Kinds.r entry.Reads.Post (λ κs x y s t. x ≡ y)
entry_determined κs args x y s t p q = p ∙ sym q
