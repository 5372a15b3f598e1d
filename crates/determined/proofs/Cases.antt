-- The public functions of `cases`. Of a function that is for any type it is the `ensures` in the program logic, said of each of the two ends.
-- Assumes nothing.
use mathlib.Core.Path.{◌≡◌, sym, ◌∙◌}
use seplogic.Ra.Ura.{Ura}
use base.Logic.{SProp}
use prog.Memory.{Memory}
use prog.Routine.{Routine}
use types.Logic.{Logic}
use contract.Monad.{Fun}
use denote.RattleType.{RattleType}
use mir.Syntax.{Dict}
use Rattle.std.specs.declared.clone.Clone as clone
use Rattle.cases.specs.declared.Case as case
use Rattle.cases.specs.contracts.number as number
use Rattle.determined.proofs.Both.{Ends, both_facts}

module _ {M : Type 1} {𝓤 : Ura M} (𝓛 : Logic 𝓤) (mem : Memory → SProp 𝓤) (run : Routine → Fun 𝓤) where
  module _ (T E : RattleType) (A : clone.Ghosts T.Denot) (a : Dict) (B : case.Ghosts E.Denot) (b : Dict) (C : clone.Ghosts E.Denot) (c : Dict) where
    pub number_determined : Ends 𝓤 (number.ended T E A a B b C c) (number.clauses T E A a B b C c 𝓛 mem run) (λ κs x y s t. x ≡ y)
    number_determined κs args g x y s t = both_facts 𝓤 _ _ _ (λ p q. p ∙ sym q)
