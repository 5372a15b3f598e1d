-- The public functions of `sides`. Of a function that is for any way of keeping records it is the `ensures` in the program logic, said of each of the two ends.
-- Assumes nothing.
use mathlib.Core.Path.{◌≡◌, sym, ◌∙◌}
use seplogic.Ra.Ura.{Ura}
use base.Logic.{SProp}
use prog.Memory.{Memory}
use prog.Routine.{Routine}
use types.Logic.{Logic}
use contract.Monad.{Fun}
use denote.RattleType.{RattleType}
use mir.Syntax.{Dict}
use Rattle.std.specs.declared.clone.Clone as clone
use Rattle.sides.specs.declared.keeps.Keeps as keeps
use Rattle.sides.specs.contracts.keeps.find as find
use Rattle.sides.specs.contracts.keeps.find_from as find_from
use Rattle.sides.specs.contracts.keeps.find_vacant as find_vacant
use Rattle.sides.specs.contracts.keeps.holder as holder
use Rattle.sides.specs.contracts.keeps.keep as keep
use Rattle.sides.specs.contracts.keeps.clear as clear
use Rattle.sides.proofs.numbers.PacketRefusalCase.number as packet_number
use Rattle.sides.proofs.numbers.ChangeRefusalCase.number as change_number
use Rattle.sides.proofs.places.release as release
use Rattle.sides.proofs.wrong_size as wrong_size
use Rattle.determined.proofs.Both.{Both, Ends, both_facts, both_first}

pub packet_number_determined : Both 0 packet_number.Kinds.ps packet_number.Kinds.r packet_number.Reads.Post (λ κs x y s t. x ≡ y)
packet_number_determined κs args x y s t p q = p ∙ sym q

pub change_number_determined : Both 0 change_number.Kinds.ps change_number.Kinds.r change_number.Reads.Post (λ κs x y s t. x ≡ y)
change_number_determined κs args x y s t p q = p ∙ sym q

pub wrong_size_determined : Both 0 wrong_size.Kinds.ps wrong_size.Kinds.r wrong_size.Reads.Post (λ κs x y s t. x ≡ y)
wrong_size_determined κs args x y s t p q = p ∙ sym q

pub release_determined : Both 0 release.Kinds.ps release.Kinds.r release.Reads.Post (λ κs x y s t. x ≡ y)
release_determined κs args x y s t p q = p ∙ sym q

module _ {M : Type 1} {𝓤 : Ura M} (𝓛 : Logic 𝓤) (mem : Memory → SProp 𝓤) (run : Routine → Fun 𝓤) where
  -- K keeps records of the type R as what the type A has
  module _ (K R A : RattleType) (G : keeps.Ghosts K.Denot R.Denot A.Denot) (g : Dict) (B : clone.Ghosts R.Denot) (b : Dict) (C : clone.Ghosts A.Denot) (c : Dict) where
    pub find_determined : Ends 𝓤 (find.ended K R A G g B b C c) (find.clauses K R A G g B b C c 𝓛 mem run) (λ κs x y s t. x ≡ y)
    find_determined κs args h x y s t = both_first 𝓤 _ _ _ _ _ (λ p q. p ∙ sym q)

    pub find_from_determined : Ends 𝓤 (find_from.ended K R A G g B b C c) (find_from.clauses K R A G g B b C c 𝓛 mem run) (λ κs x y s t. x ≡ y)
    find_from_determined κs args h x y s t = both_first 𝓤 _ _ _ _ _ (λ p q. p ∙ sym q)

    pub find_vacant_determined : Ends 𝓤 (find_vacant.ended K R A G g B b C c) (find_vacant.clauses K R A G g B b C c 𝓛 mem run) (λ κs x y s t. x ≡ y)
    find_vacant_determined κs args h x y s t = both_first 𝓤 _ _ _ _ _ (λ p q. p ∙ sym q)

    pub holder_determined : Ends 𝓤 (holder.ended K R A G g B b C c) (holder.clauses K R A G g B b C c 𝓛 mem run) (λ κs x y s t. x ≡ y)
    holder_determined κs args h x y s t = both_facts 𝓤 _ _ _ (λ p q. p ∙ sym q)

    pub keep_determined : Ends 𝓤 (keep.ended K R A G g B b C c) (keep.clauses K R A G g B b C c 𝓛 mem run) (λ κs x y s t. s.0.now ≡ t.0.now)
    keep_determined κs args h x y s t = both_facts 𝓤 _ _ _ (λ p q. p ∙ sym q)

    pub clear_determined : Ends 𝓤 (clear.ended K R A G g B b C c) (clear.clauses K R A G g B b C c 𝓛 mem run) (λ κs x y s t. s.0.now ≡ t.0.now)
    clear_determined κs args h x y s t = both_facts 𝓤 _ _ _ (λ p q. p ∙ sym q)
