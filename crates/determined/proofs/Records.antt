-- The public functions of `records`.
-- Assumes nothing.
use mathlib.Core.Path.{◌≡◌, sym, ◌∙◌}
use Rattle.records.proofs.RecordsKeeps.read as kept_read
use Rattle.records.proofs.RecordsKeeps.store as kept_store
use Rattle.records.proofs.RecordsKeeps.clear as kept_clear
use Rattle.records.proofs.RecordsKeeps.holds as kept_holds
use Rattle.records.proofs.RecordsKeeps.is_used as kept_used
use Rattle.determined.proofs.Both.{Both}

pub kept_read_determined : Both 1 kept_read.Kinds.ps kept_read.Kinds.r kept_read.Reads.Post (λ κs x y s t. x ≡ y)
kept_read_determined κs args x y s t p q = p ∙ sym q

pub kept_store_determined : Both 1 kept_store.Kinds.ps kept_store.Kinds.r kept_store.Reads.Post (λ κs x y s t. s.0.now ≡ t.0.now)
kept_store_determined κs args x y s t p q = p ∙ sym q

pub kept_clear_determined : Both 1 kept_clear.Kinds.ps kept_clear.Kinds.r kept_clear.Reads.Post (λ κs x y s t. s.0.now ≡ t.0.now)
kept_clear_determined κs args x y s t p q = p ∙ sym q

pub kept_holds_determined : Both 1 kept_holds.Kinds.ps kept_holds.Kinds.r kept_holds.Reads.Post (λ κs x y s t. x ≡ y)
kept_holds_determined κs args x y s t p q = p ∙ sym q

pub kept_used_determined : Both 1 kept_used.Kinds.ps kept_used.Kinds.r kept_used.Reads.Post (λ κs x y s t. x ≡ y)
kept_used_determined κs args x y s t p q = p ∙ sym q
