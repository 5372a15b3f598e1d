-- The public functions of `rows`.
-- Assumes nothing.
use mathlib.Core.Path.{◌≡◌, sym, ◌∙◌}
use Rattle.rows.proofs.unused as unused
use Rattle.rows.proofs.read as read
use Rattle.rows.proofs.row_of as row_of
use Rattle.rows.proofs.store as store
use Rattle.rows.proofs.RowsKeeps.read as kept_read
use Rattle.rows.proofs.RowsKeeps.store as kept_store
use Rattle.rows.proofs.RowsKeeps.clear as kept_clear
use Rattle.rows.proofs.RowsKeeps.holds as kept_holds
use Rattle.rows.proofs.RowsKeeps.is_used as kept_used
use Rattle.determined.proofs.Both.{Both}

pub unused_determined : Both 0 unused.Kinds.ps unused.Kinds.r unused.Reads.Post (λ κs x y s t. x ≡ y)
unused_determined κs args x y s t p q = p ∙ sym q

pub read_determined : Both 0 read.Kinds.ps read.Kinds.r read.Reads.Post (λ κs x y s t. x ≡ y)
read_determined κs args x y s t p q = p ∙ sym q

pub row_of_determined : Both 0 row_of.Kinds.ps row_of.Kinds.r row_of.Reads.Post (λ κs x y s t. x ≡ y)
row_of_determined κs args x y s t p q = p ∙ sym q

pub store_determined : Both 0 store.Kinds.ps store.Kinds.r store.Reads.Post (λ κs x y s t. x ≡ y)
store_determined κs args x y s t p q = p ∙ sym q

pub kept_read_determined : Both 1 kept_read.Kinds.ps kept_read.Kinds.r kept_read.Reads.Post (λ κs x y s t. x ≡ y)
kept_read_determined κs args x y s t p q = p ∙ sym q

pub kept_store_determined : Both 1 kept_store.Kinds.ps kept_store.Kinds.r kept_store.Reads.Post (λ κs x y s t. s.0.now ≡ t.0.now)
kept_store_determined κs args x y s t p q = p ∙ sym q

pub kept_clear_determined : Both 1 kept_clear.Kinds.ps kept_clear.Kinds.r kept_clear.Reads.Post (λ κs x y s t. s.0.now ≡ t.0.now)
kept_clear_determined κs args x y s t p q = p ∙ sym q

pub kept_holds_determined : Both 1 kept_holds.Kinds.ps kept_holds.Kinds.r kept_holds.Reads.Post (λ κs x y s t. x ≡ y)
kept_holds_determined κs args x y s t p q = p ∙ sym q

pub kept_used_determined : Both 1 kept_used.Kinds.ps kept_used.Kinds.r kept_used.Reads.Post (λ κs x y s t. x ≡ y)
kept_used_determined κs args x y s t p q = p ∙ sym q
