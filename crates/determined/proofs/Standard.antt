-- The public functions of `standard`, but for the three whose results hang on the world (docs/PROMISES.md, "Exceptions").
-- Assumes nothing.
use mathlib.Core.Path.{◌≡◌, sym, ◌∙◌}
use Rattle.standard.proofs.more as more
use Rattle.standard.proofs.start as start
use Rattle.determined.proofs.Both.{Both}

pub start_determined : Both 0 start.Kinds.ps start.Kinds.r start.Reads.Post (λ κs x y s t. x ≡ y)
start_determined κs args x y s t p q = p ∙ sym q

pub more_determined : Both 0 more.Kinds.ps more.Kinds.r more.Reads.Post (λ κs x y s t. x ≡ y)
more_determined κs args x y s t p q = p ∙ sym q
