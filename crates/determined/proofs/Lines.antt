-- The public functions of `lines`.
-- Assumes nothing.
use mathlib.Core.Path.{◌≡◌, ap, sym, ◌∙◌}
use Rattle.lines.specs.Gather.{Gathering}
use Rattle.lines.specs.Hex.{Printing, Reading}
use Rattle.lines.proofs.gather.gather as gather
use Rattle.lines.proofs.hex.print as print
use Rattle.lines.proofs.hex.read as read
use Rattle.lines.proofs.number.eight as eight
use Rattle.lines.proofs.number.four as four
use Rattle.lines.proofs.number.two as two
use Rattle.determined.proofs.Both.{Both}

pub two_determined : Both 1 two.Kinds.ps two.Kinds.r two.Reads.Post (λ κs x y s t. x ≡ y)
two_determined κs args x y s t p q = p ∙ sym q

pub four_determined : Both 1 four.Kinds.ps four.Kinds.r four.Reads.Post (λ κs x y s t. x ≡ y)
four_determined κs args x y s t p q = p ∙ sym q

pub eight_determined : Both 1 eight.Kinds.ps eight.Kinds.r eight.Reads.Post (λ κs x y s t. x ≡ y)
eight_determined κs args x y s t p q = p ∙ sym q

pub read_determined : Both 2 read.Kinds.ps read.Kinds.r read.Reads.Post (λ κs x y s t. (x ≡ y) × (s.1.1.0.now ≡ t.1.1.0.now))
read_determined κs args x y s t p q =
    let e = sym p.0 ∙ q.0 in
    (ap (λ (r : Reading). r.digits) e, ap (λ (r : Reading). r.bytes) e)

pub print_determined : Both 3 print.Kinds.ps print.Kinds.r print.Reads.Post (λ κs x y s t. (x ≡ y) × (s.1.1.0.now ≡ t.1.1.0.now))
print_determined κs args x y s t p q =
    let e = sym p.0 ∙ q.0 in
    (ap (λ (r : Printing). r.next) e, ap (λ (r : Printing). r.output) e)

pub gather_determined : Both 2 gather.Kinds.ps gather.Kinds.r gather.Reads.Post (λ κs x y s t. (x ≡ y) × (s.0.now ≡ t.0.now))
gather_determined κs args x y s t p q =
    let e = sym p.0 ∙ q.0 in
    (ap (λ (g : Gathering). record { held = g.held; at = g.at }) e, ap (λ (g : Gathering). g.line) e)
