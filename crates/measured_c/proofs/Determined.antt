-- The exports: any two ends of a call that meet its contract are equal. They stand here and not in `determined`, since no other crate can name a static library.
-- Assumes nothing.
use mathlib.Core.Path.{◌≡◌, sym, ◌∙◌}
use Rattle.measured_c.proofs.measured_datagram as datagram
use Rattle.measured_c.proofs.measured_remote_datagram as remote_datagram
use Rattle.determined.proofs.Both.{Both}

pub datagram_determined : Both 3 datagram.Kinds.ps datagram.Kinds.r datagram.Reads.Post (λ κs x y s t. (x ≡ y) × (s.0.now ≡ t.0.now) × (s.1.1.1.0.now ≡ t.1.1.1.0.now))
datagram_determined κs args x y s t p q = (p.said ∙ sym q.said, p.rows ∙ sym q.rows, p.bytes ∙ sym q.bytes)

pub remote_datagram_determined : Both 2 remote_datagram.Kinds.ps remote_datagram.Kinds.r remote_datagram.Reads.Post (λ κs x y s t. (x ≡ y) × (s.0.now ≡ t.0.now))
remote_datagram_determined κs args x y s t p q = (p.said ∙ sym q.said, p.rows ∙ sym q.rows)
