-- The public functions of `measured`.
-- Assumes nothing.
use mathlib.Core.Path.{◌≡◌, sym, ◌∙◌}
use Rattle.measured.proofs.measured_datagram as datagram
use Rattle.measured.proofs.receiving.measured_remote_datagram as remote_datagram
use Rattle.determined.proofs.Both.{Both}

pub measured_datagram_determined : Both 3 datagram.Kinds.ps datagram.Kinds.r datagram.Reads.Post (λ κs x y s t. (x ≡ y) × (s.0.now ≡ t.0.now) × (s.1.1.1.0.now ≡ t.1.1.1.0.now))
measured_datagram_determined κs args x y s t p q = (p.said ∙ sym q.said, p.rows ∙ sym q.rows, p.bytes ∙ sym q.bytes)

pub measured_remote_datagram_determined : Both 2 remote_datagram.Kinds.ps remote_datagram.Kinds.r remote_datagram.Reads.Post (λ κs x y s t. (x ≡ y) × (s.0.now ≡ t.0.now))
measured_remote_datagram_determined κs args x y s t p q = (p.said ∙ sym q.said, p.rows ∙ sym q.rows)
