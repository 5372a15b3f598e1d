-- The public functions of `writer`.
-- Assumes nothing.
use mathlib.Core.Path.{◌≡◌, sym, ◌∙◌}
use Rattle.writer.proofs.put_packet as put_packet
use Rattle.writer.proofs.write_entry as write_entry
use Rattle.writer.proofs.WriteRefusalCase.number as refusal_number
use Rattle.writer.proofs.Cases.{written_apart}
use Rattle.determined.proofs.Both.{Both}

pub put_packet_determined : Both 1 put_packet.Kinds.ps put_packet.Kinds.r put_packet.Reads.Post (λ κs x y s t. s.0.now ≡ t.0.now)
put_packet_determined κs args x y s t p q = p ∙ sym q

pub write_entry_determined : Both 1 write_entry.Kinds.ps write_entry.Kinds.r write_entry.Reads.Post (λ κs x y s t. (x ≡ y) × (s.0.now ≡ t.0.now))
write_entry_determined κs args x y s t p q = (written_apart x y (p.0 ∙ sym q.0), p.1 ∙ sym q.1)

pub refusal_number_determined : Both 0 refusal_number.Kinds.ps refusal_number.Kinds.r refusal_number.Reads.Post (λ κs x y s t. x ≡ y)
refusal_number_determined κs args x y s t p q = p ∙ sym q
