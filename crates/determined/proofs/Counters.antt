-- The public functions of `counters`.
-- Assumes nothing.
use mathlib.Core.Path.{◌≡◌, sym, ◌∙◌}
use Rattle.counters.proofs.count.MessageFromU8.from as message_from
use Rattle.counters.proofs.count.U8FromNotice.from as kind_from
use Rattle.counters.proofs.PauseId.advance as id_advance
use Rattle.counters.proofs.PauseId.is_past as is_past
use Rattle.counters.proofs.PauseId.judge as judge
use Rattle.counters.proofs.Seq.advance as seq_advance
use Rattle.counters.proofs.clock.deadline as deadline
use Rattle.counters.proofs.clock.due as due
use Rattle.determined.proofs.Both.{Both}

pub message_from_determined : Both 0 message_from.Kinds.ps message_from.Kinds.r message_from.Reads.Post (λ κs x y s t. x ≡ y)
message_from_determined κs args x y s t p q = p ∙ sym q

pub kind_from_determined : Both 0 kind_from.Kinds.ps kind_from.Kinds.r kind_from.Reads.Post (λ κs x y s t. x ≡ y)
kind_from_determined κs args x y s t p q = p ∙ sym q

pub id_advance_determined : Both 0 id_advance.Kinds.ps id_advance.Kinds.r id_advance.Reads.Post (λ κs x y s t. x ≡ y)
id_advance_determined κs args x y s t p q = p ∙ sym q

pub is_past_determined : Both 0 is_past.Kinds.ps is_past.Kinds.r is_past.Reads.Post (λ κs x y s t. x ≡ y)
is_past_determined κs args x y s t p q = p ∙ sym q

pub judge_determined : Both 0 judge.Kinds.ps judge.Kinds.r judge.Reads.Post (λ κs x y s t. x ≡ y)
judge_determined κs args x y s t p q = p ∙ sym q

pub seq_advance_determined : Both 0 seq_advance.Kinds.ps seq_advance.Kinds.r seq_advance.Reads.Post (λ κs x y s t. x ≡ y)
seq_advance_determined κs args x y s t p q = p ∙ sym q

pub deadline_determined : Both 0 deadline.Kinds.ps deadline.Kinds.r deadline.Reads.Post (λ κs x y s t. x ≡ y)
deadline_determined κs args x y s t p q = p ∙ sym q

pub due_determined : Both 0 due.Kinds.ps due.Kinds.r due.Reads.Post (λ κs x y s t. x ≡ y)
due_determined κs args x y s t p q = p ∙ sym q
