-- The public functions of `rtcp`.
-- Assumes nothing.
use mathlib.Core.List.{List}
use mathlib.Core.Path.{◌≡◌, ap, sym, ◌∙◌, subst}
use Prim.Native.Nat.{ℕ}
use denote.Ref.{Bor}
use Rattle.std.proofs.Props.{props}
use Rattle.rtcp.specs.code.Cursor.{Ready}
use Rattle.rtcp.specs.declared.cursor.Cursor.{Cursor}
use Rattle.rtcp.specs.declared.cursor.Entries.{Entries}
use Rattle.rtcp.proofs.FaultCase.number as fault_number
use Rattle.rtcp.proofs.RefusalCase.number as refusal_number
use Rattle.rtcp.proofs.datagram.check as check
use Rattle.rtcp.proofs.cursor.entry_at as entry_at
use Rattle.rtcp.proofs.cursor.Cursor.start as start
use Rattle.rtcp.proofs.cursor.Cursor.step as step
use Rattle.rtcp.proofs.cursor.EntriesIterator.next as next
use Rattle.rtcp.proofs.Cases.{checked_apart}
use Rattle.determined.proofs.Both.{Both}

pub fault_number_determined : Both 0 fault_number.Kinds.ps fault_number.Kinds.r fault_number.Reads.Post (λ κs x y s t. x ≡ y)
fault_number_determined κs args x y s t p q = p ∙ sym q

pub refusal_number_determined : Both 0 refusal_number.Kinds.ps refusal_number.Kinds.r refusal_number.Reads.Post (λ κs x y s t. x ≡ y)
refusal_number_determined κs args x y s t p q = p ∙ sym q

pub check_determined : Both 1 check.Kinds.ps check.Kinds.r check.Reads.Post (λ κs x y s t. x ≡ y)
check_determined κs args x y s t p q = checked_apart x y (p ∙ sym q)

pub entry_at_determined : Both 1 entry_at.Kinds.ps entry_at.Kinds.r entry_at.Reads.Post (λ κs x y s t. x ≡ y)
entry_at_determined κs args x y s t p q = p ∙ sym q

pub start_determined : Both 0 start.Kinds.ps start.Kinds.r start.Reads.Post (λ κs x y s t. x ≡ y)
start_determined κs args x y s t p q = p ∙ sym q

pub step_determined : Both 1 step.Kinds.ps step.Kinds.r step.Reads.Post (λ κs x y s t. x ≡ y)
step_determined κs args x y s t p q = p ∙ sym q

-- an iterator is its datagram and its cursor, since of `Ready` there is one proof at most
one_ready : (d : List ℕ) (c : Cursor) (r s : Ready d c) → r ≡ s
one_ready d c r s = hlevel props

same_entries : (s t : Entries) → s.datagram ≡ t.datagram → s.cursor ≡ t.cursor → s ≡ t
same_entries s t d c =
    subst (λ (x : Bor (List ℕ)). (r : Ready x.now t.cursor) → s ≡ record { datagram = x; cursor = t.cursor; ready = r }) d
    (subst (λ (x : Cursor). (r : Ready s.datagram.now x) → s ≡ record { datagram = s.datagram; cursor = x; ready = r }) c
    (λ r. ap (λ (r : Ready s.datagram.now s.cursor). record { datagram = s.datagram; cursor = s.cursor; ready = r }) (one_ready _ _ s.ready r)))
    t.ready

pub next_determined : Both 2 next.Kinds.ps next.Kinds.r next.Reads.Post (λ κs x y s t. (x ≡ y) × (s.0.now ≡ t.0.now))
next_determined κs args x y s t p q =
    let e = p.0.step ∙ sym q.0.step in
    (ap (λ g. g.0) e, same_entries s.0.now t.0.now (p.0.datagram ∙ sym q.0.datagram) (ap (λ g. g.1) e))
