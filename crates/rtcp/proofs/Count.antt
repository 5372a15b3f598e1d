-- What the answer of a check says of the reading; and what a loop that counts entries knows: how many it has passed, and that
-- those with the rest make up the whole.
-- Assumes nothing.
use mathlib.Core.Path.{◌≡◌, refl, ap, ◌∙◌}
use mathlib.Core.List.{List, [], ◌∷◌}
use Prim.Native.Nat.{ℕ, ◌+◌, ◌<◌, ◌≤◌}
use native.Mathlib.Nat.{zero-add, add-zero, add_assoc}
use native.Mathlib.Omega.{arith}
use lib.ListN.{length, length-append}
use Rattle.std.specs.Prelude.{Some, None, Result, Ok, Err}
use Rattle.rtcp.specs.Datagram.{entry_at, entry_end, opened, Reading, refused, entries, joined, followed, entries_from, within, packets, counted}
use Rattle.rtcp.specs.code.Equations.{entries_done, entries_lacking, entries_next, packets_done, packets_refused, packets_over, packets_within}
use Rattle.rtcp.specs.declared.Fault.TheVariants.{Entry as LacksEntry}
use Rattle.rtcp.specs.declared.Refusal.{Refusal}
use Rattle.rtcp.specs.declared.Entry.{Entry}
use Rattle.rtcp.specs.declared.cursor.Cursor.{Cursor}
use Rattle.rtcp.specs.declared.datagram.Opened.TheVariants.{Over, Within}

-- ---- what an answer says of the reading

pub entries_of_lem : (r : Reading) (n : ℕ) → counted r ≡ Ok n → (es : List Entry) × (r ≡ entries es) × (length es ≡ n)
entries_of_lem (refused fault place) n e = let z : ◌≡◌ {A = ℕ} 0 1 = cc in absurd (omega arith)
entries_of_lem (entries es) n e = (es, refl, cc)

pub refusal_of : (r : Reading) (refusal : Refusal) → counted r ≡ Err refusal → r ≡ refused refusal.fault refusal.place
refusal_of (refused fault place) refusal e =
    let same : record { fault = fault; place = place } ≡ refusal = cc in
    ap (λ (x : Refusal). refused x.fault x.place) same
refusal_of (entries es) refusal e = let z : ◌≡◌ {A = ℕ} 0 1 = cc in absurd (omega arith)

-- ---- a count that goes on

-- the answer where n entries were passed before
abbrev pub counted_from : ℕ → Reading → Result ℕ Refusal
counted_from n (refused fault place) = Err (record { fault = fault; place = place })
counted_from n (entries es) = Ok (n + length es)

pub counted_none : (r : Reading) → counted_from 0 r ≡ counted r
counted_none (refused fault place) = refl
counted_none (entries es) = rw zero-add

counted_more : (n : ℕ) (es : List Entry) (r : Reading) → counted_from n (joined es r) ≡ counted_from (n + length es) r
counted_more n es (refused fault place) = refl
counted_more n es (entries fs) = rw (length-append, add_assoc)

-- ---- the entries of a packet

module _ (d : List ℕ) (sender end place n : ℕ) where
  pub entries_counted : end ≤ place → counted_from n (entries_from d sender end place) ≡ Ok n
  entries_counted h = ap (counted_from n) (entries_done d sender end place h) ∙ ap Ok (add-zero n)

  pub entry_lacks : place < end → entry_end d place end ≡ None
      → counted_from n (entries_from d sender end place) ≡ Err (record { fault = LacksEntry; place = place })
  entry_lacks h e = ap (counted_from n) (entries_lacking d sender end place h e)

  pub entry_counts : (next : ℕ) → place < end → entry_end d place end ≡ Some next
      → counted_from n (entries_from d sender end place) ≡ counted_from (n + 1) (entries_from d sender end next)
  entry_counts next h e =
      ap (counted_from n) (entries_next d sender end place next h e)
      ∙ counted_more n (entry_at d sender place ∷ []) (entries_from d sender end next)

-- ---- the packets of a datagram

module _ (d : List ℕ) (at n : ℕ) where
  pub packets_counted : length d ≤ at → counted_from n (packets d at) ≡ Ok n
  packets_counted h = ap (counted_from n) (packets_done d at h) ∙ ap Ok (add-zero n)

  pub packet_refused : (refusal : Refusal) → at < length d → opened d at ≡ Err refusal → counted_from n (packets d at) ≡ Err refusal
  packet_refused refusal h e = ap (counted_from n) (packets_refused d at refusal h e)

  pub packet_over : (next : ℕ) → at < length d → opened d at ≡ Ok (Over next) → counted_from n (packets d at) ≡ counted_from n (packets d next)
  packet_over next h e = ap (counted_from n) (packets_over d at next h e)

  pub packet_lacks : (c : Cursor) (refusal : Refusal) → at < length d → opened d at ≡ Ok (Within c) → counted (within d c) ≡ Err refusal
      → counted_from n (packets d at) ≡ Err refusal
  packet_lacks c refusal h e lacks =
      ap (counted_from n) (packets_within d at c h e)
      ∙ ap (λ (r : Reading). counted_from n (followed r (packets d c.next))) (refusal_of (within d c) refusal lacks)

  pub packet_counts : (c : Cursor) (m : ℕ) → at < length d → opened d at ≡ Ok (Within c) → counted (within d c) ≡ Ok m
      → counted_from n (packets d at) ≡ counted_from (n + m) (packets d c.next)
  packet_counts c m h e has =
      let p = entries_of_lem (within d c) m has in
      ap (counted_from n) (packets_within d at c h e)
      ∙ ap (λ (r : Reading). counted_from n (followed r (packets d c.next))) p.1
      ∙ counted_more n p.0 (packets d c.next)
      ∙ ap (λ (k : ℕ). counted_from (n + k) (packets d c.next)) p.2
