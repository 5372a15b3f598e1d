-- What is read of an entry with no parameters, and of a packet of entries with no padding.
-- Assumes nothing.
use mathlib.Core.Bool.{true}
use mathlib.Core.Path.{◌≡◌, sym, ◌∙◌}
use mathlib.Core.List.{List, [], ◌∷◌}
use Prim.Native.Nat.{ℕ, zero, suc, ◌+◌, ◌*◌, ◌-◌, ◌<◌, ◌≤◌}
use native.Mathlib.Decide.{ℕ_discrete}
use native.Mathlib.Numerals.{add-one}
use native.Mathlib.Omega.{arith}
use borrow.Author.Tests.{le-ltb, ne_eqb, leb-true, eqb-true}
use lib.Dec.{eqb, leb}
use lib.ListN.{length}
use Rattle.std.specs.Prelude.{Some, Ok}
use Rattle.rtcp.specs.Number.{four}
use Rattle.rtcp.specs.Pick.{pick}
use Rattle.rtcp.specs.Datagram.{header, version, the_version, flag, fmt, packet_type, size_of, feedback, pause_resume, sources, entry_head, words, entry_at, entry_end, refuse_if, contents, opened, joined, followed, entries_from, packets, counted}
use Rattle.rtcp.specs.code.Plain.{is_plain, PassesPlain}
use Rattle.rtcp.specs.code.Equations.{entries_next, packets_within}
use Rattle.rtcp.specs.declared.datagram.Opened.TheVariants.{Within}
use Rattle.rtcp.proofs.Both.{both_true}
use Rattle.rtcp.proofs.Count.{counted_from, counted_none, entry_counts}

module _ (d : List ℕ) (sender end place : ℕ) (inside : place + entry_head ≤ end) (none : words d place ≡ 0) where
  pub plain_ends : entry_end d place end ≡ Some (place + entry_head)
  unfolding entry_end pick
  plain_ends = rw (none, le-ltb (end - place) entry_head (omega arith))

  pub plain_entry : entries_from d sender end place ≡ joined (entry_at d sender place ∷ []) (entries_from d sender end (place + entry_head))
  plain_entry = entries_next d sender end place (place + entry_head) (omega arith) plain_ends

-- so many in a row are counted as they are passed
plain_is : (d : List ℕ) (place end : ℕ) → is_plain d place end ≡ true → (place + entry_head ≤ end) × (words d place ≡ 0)
plain_is d place end e =
    let both = both_true (leb (place + entry_head) end) (eqb (words d place) 0) e in
    (leb-true (place + entry_head) end both.0, eqb-true (words d place) 0 both.1)

pub plain_counts : (d : List ℕ) (sender from end n : ℕ) → ((k : ℕ) → k < n → is_plain d (from + entry_head * k) end ≡ true)
    → counted_from n (entries_from d sender end (from + entry_head * n)) ≡ counted (entries_from d sender end from)
plain_counts d sender from end zero plain =
    let start : from + entry_head * 0 ≡ from = omega arith in
    rw start (counted_none (entries_from d sender end from))
plain_counts d sender from end (suc n) plain =
    let this = plain_is d (from + entry_head * n) end (plain n (omega arith)) in
    let next : from + entry_head * suc n ≡ from + entry_head * n + entry_head = omega arith in
    rw (next, ← add-one n)
    (sym (entry_counts d sender end (from + entry_head * n) n (from + entry_head * n + entry_head) (omega (arith, this.0)) (plain_ends d sender end (from + entry_head * n) this.0 this.1))
    ∙ plain_counts d sender from end n (λ k h. plain k (omega arith)))

-- ---- the loop that passes them

pub plain_first : (d : List ℕ) (from end : ℕ) → PassesPlain d from end (record { place = from; entries = 0 })
plain_first d from end = record { place = omega arith; plain = λ k h. absurd (omega arith) }

pub plain_next : (d : List ℕ) (from end place n : ℕ) → PassesPlain d from end (record { place = place; entries = n }) → is_plain d place end ≡ true
    → (place + entry_head ≤ end) × PassesPlain d from end (record { place = place + entry_head; entries = n + 1 })
plain_next d from end place n now e =
    let at = now.place in (
      (plain_is d place end e).0,
      record {
        place = omega arith;
        plain = λ k h.
            elim (ℕ_discrete k n) [
              | yes same ↦ rw (same, ← at) e
              | no other ↦ now.plain k (let apart = other in omega arith)
            ];
      },
    )

-- a packet of `size` bytes: what its header says
pub record Plain (d : List ℕ) (at size : ℕ) : Type 0 where
  pub right_version : version d at ≡ the_version
  pub unpadded : flag d at ≡ 0
  pub right_type : packet_type d at ≡ feedback
  pub right_fmt : fmt d at ≡ pause_resume
  pub long : size_of d at ≡ size
  pub inside : at + size ≤ length d
  pub some : header + sources < size

module _ (d : List ℕ) (at size : ℕ) (plain : Plain d at size) (sender place next : ℕ)
    (from : four d (at + header) ≡ sender) (first : at + header + sources ≡ place) (past : at + size ≡ next) where
  opens : opened d at ≡ Ok (Within (record { place = place; end = next; next = next; sender = sender }))
  unfolding opened contents refuse_if pick
  opens =
      let end : at + size - 0 ≡ next = omega (arith, past) in
      rw (
        le-ltb (length d - at) header (omega (arith, plain.inside, plain.some)),
        plain.right_version,
        plain.long,
        le-ltb (length d - at) size (omega (arith, plain.inside)),
        plain.unpadded,
        plain.right_type,
        plain.right_fmt,
        le-ltb (size - header - 0) sources (omega (arith, plain.some)),
        ne_eqb (size - header - 0) sources (omega (arith, plain.some)),
      )
      (λ j. Ok (Within (record { place = first j; end = end j; next = past j; sender = from j })))

  pub plain_packet : packets d at ≡ followed (entries_from d sender next place) (packets d next)
  plain_packet = packets_within d at _ (omega (arith, plain.inside, plain.some)) opens
