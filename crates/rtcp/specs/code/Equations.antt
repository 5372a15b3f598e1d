-- The equations of `entries_from`, `packets` and `sought`: what they are at a place, with no count in sight. They hold since a
-- packet ends past its header and an entry past its head.
use Rattle.std.specs.Prelude.{◌≡◌, Bool, not, ◌||◌, List, [], ◌∷◌, ℕ, ◌+◌, ◌-◌, ◌*◌, ◌%◌, ◌<◌, ◌≤◌, length, eqb, Option, Some, None, Result, Ok, Err}
use Rattle.std.proofs.Math.Path.{refl, subst}
use Rattle.std.proofs.Math.Bool.{true, false}
use Rattle.std.proofs.Common.{arith}
use borrow.Author.Tests.{ltb-false, eqb-false, lt-ltb, le-ltb, ne_eqb}
use Rattle.rtcp.specs.Number.{four}
use Rattle.rtcp.specs.Pick.{pick, pick_cases}
use Rattle.rtcp.specs.Walk.{Onward, walk_step, walk_done}
use Rattle.rtcp.specs.Datagram.{most_bytes, header, sources, entry_head, word, words, size_of, pad_count, bad_count, entry_at, entry_end, refuse_if, contents, padded, opened, Reading, refused, entries, joined, followed, ended, entry_turn, entries_from, within, judged, packet_turn, packets, reading}
use Rattle.rtcp.specs.code.Cursor.{found, seek_turn, sought}
use Rattle.rtcp.specs.declared.Fault.{Fault}
use Rattle.rtcp.specs.declared.Fault.TheVariants.{TooLong, Short, Entry as LacksEntry}
use Rattle.rtcp.specs.declared.Refusal.{Refusal}
use Rattle.rtcp.specs.declared.Entry.{Entry}
use Rattle.rtcp.specs.declared.cursor.Cursor.{Cursor}
use Rattle.rtcp.specs.declared.datagram.Opened.{Opened}
use Rattle.rtcp.specs.declared.datagram.Opened.TheVariants.{Over, Within}

-- where a packet with entries lies: its first entry after the header and the two SSRCs, its end before the next packet
pub record Lies (d : List ℕ) (at : ℕ) (c : Cursor) : Type 0 where
  pub first : c.place ≡ at + header + sources
  pub some : c.place < c.end
  pub before : c.end ≤ c.next
  pub inside : c.next ≤ length d
  pub from : c.sender ≡ four d (at + header)

-- where what `opened` finds lies
Found : List ℕ → ℕ → Result Opened Refusal → Type 0
Found d at (Err refusal) = refusal.place ≡ at
Found d at (Ok (Over next)) = (at < next) × (next ≤ length d)
Found d at (Ok (Within c)) = Lies d at c

or_right : (a b : Bool) → (a || b) ≡ false → b ≡ false
or_right true b e = cc
or_right false b e = e

module _ (d : List ℕ) (at : ℕ) where
  refuse_cases : (b : Bool) (fault : Fault) (o : Result Opened Refusal) → (b ≡ false → Found d at o) → Found d at (refuse_if b fault at o)
  unfolding Found refuse_if
  refuse_cases true fault o f = refl
  refuse_cases false fault o f = f refl

  over_found : (next : ℕ) → at < next → next ≤ length d → Found d at (Ok (Over next))
  unfolding Found
  over_found next h k = (h, k)

  within_found : (c : Cursor) → Lies d at c → Found d at (Ok (Within c))
  unfolding Found
  within_found c h = h

  contents_found : (size padding : ℕ) → header + padding ≤ size → at + size ≤ length d → Found d at (contents d at size padding)
  unfolding contents
  contents_found size padding h k =
      pick_cases (Found d at)
      (λ _. refuse_cases _ _ _ (λ some. refuse_cases _ _ _ (λ more.
      within_found _ (record { first = refl; some = omega (arith, ltb-false, eqb-false); before = omega arith; inside = k; from = refl }))))
      (λ _. over_found _ (omega arith) k)

  count_fits : (size count : ℕ) → bad_count size count ≡ false → count ≤ size - header
  count_fits size count e =
      ltb-false _ _ (or_right (not (eqb (count % word) 0)) _ (or_right (eqb count 0) _ e))

  padded_found : (size : ℕ) → header ≤ size → at + size ≤ length d → Found d at (padded d at size)
  unfolding padded
  padded_found size h k =
      refuse_cases _ _ _ (λ _. refuse_cases _ _ _ (λ right.
      contents_found size (pad_count d at size) (omega (arith, count_fits size (pad_count d at size) right)) k))

  opened_found : Found d at (opened d at)
  unfolding opened
  opened_found =
      refuse_cases _ _ _ (λ short. refuse_cases _ _ _ (λ _. refuse_cases _ _ _ (λ over.
      pick_cases (Found d at)
      (λ _. contents_found (size_of d at) 0 (omega arith) (omega (arith, ltb-false)))
      (λ _. padded_found (size_of d at) (omega arith) (omega (arith, ltb-false))))))

  pub opened_over : (next : ℕ) → opened d at ≡ Ok (Over next) → (at < next) × (next ≤ length d)
  unfolding Found
  opened_over next e = subst (Found d at) e opened_found

  pub opened_within : (c : Cursor) → opened d at ≡ Ok (Within c) → Lies d at c
  unfolding Found
  opened_within c e = subst (Found d at) e opened_found

  judged_onward : (o : Result Opened Refusal) → Found d at o → (f g : ℕ → Reading) → ((next : ℕ) → at < next → f next ≡ g next) → judged d o f ≡ judged d o g
  unfolding Found
  judged_onward (Err refusal) h f g e = refl
  judged_onward (Ok (Over next)) h f g e = e next h.0
  judged_onward (Ok (Within c)) h f g e = rw (e c.next (omega (arith, h.first, h.some, h.before)))

  found_onward : (o : Result Opened Refusal) → Found d at o → (f g : ℕ → Option (Entry × Cursor)) → ((next : ℕ) → at < next → f next ≡ g next) → found d o f ≡ found d o g
  unfolding Found
  found_onward (Err refusal) h f g e = refl
  found_onward (Ok (Over next)) h f g e = e next h.0
  found_onward (Ok (Within c)) h f g e = refl

-- an entry ends past its head, before the end of its packet's entries
Ending : List ℕ → ℕ → ℕ → Option ℕ → Type 0
Ending d place end None = Unit
Ending d place end (Some next) = (next ≡ place + (entry_head + word * words d place)) × (next ≤ end)

module _ (d : List ℕ) (end place : ℕ) where
  lacking : Ending d place end None
  unfolding Ending
  lacking = tt

  at : (next : ℕ) → next ≡ place + (entry_head + word * words d place) → next ≤ end → Ending d place end (Some next)
  unfolding Ending
  at next e h = (e, h)

  entry_ending : Ending d place end (entry_end d place end)
  unfolding entry_end
  entry_ending =
      pick_cases (Ending d place end) (λ _. lacking)
      (λ head. pick_cases (Ending d place end) (λ _. lacking) (λ whole. at _ refl (omega (arith, ltb-false))))

  pub ends_at : (next : ℕ) → entry_end d place end ≡ Some next → (next ≡ place + (entry_head + word * words d place)) × (next ≤ end)
  unfolding Ending
  ends_at next e = subst (Ending d place end) e entry_ending

  ended_onward : (e : Entry) (o : Option ℕ) → Ending d place end o → (f g : ℕ → Reading) → ((next : ℕ) → place < next → f next ≡ g next)
      → ended e o f ≡ ended e o g
  unfolding Ending
  ended_onward e None h f g same = refl
  ended_onward e (Some next) h f g same = rw (same next (omega (arith, h.0)))

-- ---- the entries of a packet

module _ (d : List ℕ) (sender end : ℕ) where
  entry_onward : Onward (entry_turn d sender end)
  entry_onward place f g same = ended_onward d end place (entry_at d sender place) (entry_end d place end) (entry_ending d end place) f g same

  pub entries_done : (place : ℕ) → end ≤ place → entries_from d sender end place ≡ entries []
  unfolding entries_from
  entries_done place h = walk_done (entry_turn d sender end) (entries []) end place h

  pub entries_step : (place : ℕ) → place < end
      → entries_from d sender end place ≡ ended (entry_at d sender place) (entry_end d place end) (entries_from d sender end)
  unfolding entries_from
  entries_step place h = walk_step (entry_turn d sender end) (entries []) end entry_onward place h

  pub entries_lacking : (place : ℕ) → place < end → entry_end d place end ≡ None → entries_from d sender end place ≡ refused LacksEntry place
  entries_lacking place h e = rw (entries_step place h, e)

  pub entries_next : (place next : ℕ) → place < end → entry_end d place end ≡ Some next
      → entries_from d sender end place ≡ joined (entry_at d sender place ∷ []) (entries_from d sender end next)
  entries_next place next h e = rw (entries_step place h, e)

-- ---- the packets of a datagram

module _ (d : List ℕ) where
  packet_onward : Onward (packet_turn d)
  packet_onward at f g same = judged_onward d at (opened d at) (opened_found d at) f g same

  pub packets_done : (at : ℕ) → length d ≤ at → packets d at ≡ entries []
  unfolding packets
  packets_done at h = walk_done (packet_turn d) (entries []) (length d) at h

  pub packets_step : (at : ℕ) → at < length d → packets d at ≡ judged d (opened d at) (packets d)
  unfolding packets
  packets_step at h = walk_step (packet_turn d) (entries []) (length d) packet_onward at h

  pub packets_refused : (at : ℕ) (refusal : Refusal) → at < length d → opened d at ≡ Err refusal
      → packets d at ≡ refused refusal.fault refusal.place
  packets_refused at refusal h e = rw (packets_step at h, e)

  pub packets_over : (at next : ℕ) → at < length d → opened d at ≡ Ok (Over next) → packets d at ≡ packets d next
  packets_over at next h e = rw (packets_step at h, e)

  pub packets_within : (at : ℕ) (c : Cursor) → at < length d → opened d at ≡ Ok (Within c)
      → packets d at ≡ followed (within d c) (packets d c.next)
  packets_within at c h e = rw (packets_step at h, e)

-- ---- the first entry of the packets

module _ (d : List ℕ) where
  seek_onward : Onward (seek_turn d)
  seek_onward at f g same = found_onward d at (opened d at) (opened_found d at) f g same

  pub sought_done : (at : ℕ) → length d ≤ at → sought d at ≡ None
  unfolding sought
  sought_done at h = walk_done (seek_turn d) None (length d) at h

  pub sought_step : (at : ℕ) → at < length d → sought d at ≡ found d (opened d at) (sought d)
  unfolding sought
  sought_step at h = walk_step (seek_turn d) None (length d) seek_onward at h

-- ---- a datagram

module _ (d : List ℕ) where
  pub reading_long : most_bytes < length d → reading d ≡ refused TooLong 0
  unfolding reading pick
  reading_long h = rw (lt-ltb most_bytes (length d) h)

  pub reading_empty : length d ≡ 0 → reading d ≡ refused Short 0
  unfolding reading pick
  reading_empty e = rw e

  pub reading_packets : 0 < length d → length d ≤ most_bytes → reading d ≡ packets d 0
  unfolding reading pick
  reading_packets some h = rw (le-ltb most_bytes (length d) h, ne_eqb (length d) 0 (omega arith))
