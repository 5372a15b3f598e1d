-- The run of a datagram's entries, turn by turn: what holds before entry k, for any way of keeping the records.
-- Assumes nothing.
use Rattle.std.proofs.Common.{◌≡◌, ℕ, ◌+◌, ◌*◌, ◌^◌, ◌<◌, ◌≤◌, cond, Option, Some, List, ◌++◌, length, get_or, take, sym, refl, ap, ◌∙◌, subst, mod-eq_of_lt, add-one, arith}
use Rattle.rtcp.specs.code.Cursor.{start, step_of, blank}
use Rattle.rtcp.specs.Datagram.{most_entries, reading}
use Rattle.rtcp.specs.declared.Entry.{Entry}
use Rattle.rtcp.specs.declared.cursor.Cursor.{Cursor}
use Rattle.stream.specs.declared.Outcome.{Outcome}
use Rattle.writer.specs.Writer.{packet_of_one}
use Rattle.rtcp.proofs.Bounds.{most_entries_lem}
use Rattle.sides.specs.Entries as entries
use Rattle.sides.specs.code.Counted.{Counted, entries_of}
use Rattle.sides.proofs.Entries.{turns_next}
use Rattle.sides.proofs.Standing.{Standing, standing_first, inside, stepped}
use Rattle.sides.specs.code.Places.{holder_at}
use Rattle.decide.specs.code.Decide.{taken}
use Rattle.sender.proofs.Replies.{reply_long}
use Rattle.sender.specs.Keeping.{Keeping}
use Rattle.sender.specs.Replies.{packets_of, over}
use Rattle.decide.specs.code.Turning.{Left, Through, Accepted, found, reply_of, unknown_of, packet_placed, entered, turned}
use Rattle.sender.specs.Serve.{streams, entered as enters, answers, request_of, length_of, listed, serve, Between, starts, turn, turns}
use Rattle.decide.specs.declared.datagram.Turning.{Turning}
use Rattle.decide.proofs.Entered.{taken_unknown, entered_is, length_few}
use Rattle.decide.proofs.Lengths.{turn_keeps}
use Rattle.decide.proofs.Written.{reply_placed}

-- before entry k: the cursor stands there, and what has run is the first k entries
pub record Before {A : Type 0} (K : Keeping A) (time : ℕ) (d : List ℕ) (t : List A) (buffer : List ℕ) (n k : ℕ) (now : Left A) : Type 0 where
  pub standing : Standing d n k now.at.cursor
  pub through : Through (turns K time (starts t) (take k (entries_of (reading d)))) buffer now.at now.table now.buffer
  pub few : now.at.written ≤ packet_of_one * k
  pub few_unknown : now.at.unknown ≤ k
  pub long : length now.table ≡ length t
  pub same : length now.buffer ≡ length buffer

abbrev pub first_turning : Turning
first_turning = record { cursor = start; written = 0; unknown = 0 }

abbrev pub first_left : {A : Type 0} → List A → List ℕ → Left A
first_left t buffer = record { at = first_turning; table = t; buffer = buffer }

ok : {d : List ℕ} {n size : ℕ} → (0 < n → Accepted d n size) → 0 < n → Counted d n
ok accepted some = (accepted some).counted

module _ {A : Type 0} (K : Keeping A) {time : ℕ} {d : List ℕ} {t : List A} {buffer : List ℕ} {n : ℕ} (accepted : 0 < n → Accepted d n (length buffer)) where
  pub before_first : Before K time d t buffer n 0 (first_left t buffer)
  unfolding over
  before_first =
      record {
        standing = standing_first d n (ok accepted);
        through = record { written = refl; unknown = refl; table = refl; buffer = refl };
        few = omega arith;
        few_unknown = omega arith;
        long = refl;
        same = refl;
      }

  module _ (k : ℕ) (now : Left A) (before : Before K time d t buffer n k now) where
    module _ (more : k < n) where
      -- what ran before, the entry, and what was decided on it
      prev : Between A
      prev = turns K time (starts t) (take k (entries_of (reading d)))

      e : Entry
      e = get_or (entries_of (reading d)) k blank

      decided : Option Outcome
      decided = taken (holder_at K now.table (found K now.table e.target)) e time

      within : k < length (entries_of (reading d))
      within = inside d n (ok accepted) k now.at.cursor before.standing more

      most : length (entries_of (reading d)) ≤ most_entries
      most = most_entries_lem d (entries_of (reading d)) (ok accepted (omega arith)).read

      here : (entered K time now e now.at.cursor).table ≡ (turn K time prev e).table
      unfolding prev entries.turn
      here =
          (entered_is K time now.table e).0
          ∙ ap (λ (l : List A). (serve K (request_of time e) l).table) before.through.table

      same_replies : listed (reply_of decided) ≡ (serve K (request_of time e) prev.table).replies
      unfolding prev decided
      same_replies = (entered_is K time now.table e).1 ∙ ap (λ (l : List A). (serve K (request_of time e) l).replies) before.through.table

      same_unknown : unknown_of decided ≡ cond (answers K prev.table e.target) 0 1
      unfolding prev decided
      same_unknown = (entered_is K time now.table e).2 ∙ ap (λ (l : List A). cond (answers K l e.target) 0 1) before.through.table

      room : length (packets_of prev.replies) + length_of (reply_of decided) ≤ length buffer
      unfolding prev
      room =
          let fits = (accepted (omega arith)).room in
          let one = length_few (reply_of decided) in
          let here = before.through.written in
          let few = before.few in
          omega arith

      -- no sum runs over
      small : now.at.written + length_of (reply_of decided) < 2 ^ 64
      small =
          let one = length_few (reply_of decided) in
          let few = before.few in
          omega (arith, within, most)

      small_unknown : now.at.unknown + unknown_of decided < 2 ^ 64
      unfolding decided
      small_unknown =
          let one = taken_unknown (taken (holder_at K now.table (found K now.table e.target)) e time) in
          let few = before.few_unknown in
          omega (arith, within, most)

      entered_through : (next : Cursor) → Through (turn K time prev e) buffer (entered K time now e next).at (entered K time now e next).table (entered K time now e next).buffer
      unfolding prev decided entries.turn
      entered_through next =
          record {
            written =
                mod-eq_of_lt small
                ∙ ap (λ (m : ℕ). m + length_of (reply_of decided)) before.through.written
                ∙ reply_long prev.replies (reply_of decided)
                ∙ ap (λ (l : List _). length (packets_of (prev.replies ++ l))) same_replies;
            unknown =
                mod-eq_of_lt small_unknown
                ∙ ap (λ (m : ℕ). m + unknown_of decided) before.through.unknown
                ∙ ap (λ (m : ℕ). prev.unknown + m) same_unknown;
            table = here;
            buffer =
                ap (λ (l : List ℕ). packet_placed l now.at.written (reply_of decided)) before.through.buffer
                ∙ ap (λ (m : ℕ). packet_placed (over (packets_of prev.replies) buffer) m (reply_of decided)) before.through.written
                ∙ reply_placed buffer prev.replies (reply_of decided) room
                ∙ ap (λ (l : List _). over (packets_of (prev.replies ++ l)) buffer) same_replies;
          }

      on : (next : Cursor) → Standing d n (k + 1) next → Before K time d t buffer n (k + 1) (entered K time now e next)
      unfolding prev decided e
      on next s =
          let keeps = turn_keeps K time now (Some (e, next)) in
          record {
            standing = s;
            through = rw (add-one k, turns_next streams enters K time (starts t) (entries_of (reading d)) k blank within) (entered_through next);
            few = let one = length_few (reply_of decided) in let few = before.few in rw (mod-eq_of_lt small) (omega arith);
            few_unknown =
                let one = taken_unknown (taken (holder_at K now.table (found K now.table e.target)) e time) in
                let few = before.few_unknown in
                rw (mod-eq_of_lt small_unknown) (omega arith);
            long = keeps.0 ∙ before.long;
            same = keeps.1 ∙ before.same;
          }

      -- one turn more, whatever it left
      pub before_next : (next : Left A) → turned K time now (step_of d now.at.cursor) ≡ next → Before K time d t buffer n (k + 1) next
      unfolding e
      before_next next left =
          let s = stepped d n (ok accepted) k now.at.cursor before.standing more in
          subst (Before K time d t buffer n (k + 1)) (sym (ap (turned K time now) s.1) ∙ left) (on s.0 s.2)

    -- after the last entry
    pub before_last : n ≤ k → Through (turns K time (starts t) (take n (entries_of (reading d)))) buffer now.at now.table now.buffer
    before_last done =
        let last : k ≡ n = omega (arith, before.standing.within) in
        subst (λ (m : ℕ). Through (turns K time (starts t) (take m (entries_of (reading d)))) buffer now.at now.table now.buffer) last before.through
