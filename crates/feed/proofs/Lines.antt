-- The input fed byte by byte prints what document 01 says of its lines, from an unused table and whatever the lent bytes of the line and the lent buffers held
-- before.
-- Assumes nothing.
use Rattle.std.proofs.Common.{Bool, true, false, cond, List, [], ◌∷◌, ◌++◌, append_assoc, ◌≡◌, refl, ap, sym, ◌∙◌, ℕ, ◌+◌, min, lt_of_not-le, add-one, arith, lt-ltb, le-ltb, eq-eqb, ne_eqb, eqb, ltb, length, take, set, length-append, length-take, length-set, take_all, take-suc-set}
use Rattle.std.proofs.Math.Decide.{dec_le}
use Rattle.std.proofs.lemmas.List.{take-append-le}
use Rattle.lines.specs.Gather.{most_held}
use Rattle.lines.specs.Hex.{printed}
use Rattle.lines.proofs.Bytes.{hex_long}
use Rattle.frames.specs.Serve.{Table}
use Rattle.frames.specs.Whole.{digits_served, line_served, Buffers}
use Rattle.feed.specs.Feed.{State, unfinished, Feeding, kept, answered, fed_byte, fed_whole}
use Rattle.feed.specs.Lines.{lines_after, answers_to, unused_table, program_output}

-- one byte over 3,100 is as good as all of them
line_cut : (line : List ℕ) (t : Table) → line_served (take most_held line) t ≡ line_served line t
unfolding line_served digits_served
line_cut line t =
    elim (dec_le (length line) most_held) [
      | yes h ↦ rw (take_all most_held line h)
      | no h ↦
          let over = lt_of_not-le h in
          rw (hex_long line (omega arith), hex_long (take most_held line) (simp length-take (omega arith)))
    ]

-- the state holds a line that has begun
record Begun (now : State) (line : List ℕ) : Type 0 where
  long : length now.line ≡ most_held
  held : now.held ≡ min (length line) most_held
  bytes : unfinished now ≡ take most_held line

begun_none : (line : List ℕ) (t : Table) (lent : Buffers) → length line ≡ most_held → Begun (record { held = 0; line = line; table = t; buffers = lent }) []
begun_none line t lent long = record { long = long; held = refl; bytes = refl }

begun_more : (now : State) (line : List ℕ) (b : ℕ) → Begun now line → Begun (kept now b) (line ++ (b ∷ []))
begun_more now line b begun =
    let held = begun.held in
    let long = begun.long in
    let more : length (line ++ (b ∷ [])) ≡ length line + 1 = length-append line (b ∷ []) in
    elim (dec_le most_held (length line)) [
      | yes h ↦
          rw (le-ltb now.held most_held (omega arith))
          (record { long = begun.long; held = omega arith; bytes = begun.bytes ∙ sym (take-append-le most_held line (b ∷ []) h) })
      | no h ↦
          let short = lt_of_not-le h in
          let all : take most_held line ≡ line = take_all most_held line (omega arith) in
          rw (lt-ltb now.held most_held (omega arith))
          (record {
            long = rw length-set begun.long;
            held = omega arith;
            bytes =
                rw (add-one now.held, take-suc-set now.line now.held b (omega arith), begun.bytes, all)
                (sym (take_all most_held (line ++ (b ∷ [])) (omega arith)));
          })
    ]

same_answer : (now : State) (line : List ℕ) → Begun now line → line_served (unfinished now) now.table ≡ line_served line now.table
same_answer now line begun = rw begun.bytes (line_cut line now.table)

kept_table : (now : State) (b : ℕ) → (kept now b).table ≡ now.table
kept_table now b = go (ltb now.held most_held)
  where
    go : (room : Bool)
        → (cond room (record { held = now.held + 1; line = set now.line now.held b; table = now.table; buffers = now.buffers }) now).table ≡ now.table
    go true = refl
    go false = refl

module _ (now : State) (b : ℕ) where
  byte_ends : eqb b 10 ≡ true → fed_byte now b ≡ answered now (line_served (unfinished now) now.table)
  unfolding fed_byte
  byte_ends e = rw e

  byte_kept : eqb b 10 ≡ false → fed_byte now b ≡ record { state = kept now b; output = [] }
  unfolding fed_byte
  byte_kept e = rw e

module _ (line : List ℕ) (b : ℕ) (input : List ℕ) where
  line_ends : eqb b 10 ≡ true → lines_after line (b ∷ input) ≡ line ∷ lines_after [] input
  line_ends e = rw e

  line_goes_on : eqb b 10 ≡ false → lines_after line (b ∷ input) ≡ lines_after (line ++ (b ∷ [])) input
  line_goes_on e = rw e

-- one byte more of the input, where the rest is right
whole_more : (b : ℕ) (input : List ℕ)
    → ((next : State) (line : List ℕ) → Begun next line → fed_whole next input ≡ answers_to next.table (lines_after line input))
    → (now : State) (line : List ℕ) → Begun now line → fed_whole now (b ∷ input) ≡ answers_to now.table (lines_after line (b ∷ input))
whole_more b input rest now line begun = go (eqb b 10) refl
  where
    first : fed_whole now (b ∷ input) ≡ (fed_byte now b).output ++ fed_whole (fed_byte now b).state input
    first = append_assoc (fed_byte now b).output _ _

    go : (feed : Bool) → eqb b 10 ≡ feed → fed_whole now (b ∷ input) ≡ answers_to now.table (lines_after line (b ∷ input))
    go true e =
        first
        ∙ ap (λ (f : Feeding). f.output ++ fed_whole f.state input) (byte_ends now b e ∙ ap (answered now) (same_answer now line begun))
        ∙ ap (λ (l : List ℕ). printed (line_served line now.table).answer ++ l)
        (rest (answered now (line_served line now.table)).state [] (begun_none now.line _ _ begun.long))
        ∙ ap (answers_to now.table) (sym (line_ends line b input e))
    go false e =
        first
        ∙ ap (λ (f : Feeding). f.output ++ fed_whole f.state input) (byte_kept now b e)
        ∙ rest (kept now b) (line ++ (b ∷ [])) (begun_more now line b begun)
        ∙ ap (λ (t : Table). answers_to t (lines_after (line ++ (b ∷ [])) input)) (kept_table now b)
        ∙ ap (answers_to now.table) (sym (line_goes_on line b input e))

whole_from : (now : State) (line input : List ℕ) → Begun now line → fed_whole now input ≡ answers_to now.table (lines_after line input)
unfolding fed_byte
whole_from now line [] begun =
    let held = begun.held in
    elim (dec_le (length line) 0) [
      | yes h ↦ rw (eq-eqb now.held 0 (omega arith), eq-eqb (length line) 0 (omega arith))
      | no h ↦
          let some = lt_of_not-le h in
          rw (ne_eqb now.held 0 (λ e. absurd (omega arith)), ne_eqb (length line) 0 (λ e. absurd (omega arith)), same_answer now line begun)
    ]
whole_from now line (b ∷ input) begun = whole_more b input (λ next l g. whole_from next l input g) now line begun

pub program_output_lem : (line : List ℕ) (lent : Buffers) (input : List ℕ) → length line ≡ most_held
    → fed_whole (record { held = 0; line = line; table = unused_table; buffers = lent }) input ≡ program_output input
program_output_lem line lent input long = whole_from _ [] input (begun_none line unused_table lent long)
