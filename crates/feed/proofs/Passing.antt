-- Where a piece of the input ends does not matter: pieces fed one after the other are the whole fed at once.
-- Assumes nothing.
use Rattle.std.proofs.Common.{Bool, true, false, cond, ◌&&◌, List, [], ◌∷◌, ◌++◌, append-nil, append_assoc, ◌≡◌, refl, ap, sym, subst, ◌∙◌, ℕ, suc, ◌+◌, ◌-◌, ◌≤◌, ◌<◌, zero-add, add-zero, add_assoc, lt_of_not-le, add-one, arith, lt-ltb, le-ltb, le-leb, ltb-true, leb-true, leb-false, eqb, ltb, leb, length, get_or, take, drop, length-append, length-drop, drop_of_length-le, take-add, drop-drop, drop-cons, get_or-drop}
use Rattle.std.proofs.Math.Decide.{dec_le}
use Rattle.std.proofs.Math.Nat.{sub-zero}
use Rattle.std.proofs.Math.Nat.{sub-add-eq}
use Rattle.std.proofs.lemmas.List.Edits.{sets}
use Rattle.std.proofs.Math.Seq.{length-sets}
use Rattle.rtcp.proofs.Both.{both_true}
use Rattle.lines.specs.Gather.{most_held, in_line, fitting, Gathering, gathering}
use Rattle.lines.specs.Hex.{printed}
use Rattle.lines.specs.declared.gather.Gathered.{Gathered}
use Rattle.lines.proofs.Gathering.{in_line_stops}
use Rattle.rtcp.proofs.Sets.{sets_append}
use Rattle.frames.specs.Serve.{Table}
use Rattle.frames.specs.Whole.{line_served, Buffers, buffers_after, longest, Answering, answer_printed, answering}
use Rattle.feed.specs.Feed.{State, Feeding, kept, fed_byte, fed, taken, Feeds}
use Rattle.feed.specs.code.Passing.{Passes, LineFeeds}
use Rattle.feed.specs.declared.Fed.{Fed}

-- one piece of the input and then the next are the two at once
pub fed_append : (now : State) (a b : List ℕ)
    → fed now (a ++ b) ≡ record { state = (fed (fed now a).state b).state; output = (fed now a).output ++ (fed (fed now a).state b).output }
fed_append now [] b = refl
fed_append now (x ∷ a) b =
    let rest = fed_append (fed_byte now x).state a b in
    rw (rest, append_assoc (fed_byte now x).output (fed (fed_byte now x).state a).output (fed (fed (fed_byte now x).state a).state b).output)

-- ---- what is fed and what is taken, piece by piece

pub passes_none : (room : ℕ) (now : State) (bytes : List ℕ) → Passes room now bytes 0 now []
passes_none room now bytes = record { feeding = refl; taking = rw (zero-add, sub-zero) }

module _ (room : ℕ) (a b c : State) (bytes : List ℕ) (k m : ℕ) (o p : List ℕ) where
  pub passes_then : Passes room a bytes k b o → Passes (room - length o) b (drop k bytes) m c p → Passes room a bytes (k + m) c (o ++ p)
  passes_then one two = record {
    feeding = ap (fed a) (take-add k m bytes) ∙ fed_append a (take k bytes) (take m (drop k bytes)) ∙ rw (one.feeding, two.feeding);
    taking =
        one.taking ∙ rw two.taking
        (rw (length-append o p, sub-add-eq room (length o) (length p), add_assoc k m, drop-drop m k bytes));
  }

-- pieces of one input, from place to place
module _ (input : List ℕ) (from middle end : ℕ) (one : from ≤ middle) (two : middle ≤ end) where
  pub rest_is : drop (middle - from) (drop from input) ≡ drop middle input
  rest_is =
      let e : from + (middle - from) ≡ middle = omega arith in
      drop-drop (middle - from) from input ∙ ap (λ (n : ℕ). drop n input) e

  pub passes_from : (room : ℕ) (a b c : State) (o p : List ℕ)
      → Passes room a (drop from input) (middle - from) b o → Passes (room - length o) b (drop middle input) (end - middle) c p
      → Passes room a (drop from input) (end - from) c (o ++ p)
  passes_from room a b c o p first second =
      let e : (middle - from) + (end - middle) ≡ end - from = omega arith in
      subst (λ (n : ℕ). Passes room a (drop from input) n c (o ++ p)) e
      (passes_then room a b c (drop from input) (middle - from) (end - middle) o p first (rw rest_is second))

-- one byte of the input
module _ (room : ℕ) (now : State) (input : List ℕ) (at : ℕ) (inside : at < length input) (roomy : longest ≤ room) where
  pub passes_byte : Passes room now (drop at input) (at + 1 - at) (fed_byte now (get_or input at 0)).state (fed_byte now (get_or input at 0)).output
  passes_byte =
      let one : at + 1 - at ≡ 1 = omega arith in
      rw (one, drop-cons input at 0 inside)
      (record { feeding = rw append-nil; taking = rw (le-ltb room longest roomy) (omega arith) })

-- ---- a line, as far as the input has it

-- so many of the bytes after those that are held, as far as they fit
abbrev some_kept : State → ℕ → List ℕ → State
some_kept now n bytes =
    record {
      held = now.held + fitting now.held n;
      line = sets now.line now.held (take (fitting now.held n) bytes);
      table = now.table;
      buffers = now.buffers;
    }

none_kept : (now : State) (bytes : List ℕ) → some_kept now 0 bytes ≡ now
none_kept now bytes =
    let none : fitting now.held 0 ≡ 0 = omega arith in
    rw (none, add-zero)

-- one byte, and then the others
one_kept : (now : State) (b n : ℕ) (bytes : List ℕ) → some_kept (kept now b) n bytes ≡ some_kept now (suc n) (b ∷ bytes)
one_kept now b n bytes =
    elim (dec_le most_held now.held) [
      | yes full ↦
          let none : fitting now.held n ≡ 0 = omega arith in
          let still : fitting now.held (suc n) ≡ 0 = omega arith in
          rw (le-ltb now.held most_held full, none, still)
      | no short ↦
          let room = lt_of_not-le short in
          let one : fitting now.held (suc n) ≡ suc (fitting (now.held + 1) n) = omega arith in
          let held : now.held + 1 + fitting (now.held + 1) n ≡ now.held + suc (fitting (now.held + 1) n) = omega arith in
          rw (lt-ltb now.held most_held room, one, held, add-one now.held)
    ]

module _ (room : ℕ) (roomy : longest ≤ room) where
  passes_kept : (now : State) (b n : ℕ) (bytes : List ℕ) → eqb b 10 ≡ false → Passes room (kept now b) bytes n (some_kept (kept now b) n bytes) []
      → Passes room now (b ∷ bytes) (suc n) (some_kept now (suc n) (b ∷ bytes)) []
  unfolding fed_byte
  passes_kept now b n bytes other rest = record {
    feeding = rw other (rest.feeding ∙ ap (λ (s : State). record { state = s; output = [] }) (one_kept now b n bytes));
    taking =
        rw (le-ltb room longest roomy, other)
        (one ∙ ap (λ (s : State). suc n + taken (room - 0) s (drop n bytes)) (one_kept now b n bytes));
  }
    where
      one : suc (taken (room - 0) (kept now b) bytes) ≡ suc n + taken (room - 0) (some_kept (kept now b) n bytes) (drop n bytes)
      one = let e = rw (sub-zero room) at rest.taking in rw (sub-zero room) (omega arith)

  -- the bytes up to a line feed are kept, and nothing is printed
  passes_line : (bytes : List ℕ) (now : State) → Passes room now bytes (in_line bytes) (some_kept now (in_line bytes) bytes) []
  passes_line [] now = subst (λ (s : State). Passes room now [] 0 s []) (sym (none_kept now [])) (passes_none room now [])
  passes_line (b ∷ bs) now = go (eqb b 10) refl (passes_line bs (kept now b))
    where
      go : (feed : Bool) → eqb b 10 ≡ feed → Passes room (kept now b) bs (in_line bs) (some_kept (kept now b) (in_line bs) bs) []
          → Passes room now (b ∷ bs) (cond feed 0 (suc (in_line bs))) (some_kept now (cond feed 0 (suc (in_line bs))) (b ∷ bs)) []
      go true e rest = subst (λ (s : State). Passes room now (b ∷ bs) 0 s []) (sym (none_kept now (b ∷ bs))) (passes_none room now (b ∷ bs))
      go false e rest = passes_kept now b (in_line bs) bs e rest

-- what was gathered of a line
module _ (t : Table) (lent : Buffers) (line input : List ℕ) (held at : ℕ) (now : Gathered) (after : List ℕ)
    (gathered : gathering line held input at ≡ record { held = now.held; at = now.at; line = after }) where
  place : now.at ≡ at + in_line (drop at input)
  unfolding gathering
  place = sym (ap (λ (g : Gathering). g.at) gathered)

  pub gathered_passes : (room : ℕ) → longest ≤ room
      → Passes room (record { held = held; line = line; table = t; buffers = lent }) (drop at input) (now.at - at)
      (record { held = now.held; line = after; table = t; buffers = lent }) []
  unfolding gathering
  gathered_passes room roomy =
      let count : now.at - at ≡ in_line (drop at input) = omega (arith, place) in
      rw (count, ← ap (λ (g : Gathering). g.held) gathered, ← ap (λ (g : Gathering). g.line) gathered)
      (passes_line room roomy (drop at input) (record { held = held; line = line; table = t; buffers = lent }))

  pub gathered_stops : now.at < length input → get_or input now.at 0 ≡ 10
  gathered_stops more =
      rw (place, ← get_or-drop at input (in_line (drop at input)) 0)
      (in_line_stops (drop at input) (rw length-drop (omega (arith, place))))

pub going_true : (at end room : ℕ) → (ltb at end && leb longest room) ≡ true → (at < end) × (longest ≤ room)
going_true at end room e =
    let both = both_true (ltb at end) (leb longest room) e in
    (ltb-true at end both.0, leb-true longest room both.1)

-- ---- a line that ends in a line feed, and one that the input ends in

module _ (t : Table) (lent : Buffers) (line input out : List ℕ) (fed : Fed) (now : Gathered) (after : List ℕ)
    (gathered : gathering line fed.held input fed.at ≡ record { held = now.held; at = now.at; line = after })
    (onward : fed.at ≤ now.at) (roomy : fed.written + longest ≤ length out) where
  module _ (r : ℕ) (rows : Table) (left : Buffers) (written : List ℕ)
      (answers : answering (take now.held after) t lent out fed.written ≡ record { table = rows; next = r; output = written; buffers = left }) where
    answer_is : answer_printed (line_served (take now.held after) t) (buffers_after (take now.held after) t lent) out fed.written
        ≡ record { table = rows; next = r; output = written; buffers = left }
    unfolding answering
    answer_is = rw (le-leb (fed.written + longest) (length out) roomy) at answers

    pub line_answered : now.at < length input → r ≤ fed.written + longest
        → LineFeeds (record { held = fed.held; line = line; table = t; buffers = lent }) input out fed (record { held = 0; at = now.at + 1; written = r })
        (record { held = 0; line = after; table = rows; buffers = left }) written
    unfolding fed_byte
    line_answered more short =
        let room : longest ≤ length out - fed.written = omega arith in
        let ends = gathered_stops t lent line input fed.held fed.at now after gathered more in
        let byte = passes_byte (length out - fed.written) (record { held = now.held; line = after; table = t; buffers = lent }) input now.at more room in
        record {
          answer = printed (line_served (take now.held after) t).answer;
          onward = omega arith;
          passes =
              passes_from input fed.at now.at (now.at + 1) onward (omega arith) (length out - fed.written) _ _ _ [] _
              (gathered_passes t lent line input fed.held fed.at now after gathered (length out - fed.written) room)
              (rw (sub-zero, ← ap (λ (a : Answering). a.table) answer_is, ← ap (λ (a : Answering). a.buffers) answer_is) (rw ends at byte));
          next = sym (ap (λ (a : Answering). a.next) answer_is);
          output = sym (ap (λ (a : Answering). a.output) answer_is);
          fits = omega arith;
        }

  pub line_held : fed.at < length input → length input ≤ now.at
      → LineFeeds (record { held = fed.held; line = line; table = t; buffers = lent }) input out fed (record { held = now.held; at = now.at; written = fed.written })
      (record { held = now.held; line = after; table = t; buffers = lent }) out
  line_held more done = record {
    answer = [];
    onward = omega arith;
    passes = gathered_passes t lent line input fed.held fed.at now after gathered (length out - fed.written) (omega arith);
    next = sym (add-zero fed.written);
    output = refl;
    fits = omega arith;
  }

-- ---- line after line

-- what was fed so far, of the input from a place on
pub record Going (before : State) (input lent : List ℕ) (at : ℕ) (fed : Fed) (after : State) (out : List ℕ) : Type 0 where
  pub answers : List ℕ
  pub onward : at ≤ fed.at
  pub passes : Passes (length lent) before (drop at input) (fed.at - at) after answers
  pub next : fed.written ≡ length answers
  pub output : out ≡ sets lent 0 answers
  pub fits : fed.written ≤ length lent

module _ (before : State) (input lent : List ℕ) (at : ℕ) where
  pub going_first : Going before input lent at (record { held = before.held; at = at; written = 0 }) before lent
  going_first =
      let none : at - at ≡ 0 = omega arith in
      record {
        answers = [];
        onward = omega arith;
        passes = rw none (passes_none (length lent) before (drop at input));
        next = refl;
        output = refl;
        fits = omega arith;
      }

  module _ (fed : Fed) (after : State) (out : List ℕ) (g : Going before input lent at fed after out) where
    pub going_long : length out ≡ length lent
    going_long = ap length g.output ∙ length-sets lent 0 g.answers

    pub going_next : (then : Fed) (next : State) (written : List ℕ) → LineFeeds after input out fed then next written → Going before input lent at then next written
    going_next then next written l =
        let onward = g.onward in
        let further = l.onward in
        let room : length out - fed.written ≡ length lent - length g.answers = rw (going_long, g.next) in
        record {
          answers = g.answers ++ l.answer;
          onward = omega arith;
          passes =
              passes_from input at fed.at then.at g.onward (omega arith) (length lent) _ _ _ g.answers l.answer g.passes
              (rw room at l.passes);
          next = l.next ∙ rw (g.next, length-append g.answers l.answer);
          output =
              l.output ∙ rw (g.output, g.next) (sym (rw zero-add at (sets_append g.answers l.answer lent 0)));
          fits = rw going_long at l.fits;
        }

    none_taken : (room : ℕ) (now : State) (bytes : List ℕ) → room < longest → taken room now bytes ≡ 0
    none_taken room now [] h = refl
    none_taken room now (b ∷ bs) h = rw (lt-ltb room longest h)

    pub going_last : (ltb fed.at (length input) && leb longest (length out - fed.written)) ≡ false → Feeds before (drop at input) at lent fed after out
    going_last e = record {
      taking = let onward = g.onward in omega (arith, whole);
      state = rw whole (sym (ap (λ (f : Feeding). f.state) g.passes.feeding));
      count = rw (whole, g.passes.feeding) g.next;
      output = rw (whole, g.passes.feeding) g.output;
      fits = g.fits;
    }
      where
        left : taken (length lent - length g.answers) after (drop fed.at input) ≡ 0
        left =
            elim (dec_le (length input) fed.at) [
              | yes h ↦ rw (drop_of_length-le input h)
              | no h ↦
                  let full = leb-false longest (length out - fed.written) (rw (lt-ltb fed.at (length input) (lt_of_not-le h)) at e) in
                  let long = going_long in
                  let next = g.next in
                  none_taken (length lent - length g.answers) after (drop fed.at input) (omega arith)
            ]

        whole : taken (length lent) before (drop at input) ≡ fed.at - at
        whole = g.passes.taking ∙ rw (rest_is input at fed.at fed.at g.onward (omega arith), left, add-zero)
