-- A whole line answered: from what was printed to the definition.
-- Assumes nothing.
use Rattle.std.proofs.Common.{List, ◌++◌, ◌≡◌, sym, ap, ◌∙◌, ℕ, ◌+◌, ◌≤◌, min, le-leb, arith, length, take, length-append, length-take}
use Rattle.std.proofs.lemmas.Grind.{common_steps}
use Rattle.sender.specs.Replies.{most_reply}
use Rattle.lines.specs.Hex.{digits_read, Printing, printed, printing}
use Rattle.lines.proofs.Printing.{length_printed}
use Rattle.frames.specs.Output.{first_bytes, answer_of}
use Rattle.frames.specs.declared.answer.Head.{Head}
use Rattle.frames.specs.Serve.{Table, Served}
use Rattle.frames.specs.Whole.{digits_served, answered, line_served, Buffers, buffers_after, longest, answering}
use Rattle.frames.proofs.Fits.{digits_fit}
use Rattle.frames.proofs.Lent.{any_reply}

-- no more than there are
take_least : (n : ℕ) (l : List ℕ) → take (min n (length l)) l ≡ take n l
take_least n l = grind (arith, common_steps)

pub said_is : (h : Head) (buffer : List ℕ) (count reply : ℕ) → count ≡ min h.count (length h.bytes) → reply ≡ min h.reply (length buffer)
    → take count h.bytes ++ take reply buffer ≡ answer_of h buffer
said_is h buffer count reply e f = rw (e, f, take_least h.count h.bytes, take_least h.reply buffer)

-- what was served is printed: the first bytes of its answer, and the reply
module _ (line : List ℕ) (t : Table) (lent : Buffers) (out : List ℕ) (at : ℕ) (after : Table) (left : Buffers) (h : Head)
    (before : length lent.reply ≡ most_reply) (long : length left.reply ≡ most_reply)
    (e : digits_served line t lent.reply ≡ record { table = after; reply = left.reply; head = h }) (read : left.bytes ≡ (digits_read line lent.bytes).bytes) where
  answer_long : length (answer_of h left.reply) ≤ first_bytes + most_reply
  answer_long =
      let few = (rw e at (digits_fit line t lent.reply)).0.0 in
      simp (length-append, length-take) (omega arith)

  line_is : line_served line t ≡ record { table = after; answer = answer_of h left.reply }
  line_is = sym (any_reply line t lent.reply before) ∙ ap answered e

  buffers_are : buffers_after line t lent ≡ left
  unfolding buffers_after
  buffers_are =
      ap (λ (bytes : List ℕ). record { bytes = bytes; reply = (digits_served line t lent.reply).reply }) (sym read)
      ∙ ap (λ (s : Served). record { bytes = left.bytes; reply = s.reply }) e

  pub said_answers : at + longest ≤ length out → (r : ℕ) (written : List ℕ) → printing (answer_of h left.reply) out at ≡ record { next = r; output = written }
      → (answering line t lent out at ≡ record { table = after; next = r; output = written; buffers = left }) × (r ≤ at + longest)
  unfolding printing answering
  said_answers room r written p =
      let most = answer_long in
      let digits = length_printed (answer_of h left.reply) in
      let q = rw (le-leb (at + length (printed (answer_of h left.reply))) (length out) (omega arith)) at p in
      let next = ap (λ (x : Printing). x.next) q in (
        rw (le-leb (at + longest) (length out) room, line_is, buffers_are)
            (ap (λ (x : Printing). record { table = after; next = x.next; output = x.output; buffers = left }) q),
        omega arith,
      )
