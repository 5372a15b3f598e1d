-- Document 01, "The line program": "one frame a line, and prints one line for each." A whole line served, and its answer printed.
use Rattle.std.specs.Prelude.{cond, List, ℕ, ◌+◌, ◌*◌, leb, length, replicate}
use Rattle.std.proofs.lemmas.List.Edits.{sets}
use Rattle.lines.specs.Hex.{hexadecimal, bytes_of, digits_read, printed}
use Rattle.sender.specs.Replies.{most_reply}
use Rattle.frames.specs.Output.{first_bytes, answer_of}
use Rattle.frames.specs.Serve.{Table, Served, bytes_served, unframed}

-- "The reply buffer is large enough that Room never occurs" (proofs/Room.antt): 3,720 bytes
unfoldable pub reply_room : List ℕ
reply_room = replicate most_reply 0

-- a line: "a bad or odd digit, over 3,100 digits" is Line
unfoldable pub digits_served : List ℕ → Table → List ℕ → Served
digits_served line t reply = cond (hexadecimal line) (bytes_served (bytes_of line) t reply) (unframed t reply)

-- what a line leads to: the table after it, and the bytes of its answer
pub record Answered : Type 0 where
  pub table : Table
  pub answer : List ℕ

abbrev pub answered : Served → Answered
answered s = record { table = s.table; answer = answer_of s.head s.reply }

-- with a reply buffer of zeros; any other of its length leads to the same table and answer (proofs/Lent.antt)
unfoldable pub line_served : List ℕ → Table → Answered
line_served line t = answered (digits_served line t reply_room)

-- the buffers that are lent for every line, for the bytes that it stands for and for its reply
pub record Buffers : Type 0 where
  pub bytes : List ℕ
  pub reply : List ℕ

-- what a line leaves in them
unfoldable pub buffers_after : List ℕ → Table → Buffers → Buffers
buffers_after line t lent = record { bytes = (digits_read line lent.bytes).bytes; reply = (digits_served line t lent.reply).reply }

-- the digits of the longest answer, its first bytes and the whole reply buffer, and its line feed
abbrev pub longest : ℕ
longest = 2 * (first_bytes + most_reply) + 1

-- what a line leaves: the table, the place after its answer, the output, and the lent buffers
pub record Answering : Type 0 where
  pub table : Table
  pub next : ℕ
  pub output : List ℕ
  pub buffers : Buffers

abbrev pub answer_printed : Answered → Buffers → List ℕ → ℕ → Answering
answer_printed s buffers out at =
    record { table = s.table; next = at + length (printed s.answer); output = sets out at (printed s.answer); buffers = buffers }

-- the answer is printed from a place of the output on, where the longest answer has room; where it has none, nothing is served and nothing printed
unfoldable pub answering : List ℕ → Table → Buffers → List ℕ → ℕ → Answering
answering line t lent out at =
    cond (leb (at + longest) (length out)) (answer_printed (line_served line t) (buffers_after line t lent) out at)
    (record { table = t; next = at; output = out; buffers = lent })
