-- Document 01, "The line program": "Output: 00 for Done, then n and u (2 bytes each) for a datagram, then the reply or, for send, the number (2). A refusal
-- prints its number and its place (2 bytes)."
use Rattle.std.specs.Prelude.{cond, List, [], ◌∷◌, ◌++◌, ℕ, ◌-◌, ◌/◌, ◌%◌, length, get_or, take, replicate, eqb}
use Rattle.frames.specs.declared.answer.Head.{Head}

-- 2 bytes, the low 16 bits. In the line program nothing is lost: n and u are at most 186 (proofs/Room.antt), a place lies in a line of at most 1,550 bytes, and
-- send's number has 16.
abbrev pub two_bytes : ℕ → List ℕ
two_bytes x = x / 256 % 256 ∷ x % 256 ∷ []

-- the most first bytes that an answer has: 00, n and u
abbrev pub first_bytes : ℕ
first_bytes = 5

-- value k of what was said
abbrev pub value_at : List ℕ → ℕ → ℕ
value_at values k = get_or values k 0

-- the first bytes, filled up with 0, their count, and the length of the reply that follows them
abbrev pub headed : List ℕ → ℕ → Head
headed bytes reply = record { bytes = bytes ++ replicate (first_bytes - length bytes) 0; count = length bytes; reply = reply }

-- the answer's bytes, where this is the reply buffer
abbrev pub answer_of : Head → List ℕ → List ℕ
answer_of h buffer = take h.count h.bytes ++ take h.reply buffer

-- a case and a number: a refusal and its place
abbrev pub case_head : ℕ → ℕ → Head
case_head case x = headed (case ∷ two_bytes x) 0

-- what Done prints, from its values. A datagram: the reply's length, n and u
abbrev pub datagram_done : List ℕ → Head
datagram_done values = headed (0 ∷ two_bytes (value_at values 1) ++ two_bytes (value_at values 2)) (value_at values 0)

-- local pause, time and report: the reply's length
abbrev pub reply_done : List ℕ → Head
reply_done values = headed (0 ∷ []) (value_at values 0)

-- add, local resume and remove
abbrev pub quiet_done : List ℕ → Head
quiet_done values = headed (0 ∷ []) 0

-- send
abbrev pub number_done : List ℕ → Head
number_done values = case_head 0 (value_at values 0)

-- from case and values: Done, or a refusal, whose value is its place
abbrev pub said_head : (List ℕ → Head) → ℕ × List ℕ → Head
said_head done said = cond (eqb said.0 0) (done said.1) (case_head said.0 (value_at said.1 0))

abbrev pub datagram_head : ℕ × List ℕ → Head
datagram_head = said_head datagram_done

abbrev pub reply_head : ℕ × List ℕ → Head
reply_head = said_head reply_done

abbrev pub quiet_head : ℕ × List ℕ → Head
quiet_head = said_head quiet_done

abbrev pub number_head : ℕ × List ℕ → Head
number_head = said_head number_done
