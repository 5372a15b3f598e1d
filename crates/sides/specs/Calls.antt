-- Document 01, "The table" and "What can come back": each call of a table, on any side, with its refusals in the document's order. "A refusal changes no record
-- and no byte and gives a place".
use Rattle.std.specs.Prelude.{Bool, not, cond, ◌&&◌, ◌||◌, List, [], ◌∷◌, ◌++◌, ℕ, length, set, drop, eqb, ltb}
use Rattle.rtcp.specs.Said.{number}
use Rattle.rtcp.specs.Datagram.{Reading, refused, entries, reading}
use Rattle.rtcp.specs.declared.Entry.{Entry}
use Rattle.serving.specs.Keeping.{Keeping}
use Rattle.serving.specs.Rules.{Rules}
use Rattle.serving.specs.Serve.{first, answers, place, kept_at, Served, serve}
use Rattle.sides.specs.Entries.{Between, starts, turns}

-- One side's table: the rules of its records, what an entry of a datagram asks of them, how what is sent is written, and when there is no room for it. Where
-- a side has a house SSRC, it is in `packet`.
pub record Side (S E R : Type 0) : Type 0 where
  pub rules : Rules S E R
  -- the event that an entry is, at its datagram's time
  pub entered : ℕ → Entry → E
  -- a message as it is written, a packet of its own
  pub packet : R → List ℕ
  -- case 10, Room, of a datagram with n entries, and of a local call; the last argument is the buffer's length
  pub no_room : ℕ → ℕ → Bool
  pub short : E → ℕ → Bool
  -- what Done says of a datagram, from the length of what is written, n and u
  pub counts : ℕ → ℕ → ℕ → List ℕ

-- what a call leaves behind: what it said (case and values), the table and the reply buffer. A call that is lent no buffer leaves [].
pub record Came (A : Type 0) : Type 0 where
  pub said : ℕ × List ℕ
  pub table : List A
  pub buffer : List ℕ

-- "a table of 1 to 64 streams"
abbrev pub most_records : ℕ
most_records = 64

-- case 11, Size: "table of 0 or over 64 records"
abbrev pub wrong_size : ℕ → Bool
wrong_size size = eqb size 0 || ltb most_records size

-- a refusal, with its case and its place
abbrev pub refusal : {A : Type 0} → ℕ → ℕ → List A → List ℕ → Came A
refusal case place t buffer = record { said = (case, place ∷ []); table = t; buffer = buffer }

-- the refusal where the test holds; shut, so that a chain of them opens one at a time
unfoldable pub refuse_if : {A : Type 0} → Bool → ℕ → List A → List ℕ → Came A → Came A
refuse_if test case t buffer other = cond test (refusal case 0 t buffer) other

-- messages as they are written, packet after packet; "With no reply, no byte is written."
abbrev pub in_packets : {R : Type 0} → (R → List ℕ) → List R → List ℕ
in_packets packet [] = []
in_packets packet (m ∷ ms) = packet m ++ in_packets packet ms

-- bytes at the buffer's start; "Bytes after the reply stay."
unfoldable pub over : List ℕ → List ℕ → List ℕ
over bytes buffer = bytes ++ drop (length bytes) buffer

-- ---- the calls that serve requests

-- what a side sends, as bytes
abbrev pub sent_bytes : {S E R : Type 0} → Side S E R → List R → List ℕ
sent_bytes D ms = in_packets D.packet ms

module _ {S E R A : Type 0} (D : Side S E R) where
  -- a datagram whose entries have run: what Done says, with what is sent written
  abbrev pub finished : Between A R → ℕ → List ℕ → Came A
  finished now n buffer =
      record {
        said = (0, D.counts (length (sent_bytes D now.replies)) n now.unknown);
        table = now.table;
        buffer = over (sent_bytes D now.replies) buffer;
      }

  -- a request served, with what is sent written
  abbrev pub spoken : Served A R → List ℕ → Came A
  spoken served buffer = record { said = served.said; table = served.table; buffer = over (sent_bytes D served.replies) buffer }

module _ {S E R A : Type 0} (D : Side S E R) (K : Keeping S A) where
  -- "Datagram call Size, 1, then packet by packet 2 to 9, then Room." "All is checked before the first event; then the entries run in order."
  abbrev pub after_reading : Reading → ℕ → List A → List ℕ → Came A
  after_reading (refused fault at) time t buffer = refusal (number fault) at t buffer
  after_reading (entries es) time t buffer =
      refuse_if (D.no_room (length es) (length buffer)) 10 t buffer
      (finished D (turns D.rules D.entered K time (starts t) es) (length es) buffer)

  unfoldable pub datagram_call : List ℕ → ℕ → List A → List ℕ → Came A
  datagram_call datagram time t buffer =
      refuse_if (wrong_size (length t)) 11 t buffer (after_reading (reading datagram) time t buffer)

  -- whether the rules allow an event for an SSRC: what they say of it is case 0, Done
  abbrev pub allowed : E → ℕ → List A → Bool
  allowed e ssrc t = eqb (D.rules.ruled e (K.read (kept_at K t (place D.rules K t ssrc)))).said.0 0

  -- A local call: Size, NoStream, what the rules refuse, Room. What the rules refuse is said by them, and Room is judged of what they allow.
  unfoldable pub local_call : E → ℕ → List A → List ℕ → Came A
  local_call e ssrc t buffer =
      refuse_if (wrong_size (length t)) 11 t buffer
      (refuse_if (not (answers D.rules K t ssrc)) 12 t buffer
      (refuse_if (allowed e ssrc t && D.short e (length buffer)) 10 t buffer
      (spoken D (serve D.rules K (record { ssrc = ssrc; event = e }) t) buffer)))

-- ---- add and remove

-- Done, which "carries nothing more"
abbrev pub stored : {A : Type 0} → List A → Came A
stored t = record { said = (0, []); table = t; buffer = [] }

module _ {S E R A : Type 0} (M : Rules S E R) (K : Keeping S A) where
  -- "Add takes the lowest record not in use": its place, or the table's length where every record is in use.
  abbrev pub vacant : List A → ℕ
  vacant t = first (λ a. not (M.used (K.read a))) t

  -- a new record that passed its limits: Duplicate, Full
  abbrev pub admitted : S → List A → Came A
  admitted s t =
      refuse_if (answers M K t (M.ssrc s)) 15 t []
      (refuse_if (not (ltb (vacant t) (length t))) 16 t []
      (stored (set t (vacant t) (K.store (kept_at K t (vacant t)) s))))

  -- what a new record came back with: the record, or the case that refused it
  abbrev pub after_start : ℕ → List S → List A → Came A
  after_start case [] t = refusal case 0 t []
  after_start case (s ∷ rest) t = admitted s t

  -- "Add Size, Limit, Duplicate, Full."
  unfoldable pub add_call : ℕ × List S → List A → Came A
  add_call start t = refuse_if (wrong_size (length t)) 11 t [] (after_start start.0 start.1 t)

  -- "Remove Size, NoStream."
  unfoldable pub remove_call : ℕ → List A → Came A
  remove_call ssrc t =
      refuse_if (wrong_size (length t)) 11 t []
      (refuse_if (not (answers M K t ssrc)) 12 t []
      (stored (set t (place M K t ssrc) (K.clear (kept_at K t (place M K t ssrc))))))
