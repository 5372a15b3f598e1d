-- Demand 3, streams are apart: a call of a run, the requests that it carries, and a run of calls on a table.
use Rattle.std.specs.Prelude.{cond, false, ◌≡◌, List, [], ◌∷◌, ◌++◌, map, ℕ, ◌≤◌, length, eqb}
use Rattle.rtcp.specs.Datagram.{Reading, refused, entries, reading, most_entries}
use Rattle.rtcp.specs.declared.Entry.{Entry}
use Rattle.serving.specs.Keeping.{Keeping}
use Rattle.serving.specs.Rules.{Rules}
use Rattle.serving.specs.Run.{Answer, Run, idle, and_then, answered, serving}
use Rattle.serving.specs.Serve.{Request}
use Rattle.sides.specs.Calls.{Side, Came, datagram_call, local_call}
use Rattle.sides.specs.Entries.{request_of}

-- A datagram with its time and its reply buffer; a local call: an event for an SSRC, with its reply buffer. Add and remove are not among them.
pub data Call (E : Type 0) : Type 0 where
  datagram : (bytes : List ℕ) (time : ℕ) (buffer : List ℕ) → Call E
  asked : (event : E) (ssrc : ℕ) (buffer : List ℕ) → Call E

-- the reply buffer as it was lent
abbrev pub buffer_of : {E : Type 0} → Call E → List ℕ
buffer_of (datagram bytes t buffer) = buffer
buffer_of (asked e ssrc buffer) = buffer

-- every entry of a datagram is a request at the datagram's time; a refused datagram carries none
abbrev pub entries_carried : {E : Type 0} → (ℕ → Entry → E) → ℕ → Reading → List (Request E)
entries_carried entered t (refused fault place) = []
entries_carried entered t (entries es) = map (request_of entered t) es

-- the requests that a call carries
abbrev pub carried : {E : Type 0} → (ℕ → Entry → E) → Call E → List (Request E)
carried entered (datagram bytes t buffer) = entries_carried entered t (reading bytes)
carried entered (asked e ssrc buffer) = record { ssrc = ssrc; event = e } ∷ []

-- those of a run, in order
abbrev pub history : {E : Type 0} → (ℕ → Entry → E) → List (Call E) → List (Request E)
history entered [] = []
history entered (call ∷ calls) = carried entered call ++ history entered calls

-- the answer to a local call
abbrev pub answers_of : {S E R : Type 0} → Rules S E R → Call E → ℕ × List ℕ → List Answer
answers_of M (datagram bytes t buffer) said = []
answers_of M (asked e ssrc buffer) said = answered M (record { ssrc = ssrc; event = e }) said

module _ {S E R : Type 0} (D : Side S E R) where
  -- a reply buffer so large that Room never occurs
  abbrev pub Roomy : Call E → Type 0
  Roomy (datagram bytes t buffer) = (n : ℕ) → n ≤ most_entries → D.no_room n (length buffer) ≡ false
  Roomy (asked e ssrc buffer) = D.short e (length buffer) ≡ false

  abbrev pub AllRoomy : List (Call E) → Type 0
  AllRoomy [] = Unit {0}
  AllRoomy (call ∷ calls) = Roomy call × AllRoomy calls

module _ {S E R A : Type 0} (D : Side S E R) (K : Keeping S A) where
  -- what a call leaves behind, by the definition that its contract cites
  abbrev pub made : Call E → List A → Came A
  made (datagram bytes t buffer) table = datagram_call D K bytes t table buffer
  made (asked e ssrc buffer) table = local_call D K e ssrc table buffer

  -- What a call sends: one that says Done, case 0, sends the messages of its requests, a refusal sends none.
  abbrev pub sent : Call E → List A → List R
  sent call t = cond (eqb (made call t).said.0 0) (serving D.rules K (carried D.entered call) t).replies []

  -- the run: each call on the table that the one before it left
  abbrev pub run : List (Call E) → List A → Run A R
  run [] t = idle t
  run (call ∷ calls) t = and_then (sent call t) (answers_of D.rules call (made call t).said) (run calls (made call t).table)

  -- every call of a run says a case other than 0, Done
  abbrev pub AllRefused : List (Call E) → List A → Type 0
  AllRefused [] t = Unit {0}
  AllRefused (call ∷ calls) t = (¬ ((made call t).said.0 ≡ 0)) × AllRefused calls (made call t).table
