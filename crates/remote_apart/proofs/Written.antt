-- Messages as bytes are messages as entries: the first 20 bytes of the buffer of a call that sent are read back as its one message; a call that says Done says the
-- length of what it wrote; a datagram and media seen send nothing.
-- Assumes nothing.
use Prim.Native.Nat.{ℕ, ◌-◌, ◌*◌, ◌≤◌, ◌<◌}
use mathlib.Core.Path.{◌≡◌, refl, ap, ◌∙◌}
use mathlib.Core.Bool.{Bool, true, false, cond}
use mathlib.Core.List.{List, [], ◌∷◌}
use native.Mathlib.Omega.{arith}
use lib.Dec.{eqb}
use lib.ListN.{length, take}
use Rattle.std.specs.Prelude.{Option, Some, None, Result, Ok, Err}
use Rattle.rtcp.specs.Datagram.{entries, reading}
use Rattle.writer.proofs.Back.{read_back}
use Rattle.writer.specs.Writer.{packet_of_one}
use Rattle.remote.specs.Events.{ask_to_pause_row, ask_to_resume_row, report_row}
use Rattle.remote.specs.Record.{to, silent, asking, type_of}
use Rattle.remote.specs.Rules.{Event, with_answer, ruled}
use Rattle.remote.specs.Rules
use Rattle.remote.specs.Said.{length_of}
use Rattle.remote.specs.declared.Ask.{Ask}
use Rattle.remote.specs.declared.Ask.TheVariants as ask
use Rattle.remote.specs.declared.Busy.{Busy}
use Rattle.remote.specs.declared.Outcome.{Outcome}
use Rattle.remote.specs.declared.AskEntry.{AskEntry}
use Rattle.remote.specs.declared.Remote.{Remote}
use Rattle.remote.specs.declared.State.{State}
use Rattle.remote.specs.declared.State.TheVariants.{Receiving, AskedToPause, Paused, AskedToResume}
use Rattle.remote.proofs.Silent.{media_silent}
use Rattle.serving.proofs.Place.{answering}
use Rattle.sides.specs.Calls.{in_packets, over}
use Rattle.sides.specs.Run as sides
use Rattle.sides.proofs.House.{Silent, silent_sends}
use Rattle.sides.proofs.Packets.{packets_long}
use Rattle.sides.proofs.Refused as refusals
use Rattle.sides.proofs.Written.{few_sent, sent_first, sent_each, Tells}
use Rattle.sides.proofs.Written as side
use Rattle.receiver.specs.Calls.{receiver}
use Rattle.receiver.specs.Messages.{packet_of}
use Rattle.receiver.specs.Serve.{listed, remotes}
use Rattle.remote_decide.proofs.Opened.{entry_silent}
use Rattle.remote_rows.specs.Rows.{rows}
use Rattle.remote_apart.specs.Calls.{Call, datagram, ask_to_pause, ask_to_resume, report, media_seen, as_call, made, buffer_of}
use Rattle.remote_apart.specs.Run.{sent}
use Rattle.remote_apart.specs.Written.{MaySend, Repeats, record_of, Of, About, message_read}
use Rattle.remote_apart.proofs.Lawful.{receiver_lawful, rows_faithful}

-- ---- a datagram and media seen send nothing

pub datagram_silent : (house : ℕ) (bytes : List ℕ) → Silent (receiver house) (as_call (datagram bytes))
datagram_silent house bytes = entry_silent

pub media_seen_silent : (house x : ℕ) → Silent (receiver house) (as_call (media_seen x))
unfolding ruled
media_seen_silent house x s = ap listed (media_silent s.state s)

pub datagram_sends_nothing : (house : ℕ) (bytes : List ℕ) (t : List (List ℕ)) → sent rows house (datagram bytes) t ≡ []
datagram_sends_nothing house bytes t = silent_sends (receiver house) rows (as_call (datagram bytes)) t (datagram_silent house bytes)

pub media_sends_nothing : (house x : ℕ) (t : List (List ℕ)) → sent rows house (media_seen x) t ≡ []
media_sends_nothing house x t = silent_sends (receiver house) rows (as_call (media_seen x)) t (media_seen_silent house x)

-- ---- what the rules say of the length

one_long : (house : ℕ) (m : Option AskEntry) → length_of m ≡ length (in_packets (packet_of house) (listed m))
one_long house None = refl
one_long house (Some e) = refl

module _ (house : ℕ) where
  ask_tells : (s : Remote) (a : Result Outcome Busy) → (with_answer s a).said.0 ≡ 0 → (with_answer s a).said.1 ≡ length (in_packets (packet_of house) (listed (with_answer s a).sent)) ∷ []
  ask_tells s (Ok o) done = ap (λ n. n ∷ []) (one_long house o.sent)
  ask_tells s (Err busy) done = absurd (omega arith)

  pause_tells : Tells (receiver house) rows Rules.ask_to_pause
  unfolding ruled
  pause_tells s = ask_tells s (ask_to_pause_row s.state s)

  resume_tells : Tells (receiver house) rows Rules.ask_to_resume
  unfolding ruled
  resume_tells s = ask_tells s (ask_to_resume_row s.state s)

  report_tells : Tells (receiver house) rows Rules.report
  unfolding ruled
  report_tells s done = ap (λ n. n ∷ []) (one_long house (report_row s.state s).sent)

  -- ---- at most one message, and the length that is said

  one_sent : (e : Event) (s : Remote) → length (listed (ruled e s).sent) ≤ 1
  one_sent e s = go (ruled e s).sent
    where
      go : (m : Option AskEntry) → length (listed m) ≤ 1
      go None = omega arith
      go (Some e) = omega arith

  -- a call sends at most one message
  pub at_most_one : (call : Call) (t : List (List ℕ)) → length (sent rows house call t) ≤ 1
  at_most_one (datagram bytes) t = rw (datagram_sends_nothing house bytes t) (omega arith)
  at_most_one (ask_to_pause x buffer) t = few_sent (receiver house) rows one_sent (as_call (ask_to_pause x buffer)) t
  at_most_one (ask_to_resume x buffer) t = few_sent (receiver house) rows one_sent (as_call (ask_to_resume x buffer)) t
  at_most_one (report x buffer) t = few_sent (receiver house) rows one_sent (as_call (report x buffer)) t
  at_most_one (media_seen x) t = few_sent (receiver house) rows one_sent (as_call (media_seen x)) t

  told_length : (call : Call) (t : List (List ℕ)) → MaySend call → (made rows house call t).said.0 ≡ 0
      → (made rows house call t).said.1 ≡ length (in_packets (packet_of house) (sent rows house call t)) ∷ []
  told_length (datagram bytes) t may = absurd may
  told_length (ask_to_pause x buffer) t may = side.says_length (receiver house) rows Rules.ask_to_pause pause_tells x buffer t
  told_length (ask_to_resume x buffer) t may = side.says_length (receiver house) rows Rules.ask_to_resume resume_tells x buffer t
  told_length (report x buffer) t may = side.says_length (receiver house) rows Rules.report report_tells x buffer t
  told_length (media_seen x) t may = absurd may

  -- a call that may send, and says Done, says the length of what it wrote: 20, or 0 for nothing
  pub says_length : (call : Call) (t : List (List ℕ)) → MaySend call → (made rows house call t).said.0 ≡ 0
      → (made rows house call t).said.1 ≡ packet_of_one * length (sent rows house call t) ∷ []
  says_length call t may done = told_length call t may done ∙ ap (λ n. n ∷ []) (packets_long (packet_of house) packet_of_one (λ e. refl) (sent rows house call t))

  -- ---- what a message says

  unsent : (e : AskEntry) (es : List AskEntry) → es ≡ [] → es ≡ e ∷ [] → ⊥
  unsent e es none one = let no : length es ≡ 0 = ap length none in let some : length es ≡ 1 = ap length one in absurd (omega arith)

  -- of one record: whatever an ask or a report sends has its SSRC, its ID, and the ask
  pause_says : (state : State) (s : Remote) (e : AskEntry) → listed (with_answer s (ask_to_pause_row state s)).sent ≡ e ∷ [] → (e.target ≡ s.ssrc) × (e.id ≡ s.id) × (e.ask ≡ ask.Pause)
  pause_says Receiving s e is = (cc, cc, cc)
  pause_says (AskedToPause left) s e is = absurd (unsent e [] refl is)
  pause_says Paused s e is = absurd (unsent e [] refl is)
  pause_says (AskedToResume left) s e is = absurd (unsent e [] refl is)

  resume_says : (state : State) (s : Remote) (e : AskEntry) → listed (with_answer s (ask_to_resume_row state s)).sent ≡ e ∷ [] → (e.target ≡ s.ssrc) × (e.id ≡ s.id) × (e.ask ≡ ask.Resume)
  resume_says Receiving s e is = absurd (unsent e [] refl is)
  resume_says (AskedToPause left) s e is = absurd (unsent e [] refl is)
  resume_says Paused s e is = (cc, cc, cc)
  resume_says (AskedToResume left) s e is = absurd (unsent e [] refl is)

  repeat_says : (a : Ask) (none : Bool) (other state : State) (s : Remote) (e : AskEntry)
      → listed (cond none (silent (to other s)) (asking a (to state s))).sent ≡ e ∷ [] → (e.target ≡ s.ssrc) × (e.id ≡ s.id) × (e.ask ≡ a)
  repeat_says a true other state s e is = absurd (unsent e [] refl is)
  repeat_says a false other state s e is = (cc, cc, cc)

  report_says : (state : State) (s : Remote) (e : AskEntry) → listed (report_row state s).sent ≡ e ∷ [] → (e.target ≡ s.ssrc) × (e.id ≡ s.id) × Repeats state e.ask
  report_says Receiving s e is = absurd (unsent e [] refl is)
  report_says (AskedToPause left) s e is = repeat_says ask.Pause (eqb left 0) Receiving (AskedToPause (left - 1)) s e is
  report_says Paused s e is = absurd (unsent e [] refl is)
  report_says (AskedToResume left) s e is = repeat_says ask.Resume (eqb left 0) Paused (AskedToResume (left - 1)) s e is

  module _ (t : List (List ℕ)) (x : ℕ) (buffer : List ℕ) (e : AskEntry) where
    abbrev here : Remote
    here = record_of rows t x

    -- of the record that answers, whose SSRC is the one that is asked or reported for
    about : (Q : Type 0) (v : Event) → (listed (ruled v here).sent ≡ e ∷ [] → (e.target ≡ here.ssrc) × (e.id ≡ here.id) × Q)
        → sides.sent (receiver house) rows (sides.asked v x buffer) t ≡ e ∷ [] → Of rows t x e × Q
    about Q v says =
        sent_each (receiver house) rows (λ es. es ≡ e ∷ [] → Of rows t x e × Q) (λ is. absurd (unsent e [] refl is)) v x buffer t
        (λ found is. let all = says is in (record { target = all.0 ∙ (answering remotes rows t x found).1; id = all.1 }, all.2))

  pub message_about : (call : Call) (t : List (List ℕ)) (e : AskEntry) → sent rows house call t ≡ e ∷ [] → About rows t call e
  unfolding ruled
  message_about (datagram bytes) t e is = unsent e _ (datagram_sends_nothing house bytes t) is
  message_about (ask_to_pause x buffer) t e is = about t x buffer e (e.ask ≡ ask.Pause) Rules.ask_to_pause (pause_says (record_of rows t x).state (record_of rows t x) e) is
  message_about (ask_to_resume x buffer) t e is = about t x buffer e (e.ask ≡ ask.Resume) Rules.ask_to_resume (resume_says (record_of rows t x).state (record_of rows t x) e) is
  message_about (report x buffer) t e is = about t x buffer e (Repeats (record_of rows t x).state e.ask) Rules.report (report_says (record_of rows t x).state (record_of rows t x) e) is
  message_about (media_seen x) t e is = unsent e _ (media_sends_nothing house x t) is

  -- ---- what is written, and read back

  -- the buffer after any call: the packet of what it sent, over the buffer as it was lent
  pub written : (call : Call) (t : List (List ℕ)) → (made rows house call t).buffer ≡ over (in_packets (packet_of house) (sent rows house call t)) (buffer_of call)
  written call t = refusals.written (receiver house) (receiver_lawful house) rows rows_faithful (as_call call) t

  kind_fits : (a : Ask) → type_of a < 16
  kind_fits ask.Pause = omega arith
  kind_fits ask.Resume = omega arith

  message_back : (e : AskEntry) → reading (packet_of house e) ≡ entries (message_read house e ∷ [])
  message_back e = read_back house e.target (type_of e.ask) e.id.0 (kind_fits e.ask)

  -- where a call sent a message, a reader of the first 20 bytes of its buffer finds that one entry
  pub rows_read_back : (call : Call) (t : List (List ℕ)) (e : AskEntry) → sent rows house call t ≡ e ∷ []
      → reading (take packet_of_one (made rows house call t).buffer) ≡ entries (message_read house e ∷ [])
  rows_read_back call t e is =
      ap reading (rw is at (sent_first (receiver house) (receiver_lawful house) rows rows_faithful (as_call call) t)) ∙ message_back e
