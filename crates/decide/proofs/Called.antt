-- A call's promise, from what find, decide, store and write each promise. For any way of keeping the records.
-- Assumes nothing.
use Rattle.std.proofs.Common.{◌≡◌, ℕ, Bool, true, false, Option, Result, Ok, Err, List, [], length, ap, ◌∙◌}
use Rattle.rtcp.specs.Said.{number}
use Rattle.rtcp.specs.Datagram.{reading, counted}
use Rattle.rtcp.specs.declared.Refusal.{Refusal}
use Rattle.stream.specs.Said.{started_said}
use Rattle.stream.specs.Rules.{local_resume, send}
use Rattle.stream.specs.Start.{starting}
use Rattle.counters.specs.declared.PauseId.{PauseId}
use Rattle.counters.specs.declared.Seq.{Seq}
use Rattle.stream.specs.declared.Stream.{Stream}
use Rattle.stream.specs.declared.Outcome.{Outcome}
use Rattle.stream.specs.declared.Sent.{Sent}
use Rattle.stream.specs.declared.Limit.{Limit}
use Rattle.sides.specs.code.Counted.{Counted, entries_of}
use Rattle.sides.specs.Said.{change_said}
use Rattle.sides.specs.code.Places.{holder_at, released, answer_of, cleared_by}
use Rattle.sides.specs.declared.PacketRefusal.{PacketRefusal}
use Rattle.sides.specs.declared.ChangeRefusal.{ChangeRefusal}
use Rattle.sides.proofs.Cases
use Rattle.sides.proofs.Removed.{removed}
use Rattle.sides.proofs.Read.{read_refused, read_counted}
use Rattle.sender.specs.Said.{datagram_said}
use Rattle.sender.specs.Calls.{wrong_size, no_room, sender, refusal, finished, datagram_call, reply_call, quiet_call, add_call, remove_call}
use Rattle.sender.specs.declared.SendRefusal.{SendRefusal}
use Rattle.sender.specs.declared.AddRefusal.{AddRefusal}
use Rattle.decide.specs.code.Decide.{event_of, reacted, resumed, sent, admission}
use Rattle.sender.proofs.Room.{has_room}
use Rattle.sender.specs.Keeping.{Keeping}
use Rattle.decide.specs.code.Turning.{found, vacancy, reply_left, resume_left, send_left, add_left, Accepted, Through}
use Rattle.sender.specs.Serve.{streams, starts, turns}
use Rattle.decide.specs.declared.Call.{Call}
use Rattle.decide.specs.declared.datagram.Turning.{Turning}
use Rattle.decide.proofs.Decided.{react_is, resume_is, send_is, add_is}

module _ {A : Type 0} (K : Keeping A) (t : List A) (ssrc : ℕ) (i : Option ℕ) (p : i ≡ found K t ssrc) where
  module _ (h : Option Stream) (q : h ≡ holder_at K t i) where
    pub called : (c : Call) (buffer : List ℕ) (d : Result Outcome PacketRefusal) → d ≡ reacted h c (length t) (length buffer)
        → reply_call K (event_of c) ssrc t buffer ≡ reply_left K t i buffer d
    called c buffer d r = rw (r, q, p) (react_is K t ssrc c buffer)

    pub resumes : (d : Result Stream ChangeRefusal) → d ≡ resumed h (length t) → quiet_call K local_resume ssrc t ≡ resume_left K t i d
    resumes d r = rw (r, q, p) (resume_is K t ssrc)

    pub sends : (d : Result Sent SendRefusal) → d ≡ sent h (length t) → quiet_call K send ssrc t ≡ send_left K t i d
    sends d r = rw (r, q, p) (send_is K t ssrc)

  pub removes : (d : Result ℕ ChangeRefusal) → d ≡ released (length t) i → remove_call K ssrc t ≡ record { said = change_said (answer_of d); table = cleared_by K t d; buffer = [] }
  removes d r = removed streams K t ssrc d (rw (← p) r)

  pub added : (c : PauseId) (q : Seq) (rtt dither : ℕ) (nowait : Bool) (new : Result Stream Limit) (j : Option ℕ) (d : Result (ℕ × Stream) AddRefusal)
      → started_said new ≡ starting ssrc c q rtt dither nowait
      → j ≡ vacancy K t
      → d ≡ admission new (length t) i j
      → add_call K ssrc c q rtt dither nowait t ≡ add_left K t d
  added c q rtt dither nowait new j d e v r = rw (r, v, p) (add_is K t ssrc c q rtt dither nowait new e)

module _ {A : Type 0} (K : Keeping A) (d : List ℕ) (time : ℕ) (t : List A) (buffer : List ℕ) where
  pub datagram_size : wrong_size (length t) ≡ true → datagram_call K d time t buffer ≡ refusal 11 0 t buffer
  datagram_size e = Cases.datagram_size sender K t buffer d time e

  pub datagram_refused : wrong_size (length t) ≡ false → (x : Refusal) → Err x ≡ counted (reading d) → datagram_call K d time t buffer ≡ refusal (number x.fault) x.place t buffer
  datagram_refused e x r = Cases.datagram_refused sender K t buffer d time e x.fault x.place (read_refused (reading d) x r)

  module _ (fits : wrong_size (length t) ≡ false) (n : ℕ) (count : Ok n ≡ counted (reading d)) where
    read : Counted d n
    read = read_counted d n count

    pub datagram_room : no_room n (length buffer) ≡ true → datagram_call K d time t buffer ≡ refusal 10 0 t buffer
    datagram_room e = Cases.datagram_room sender K t buffer d time fits (entries_of (reading d)) read.read (rw read.count e)

    run_all : no_room n (length buffer) ≡ false → datagram_call K d time t buffer ≡ finished (turns K time (starts t) (entries_of (reading d))) n buffer
    run_all e =
        Cases.datagram_done_lem sender K t buffer d time fits (entries_of (reading d)) read.read (rw read.count e)
        ∙ ap (λ (m : ℕ). finished (turns K time (starts t) (entries_of (reading d))) m buffer) read.count

    pub datagram_accepted : no_room n (length buffer) ≡ false → Accepted d n (length buffer)
    datagram_accepted e = record { counted = read; room = has_room n (length buffer) e }

    pub datagram_done_lem : no_room n (length buffer) ≡ false → (at : Turning) (table : List A) (written : List ℕ)
        → Through (turns K time (starts t) (entries_of (reading d))) buffer at table written
        → datagram_call K d time t buffer ≡ record { said = datagram_said (Ok (record { length = at.written; entries = n; unknown = at.unknown })); table = table; buffer = written }
    datagram_done_lem room at table written through = run_all room ∙ rw (through.written, through.unknown, through.table, through.buffer)
