-- Each local call is what its decision gives, stored and written: a refusal leaves the table and the buffer. For any way of keeping the records; an ask for any
-- that stores what stands there already without a change.
-- Assumes nothing.
use Rattle.std.proofs.Common.{◌≡◌, ℕ, ◌≤◌, Bool, true, false, cond, not, ◌&&◌, eqb, ltb, List, [], ◌∷◌, length, Option, Some, None, Result, Ok, Err, sym, refl, ap, ◌∙◌, ltb-false}
use Rattle.writer.specs.Writer.{packet_of_one}
use Rattle.writer.proofs.Placed.{placed_first}
use Rattle.counters.specs.declared.PauseId.{PauseId}
use Rattle.remote.specs.Events.{ask_to_pause_row, ask_to_resume_row, media_row, report_row}
use Rattle.remote.specs.Record.{start_of}
use Rattle.remote.specs.Rules.{report, media_seen, Ruled, quietly, with_length, with_answer, ruled}
use Rattle.remote.specs.Said.{length_of}
use Rattle.remote.specs.declared.Remote.{Remote}
use Rattle.remote.specs.declared.Ask.{Ask}
use Rattle.remote.specs.declared.Ask.TheVariants as ask
use Rattle.remote.specs.declared.AskEntry.{AskEntry}
use Rattle.remote.specs.declared.Busy.{Busy}
use Rattle.remote.specs.declared.Outcome.{Outcome}
use Rattle.remote.proofs.Silent.{media_silent}
use Rattle.serving.specs.Serve as serving
use Rattle.serving.proofs.Faithful.{stored_stays}
use Rattle.sides.specs.Calls.{in_packets, over}
use Rattle.sides.specs.Calls as side
use Rattle.sides.specs.Said.{change_said, packet_said}
use Rattle.sides.specs.code.Places.{holder_at, storing}
use Rattle.sides.proofs.Search.{found_inside}
use Rattle.sides.specs.declared.ChangeRefusal.{ChangeRefusal}
use Rattle.sides.specs.declared.ChangeRefusal.TheVariants as change
use Rattle.sides.specs.declared.PacketRefusal.{PacketRefusal}
use Rattle.sides.specs.declared.PacketRefusal.TheVariants as packet
use Rattle.receiver.specs.Calls.{Came, wrong_size, refusal, refuse_if, short, receiver, ask_call, media_call, vacant, stored, add_call}
use Rattle.receiver.specs.Keeping.{Keeping}
use Rattle.receiver.specs.Messages.{packet_of}
use Rattle.receiver.specs.Said.{ask_said, add_said}
use Rattle.receiver.specs.Serve.{remotes, answers, listed, Served}
use Rattle.receiver.specs.declared.AddRefusal.{AddRefusal}
use Rattle.receiver.specs.declared.AddRefusal.TheVariants as add
use Rattle.receiver.specs.declared.AskRefusal.{AskRefusal}
use Rattle.receiver.specs.declared.AskRefusal.TheVariants as refuses
use Rattle.remote_decide.specs.code.Decide.{found, vacancy, keeping, event_of, asked_with, asked_by, asked, reported_by, reported, seen_by, seen, message_placed, placed_at, admission}
use Rattle.remote_decide.proofs.Found.{at, here, spot, who, holder_is}

-- one message, at the buffer's start
one_message : (buffer : List ℕ) (house : ℕ) (m : Option AskEntry) → packet_of_one ≤ length buffer → over (in_packets (packet_of house) (listed m)) buffer ≡ message_placed buffer house m
unfolding over
one_message buffer house None h = refl
one_message buffer house (Some e) h = sym (placed_first buffer (packet_of house e) h)

module _ {A : Type 0} (K : Keeping A) (t : List A) where
  -- what a call leaves behind, where a search found this place and this was decided
  module _ (i : Option ℕ) where
    abbrev pub asks_so : List ℕ → ℕ → Result Outcome AskRefusal → Came A
    asks_so buffer house (Ok o) = record { said = ask_said (Ok (length_of o.sent)); table = keeping K t i o.remote; buffer = message_placed buffer house o.sent }
    asks_so buffer house (Err r) = record { said = ask_said (Err r); table = t; buffer = buffer }

    abbrev pub reports_so : List ℕ → ℕ → Result Outcome PacketRefusal → Came A
    reports_so buffer house (Ok o) = record { said = packet_said (Ok (length_of o.sent)); table = keeping K t i o.remote; buffer = message_placed buffer house o.sent }
    reports_so buffer house (Err r) = record { said = packet_said (Err r); table = t; buffer = buffer }

    abbrev pub sees_so : Result Remote ChangeRefusal → Came A
    sees_so (Ok s) = record { said = change_said (Ok tt); table = keeping K t i s; buffer = [] }
    sees_so (Err r) = record { said = change_said (Err r); table = t; buffer = [] }

  abbrev pub adds_so : Result (ℕ × Remote) AddRefusal → Came A
  adds_so (Ok (j, s)) = record { said = add_said (Ok tt); table = storing K t j s; buffer = [] }
  adds_so (Err r) = record { said = add_said (Err r); table = t; buffer = [] }

  module _ (ssrc : ℕ) where
    -- the request served where the rules give this
    abbrev ruled_as : Ruled → Served A
    ruled_as r = record { table = storing K t (at K t ssrc) r.remote; replies = listed r.sent; said = r.said }

    module _ (buffer : List ℕ) (house : ℕ) where
      abbrev spoken : Served A → Came A
      spoken served = side.spoken (receiver house) served buffer

      asks_with_room : (o : Outcome) (test : Bool) → ltb (length buffer) packet_of_one ≡ test
          → cond test (refusal 10 0 t buffer) (spoken (ruled_as (with_length o))) ≡ asks_so (spot K t ssrc true) buffer house (cond test (Err refuses.Room) (Ok o))
      asks_with_room o true e = refl
      asks_with_room o false e = rw (one_message buffer house o.sent (ltb-false _ _ e))

      reports_with_room : (o : Outcome) (test : Bool) → ltb (length buffer) packet_of_one ≡ test
          → cond test (refusal 10 0 t buffer) (spoken (ruled_as (with_length o))) ≡ reports_so (spot K t ssrc true) buffer house (cond test (Err packet.Room) (Ok o))
      reports_with_room o true e = refl
      reports_with_room o false e = rw (one_message buffer house o.sent (ltb-false _ _ e))

      module _ (same : (a : A) → K.store a (K.read a) ≡ a) where
        -- Busy before Room; what is busy stays
        by_answer : (c : Result Outcome Busy)
            → cond (eqb (with_answer (here K t ssrc) c).said.0 0 && ltb (length buffer) packet_of_one) (refusal 10 0 t buffer) (spoken (ruled_as (with_answer (here K t ssrc) c)))
            ≡ asks_so (spot K t ssrc true) buffer house (asked_with c (length buffer))
        unfolding over
        by_answer (Ok o) = asks_with_room o (ltb (length buffer) packet_of_one) refl
        by_answer (Err busy) =
            ap (λ (l : List A). record { said = (18, 0 ∷ []); table = l; buffer = buffer }) (stored_stays K same t (at K t ssrc))

        ask_by : (a : Ask) (wrong some : Bool)
            → cond wrong (refusal 11 0 t buffer)
            (cond (not some) (refusal 12 0 t buffer)
            (cond (eqb (ruled (event_of a) (here K t ssrc)).said.0 0 && short (event_of a) (length buffer)) (refusal 10 0 t buffer)
            (spoken (cond some (serving.served_at remotes K (event_of a) t (at K t ssrc)) (serving.unserved t)))))
            ≡ asks_so (spot K t ssrc some) buffer house (cond wrong (Err refuses.Size) (asked_by (who K t ssrc some) a (length buffer)))
        unfolding ruled over
        ask_by a true some = refl
        ask_by a false false = refl
        ask_by ask.Pause false true = by_answer (ask_to_pause_row (here K t ssrc).state (here K t ssrc))
        ask_by ask.Resume false true = by_answer (ask_to_resume_row (here K t ssrc).state (here K t ssrc))

        -- ask to pause and ask to resume
        pub ask_is : (a : Ask) → ask_call K (event_of a) ssrc t buffer house ≡ asks_so (found K t ssrc) buffer house (asked (holder_at K t (found K t ssrc)) a (length t) (length buffer))
        unfolding side.local_call refuse_if serving.serve
        ask_is a =
            ask_by a (wrong_size (length t)) (answers K t ssrc)
            ∙ ap (λ (h : Option Remote). asks_so (found K t ssrc) buffer house (asked h a (length t) (length buffer))) (sym (holder_is K t ssrc))

      report_by : (wrong some : Bool)
          → cond wrong (refusal 11 0 t buffer)
          (cond (not some) (refusal 12 0 t buffer)
          (cond (ltb (length buffer) packet_of_one) (refusal 10 0 t buffer)
          (spoken (cond some (serving.served_at remotes K report t (at K t ssrc)) (serving.unserved t)))))
          ≡ reports_so (spot K t ssrc some) buffer house (cond wrong (Err packet.Size) (reported_by (who K t ssrc some) (length buffer)))
      unfolding ruled over
      report_by true some = refl
      report_by false false = refl
      report_by false true = reports_with_room (report_row (here K t ssrc).state (here K t ssrc)) (ltb (length buffer) packet_of_one) refl

      pub report_is : ask_call K report ssrc t buffer house ≡ reports_so (found K t ssrc) buffer house (reported (holder_at K t (found K t ssrc)) (length t) (length buffer))
      unfolding side.local_call refuse_if serving.serve ruled
      report_is =
          report_by (wrong_size (length t)) (answers K t ssrc)
          ∙ ap (λ (h : Option Remote). reports_so (found K t ssrc) buffer house (reported h (length t) (length buffer))) (sym (holder_is K t ssrc))

    media_by : (wrong some : Bool)
        → cond wrong (refusal 11 0 t []) (cond (not some) (refusal 12 0 t []) (spoken [] 0 (cond some (serving.served_at remotes K media_seen t (at K t ssrc)) (serving.unserved t))))
        ≡ sees_so (spot K t ssrc some) (cond wrong (Err change.Size) (seen_by (who K t ssrc some)))
    unfolding ruled over
    media_by true some = refl
    media_by false false = refl
    media_by false true = unsaid (media_row (here K t ssrc).state (here K t ssrc)) (media_silent (here K t ssrc).state (here K t ssrc))
      where
        unsaid : (o : Outcome) → o.sent ≡ None → spoken [] 0 (ruled_as (quietly o)) ≡ sees_so (spot K t ssrc true) (Ok o.remote)
        unsaid o e = rw e

    pub media_is : media_call K ssrc t ≡ sees_so (found K t ssrc) (seen (holder_at K t (found K t ssrc)) (length t))
    unfolding side.local_call refuse_if serving.serve ruled
    media_is =
        media_by (wrong_size (length t)) (answers K t ssrc)
        ∙ ap (λ (h : Option Remote). sees_so (found K t ssrc) (seen h (length t))) (sym (holder_is K t ssrc))

    add_by : (s : Remote) (wrong some free : Bool)
        → cond wrong (refusal 11 0 t []) (cond some (refusal 15 0 t []) (cond (not free) (refusal 16 0 t []) (stored (storing K t (vacant K t) s))))
        ≡ adds_so (cond wrong (Err add.Size) (placed_at (spot K t ssrc some) (cond free (Some (vacant K t)) None) s))
    add_by s true some free = refl
    add_by s false true free = refl
    add_by s false false true = refl
    add_by s false false false = refl

    pub add_is : (id : PauseId) → add_call K ssrc id t ≡ adds_so (admission (start_of ssrc id) (length t) (found K t ssrc) (vacancy K t))
    unfolding add_call side.add_call refuse_if
    add_is id =
        rw (found_inside t (at K t ssrc), found_inside t (vacant K t))
        (add_by (start_of ssrc id) (wrong_size (length t)) (answers K t ssrc) (ltb (vacant K t) (length t)))
