-- Each local call of the sender's side (`Calls` of the crate `sender`), and add, is: find the record, decide (specs/code/Decide.antt), store what was decided, write
-- the reply. For any way of keeping the records.
-- Assumes nothing.
use Rattle.std.proofs.Common.{◌≡◌, ℕ, ◌≤◌, Bool, true, false, cond, not, Option, Some, None, Result, Ok, Err, ltb, List, [], ◌∷◌, length, set, sym, refl, ap, ◌∙◌, zero-add, arith, ltb-false}
use Rattle.writer.specs.Writer.{packet_of_one}
use Rattle.stream.specs.Said.{started_said}
use Rattle.stream.specs.Events.{local_resume_row, send_row}
use Rattle.stream.specs.Rules.{Ruled, with_reply, local_resume, send, ruled}
use Rattle.stream.specs.Start.{most_milliseconds, holdoff_of, start_of, starting}
use Rattle.counters.specs.declared.PauseId.{PauseId}
use Rattle.counters.specs.declared.Seq.{Seq}
use Rattle.stream.specs.declared.State.{State}
use Rattle.stream.specs.declared.State.TheVariants.{Playing, Pausing, Paused, LocalPaused}
use Rattle.stream.specs.declared.Stream.{Stream}
use Rattle.stream.specs.declared.ReplyEntry.{ReplyEntry}
use Rattle.stream.specs.declared.Outcome.{Outcome}
use Rattle.stream.specs.declared.Limit.{Limit}
use Rattle.serving.specs.Serve as serving
use Rattle.sides.specs.Calls as side
use Rattle.sides.specs.code.Places.{holder_at}
use Rattle.sides.proofs.Search.{found_inside}
use Rattle.sides.specs.declared.PacketRefusal.TheVariants as packet
use Rattle.sides.specs.declared.ChangeRefusal.TheVariants as change
use Rattle.sender.specs.declared.SendRefusal.TheVariants as no-send
use Rattle.sender.specs.declared.AddRefusal.TheVariants as add
use Rattle.sender.specs.Calls.{wrong_size, refusal, refuse_if, spoken, reply_call, quiet_call, vacant, stored, after_start, add_call}
use Rattle.sender.specs.Keeping.{Keeping}
use Rattle.sender.specs.Replies.{packets_of, over}
use Rattle.sender.specs.Serve.{answers, place, kept_at, length_of, listed, said_of, served_at, unserved}
use Rattle.decide.specs.code.Decide.{event_of, called_on, reacted, resumed, sent, sent_by, admitted_by, admission}
use Rattle.decide.specs.code.Turning.{found, vacancy, packet_placed, reply_left, resume_left, send_left, add_left}
use Rattle.decide.specs.declared.Call.{Call}
use Rattle.decide.specs.declared.Call.TheVariants as call
use Rattle.decide.proofs.Chain.{reply_chain, quiet_chain}
use Rattle.decide.proofs.Entered.{length_few}
use Rattle.decide.proofs.Found.{by_search}
use Rattle.decide.proofs.Written.{reply_placed}

-- one reply, at the buffer's start
one_packet : (buffer : List ℕ) (r : Option ReplyEntry) → packet_of_one ≤ length buffer → over (packets_of (listed r)) buffer ≡ packet_placed buffer 0 r
unfolding over
one_packet buffer r h = sym (reply_placed buffer [] r (rw zero-add (let short = length_few r in omega arith)))

called_is : (c : Call) (s : Stream) → ruled (event_of c) s ≡ with_reply (called_on c s)
unfolding ruled
called_is call.LocalPause s = refl
called_is (call.Time t) s = refl
called_is call.Report s = refl

said_is : (c : Call) (r : Ruled) → said_of (event_of c) r ≡ (0, length_of r.reply ∷ [])
said_is call.LocalPause r = refl
said_is (call.Time t) r = refl
said_is call.Report r = refl

-- a local resume never replies
local_resume_silent : (state : State) (s : Stream) → (local_resume_row state s).reply ≡ None
local_resume_silent Playing s = refl
local_resume_silent (Pausing d) s = refl
local_resume_silent Paused s = refl
local_resume_silent LocalPaused s = refl

module _ {A : Type 0} (K : Keeping A) (t : List A) (ssrc : ℕ) where
  -- where the record that answers for the SSRC is, and what is there
  abbrev at : ℕ
  at = place K t ssrc

  abbrev here : Stream
  here = K.read (kept_at K t at)

  module _ (c : Call) (buffer : List ℕ) where
    -- a call at either end of the search
    abbrev Reacts : Bool → Option ℕ → Option Stream → Type 0
    Reacts b i h =
        cond (wrong_size (length t)) (refusal 11 0 t buffer) (cond (not b) (refusal 12 0 t buffer) (cond (ltb (length buffer) packet_of_one) (refusal 10 0 t buffer) (spoken (cond b (served_at K (event_of c) t at) (unserved t)) buffer)))
        ≡ reply_left K t i buffer (reacted h c (length t) (length buffer))

    with_room : packet_of_one ≤ length buffer → spoken (served_at K (event_of c) t at) buffer ≡ reply_left K t (Some at) buffer (Ok (called_on c here))
    with_room h = rw (said_is c (ruled (event_of c) here), called_is c here, one_packet buffer (called_on c here).reply h)

    there : Reacts true (Some at) (Some here)
    there = go (wrong_size (length t)) (ltb (length buffer) packet_of_one) refl
      where
        go : (wrong short : Bool) → ltb (length buffer) packet_of_one ≡ short
            → cond wrong (refusal 11 0 t buffer) (cond short (refusal 10 0 t buffer) (spoken (served_at K (event_of c) t at) buffer))
            ≡ reply_left K t (Some at) buffer (cond wrong (Err packet.Size) (cond short (Err packet.Room) (Ok (called_on c here))))
        go true short e = refl
        go false true e = refl
        go false false e = with_room (ltb-false _ _ e)

    nobody : Reacts false None None
    nobody = go (wrong_size (length t))
      where
        go : (wrong : Bool) → cond wrong (refusal 11 0 t buffer) (refusal 12 0 t buffer) ≡ reply_left K t None buffer (cond wrong (Err packet.Size) (Err packet.NoStream))
        go true = refl
        go false = refl

    -- local pause, time and report
    pub react_is : reply_call K (event_of c) ssrc t buffer ≡ reply_left K t (found K t ssrc) buffer (reacted (holder_at K t (found K t ssrc)) c (length t) (length buffer))
    unfolding refuse_if serving.serve
    react_is = reply_chain K ssrc t c buffer ∙ by_search K t ssrc Reacts there nobody

  abbrev Resumes : Bool → Option ℕ → Option Stream → Type 0
  Resumes b i h =
      cond (wrong_size (length t)) (refusal 11 0 t []) (cond (not b) (refusal 12 0 t []) (spoken (cond b (served_at K local_resume t at) (unserved t)) []))
      ≡ resume_left K t i (resumed h (length t))

  -- local resume
  pub resume_is : quiet_call K local_resume ssrc t ≡ resume_left K t (found K t ssrc) (resumed (holder_at K t (found K t ssrc)) (length t))
  unfolding refuse_if serving.serve ruled over
  resume_is = quiet_chain K ssrc t local_resume refl ∙ by_search K t ssrc Resumes (there (wrong_size (length t))) (nobody (wrong_size (length t)))
    where
      unsaid : (o : Outcome) → o.reply ≡ None → spoken (record { table = set t at (K.store (kept_at K t at) o.stream); replies = listed o.reply; said = (0, []) }) [] ≡ resume_left K t (Some at) (Ok o.stream)
      unsaid o e = rw e

      there : (wrong : Bool) → cond wrong (refusal 11 0 t []) (spoken (served_at K local_resume t at) []) ≡ resume_left K t (Some at) (cond wrong (Err change.Size) (Ok (local_resume_row here.state here).stream))
      there true = refl
      there false = unsaid (local_resume_row here.state here) (local_resume_silent here.state here)

      nobody : (wrong : Bool) → cond wrong (refusal 11 0 t []) (refusal 12 0 t []) ≡ resume_left K t None (cond wrong (Err change.Size) (Err change.NoStream))
      nobody true = refl
      nobody false = refl

  abbrev Sends : Bool → Option ℕ → Option Stream → Type 0
  Sends b i h =
      cond (wrong_size (length t)) (refusal 11 0 t []) (cond (not b) (refusal 12 0 t []) (spoken (cond b (served_at K send t at) (unserved t)) []))
      ≡ send_left K t i (sent h (length t))

  -- send
  pub send_is : quiet_call K send ssrc t ≡ send_left K t (found K t ssrc) (sent (holder_at K t (found K t ssrc)) (length t))
  unfolding refuse_if serving.serve ruled over
  send_is = quiet_chain K ssrc t send refl ∙ by_search K t ssrc Sends (there (wrong_size (length t))) (nobody (wrong_size (length t)))
    where
      by_state : (state : State) → send_left K t (Some at) (Ok (sent_by state here)) ≡ record { said = (send_row state here).1; table = set t at (K.store (kept_at K t at) (send_row state here).0); buffer = [] }
      by_state Playing = refl
      by_state (Pausing d) = refl
      by_state Paused = refl
      by_state LocalPaused = refl

      there : (wrong : Bool) → cond wrong (refusal 11 0 t []) (spoken (served_at K send t at) []) ≡ send_left K t (Some at) (cond wrong (Err no-send.Size) (Ok (sent_by here.state here)))
      there true = refl
      there false = sym (by_state here.state)

      nobody : (wrong : Bool) → cond wrong (refusal 11 0 t []) (refusal 12 0 t []) ≡ send_left K t None (cond wrong (Err no-send.Size) (Err no-send.NoStream))
      nobody true = refl
      nobody false = refl

  module _ (c : PauseId) (q : Seq) (rtt dither : ℕ) (nowait : Bool) where
    -- a new stream has the SSRC that it was given
    start_ssrc : (s : Stream) → started_said (Ok s) ≡ starting ssrc c q rtt dither nowait → s.ssrc ≡ ssrc
    start_ssrc s = by_limits (ltb most_milliseconds rtt) (ltb most_milliseconds dither)
      where
        ssrc_of : ℕ × List Stream → ℕ
        ssrc_of (n, []) = 0
        ssrc_of (n, s ∷ l) = s.ssrc

        by_limits : (b d : Bool) → started_said (Ok s) ≡ cond b (14, []) (cond d (14, []) (0, start_of ssrc c q (holdoff_of rtt dither nowait) ∷ [])) → s.ssrc ≡ ssrc
        by_limits true d e = let z : ◌≡◌ {A = ℕ} 0 14 = ap (λ (x : ℕ × List Stream). x.0) e in absurd (omega arith)
        by_limits false true e = let z : ◌≡◌ {A = ℕ} 0 14 = ap (λ (x : ℕ × List Stream). x.0) e in absurd (omega arith)
        by_limits false false e = ap ssrc_of e

    add_by : (dup room : Bool) (s : Stream)
        → cond dup (refusal 15 0 t []) (cond (not room) (refusal 16 0 t []) (stored (set t (vacant K t) (K.store (kept_at K t (vacant K t)) s))))
        ≡ add_left K t (admitted_by (Ok s) (cond dup (Some at) None) (cond room (Some (vacant K t)) None))
    add_by true room s = refl
    add_by false true s = refl
    add_by false false s = refl

    after_start_lem : (new : Result Stream Limit) → started_said new ≡ starting ssrc c q rtt dither nowait → after_start K (starting ssrc c q rtt dither nowait).0 (starting ssrc c q rtt dither nowait).1 t ≡ add_left K t (admitted_by new (found K t ssrc) (vacancy K t))
    unfolding refuse_if
    after_start_lem (Err limit) e = rw (← e)
    after_start_lem (Ok s) e =
        ap (λ (x : ℕ × List Stream). after_start K x.0 x.1 t) (sym e)
        ∙ ap (λ (x : ℕ). cond (answers K t x) (refusal 15 0 t []) (cond (not (ltb (vacant K t) (length t))) (refusal 16 0 t []) (stored (set t (vacant K t) (K.store (kept_at K t (vacant K t)) s))))) (start_ssrc s e)
        ∙ add_by (answers K t ssrc) (ltb (vacant K t) (length t)) s

    -- add
    pub add_is : (new : Result Stream Limit) → started_said new ≡ starting ssrc c q rtt dither nowait → add_call K ssrc c q rtt dither nowait t ≡ add_left K t (admission new (length t) (found K t ssrc) (vacancy K t))
    unfolding add_call side.add_call refuse_if
    add_is new e = rw (found_inside t at, found_inside t (vacant K t)) (by_size (wrong_size (length t)))
      where
        by_size : (wrong : Bool) → cond wrong (refusal 11 0 t []) (after_start K (starting ssrc c q rtt dither nowait).0 (starting ssrc c q rtt dither nowait).1 t) ≡ add_left K t (cond wrong (Err add.Size) (admitted_by new (found K t ssrc) (vacancy K t)))
        by_size true = refl
        by_size false = after_start_lem new e
