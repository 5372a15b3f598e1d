-- The first bytes of an answer are at most five, and the reply that follows them lies in the buffer that was lent for it.
-- Assumes nothing.
use Rattle.std.proofs.lemmas.Grind.{common_steps}
use Rattle.std.proofs.Common.{Bool, true, false, cond, not, List, Option, Some, None, ◌≡◌, refl, sym, subst, ℕ, ◌≤◌, arith, ne_eqb, eqb, ltb, length, drop}
use Rattle.rtcp.specs.Said.{number, fault_never_done}
use Rattle.rtcp.specs.Datagram.{Reading, refused, entries, reading}
use Rattle.rtcp.specs.declared.Fault.{Fault}
use Rattle.stream.specs.Rules.{Event, time, local_pause, local_resume, report, send, ruled}
use Rattle.stream.specs.declared.ReplyEntry.{ReplyEntry}
use Rattle.serving.specs.Serve as serving
use Rattle.sides.specs.Calls as side
use Rattle.decide.proofs.Chain.{reply_chain}
use Rattle.writer.specs.Writer.{packet_of_one}
use Rattle.sender.specs.Calls.{Came, wrong_size, no_room, refuse_if, after_reading, datagram_call, spoken, reply_call, quiet_call, add_call}
use Rattle.decide.specs.code.Decide.{event_of}
use Rattle.sender.specs.Replies.{packets_of, over}
use Rattle.sender.specs.Serve.{answers, place, kept_at, listed, length_of, served_at, unserved, serve, starts, turns}
use Rattle.decide.specs.declared.Call.{Call}
use Rattle.decide.specs.declared.Call.TheVariants as call
use Rattle.rows.specs.Rows.{rows}
use Rattle.frames.specs.Output.{first_bytes, datagram_done, reply_done, quiet_done, number_done, said_head, datagram_head, reply_head}
use Rattle.frames.specs.Frame.{frame_of}
use Rattle.lines.specs.Hex.{bytes_of}
use Rattle.frames.specs.Serve.{Table, Served, came, came_quietly, served, bytes_served}
use Rattle.frames.specs.Whole.{digits_served}
use Rattle.frames.specs.declared.answer.Head.{Head}
use Rattle.frames.specs.declared.frame.Frame.{Frame}
use Rattle.frames.specs.declared.frame.Frame.TheVariants as frame

-- no refusal is case 0
pub fault_numbered : (f : Fault) → eqb (number f) 0 ≡ false
fault_numbered f = ne_eqb (number f) 0 (fault_never_done f)

-- ---- the first bytes

-- at most five, which is how many there are
abbrev Few : Head → Type 0
Few h = (h.count ≤ first_bytes) × (length h.bytes ≡ first_bytes)

-- a refusal has three
said_few : (done : List ℕ → Head) (said : ℕ × List ℕ) → Few (done said.1) → Few (said_head done said)
said_few done said few = grind (arith, few)

-- a refusal has no reply
said_silent : (done : List ℕ → Head) (said : ℕ × List ℕ) (room : ℕ) → (done said.1).reply ≤ room → (said_head done said).reply ≤ room
said_silent done said room short = grind (arith, short)

-- ---- the reply

-- the reply that the head of an answer tells of lies in the buffer
Within : (ℕ × List ℕ → Head) → Came (List ℕ) → Type 0
Within head c = (head c.said).reply ≤ length c.buffer

refused_within : (done : List ℕ → Head) (test : Bool) (case : ℕ) (t : Table) (b : List ℕ) (x : Came (List ℕ))
    → eqb case 0 ≡ false → Within (said_head done) x → Within (said_head done) (refuse_if test case t b x)
unfolding refuse_if Within
refused_within done test case t b x some w = grind (arith, some, w)

written_within : (p b : List ℕ) → length p ≤ length (over p b)
unfolding over
written_within p b = grind (arith, common_steps)

module _ (now : ℕ) (t : Table) (b : List ℕ) where
  reading_within : (r : Reading) → Within datagram_head (after_reading rows r now t b)
  unfolding Within
  reading_within (refused f at) = rw (fault_numbered f) (omega arith)
  reading_within (entries es) =
      refused_within datagram_done (no_room (length es) (length b)) 10 t b _ refl (written_within (packets_of (turns rows now (starts t) es).replies) b)

  datagram_within : (d : List ℕ) → Within datagram_head (datagram_call rows d now t b)
  unfolding side.datagram_call
  datagram_within d = refused_within datagram_done (wrong_size (length t)) 11 t b _ refl (reading_within (reading d))

module _ (ssrc : ℕ) (t : Table) (b : List ℕ) where
  -- one packet or nothing
  reply_within : (r : Option ReplyEntry) → length_of r ≤ length (over (packets_of (listed r)) b)
  reply_within None = omega arith
  reply_within (Some e) = written_within (packets_of (listed (Some e))) b

  -- the reply of the stream that is called
  abbrev heard : Event → Option ReplyEntry
  heard e = (ruled e (rows.read (kept_at rows t (place rows t ssrc)))).reply

  spoken_within : (c : Call) → Within reply_head (spoken (serve rows (record { ssrc = ssrc; event = event_of c }) t) b)
  unfolding serving.serve Within
  spoken_within c = go (answers rows t ssrc) c
    where
      go : (found : Bool) (c : Call) → Within reply_head (spoken (cond found (served_at rows (event_of c) t (place rows t ssrc)) (unserved t)) b)
      go true call.LocalPause = reply_within (heard local_pause)
      go true (call.Time now) = reply_within (heard (time now))
      go true call.Report = reply_within (heard report)
      go false call.LocalPause = omega arith
      go false (call.Time now) = omega arith
      go false call.Report = omega arith

  call_within : (c : Call) → Within reply_head (reply_call rows (event_of c) ssrc t b)
  call_within c =
      subst (Within reply_head) (sym (reply_chain rows ssrc t c b))
      (refused_within reply_done (wrong_size (length t)) 11 t b _ refl
      (refused_within reply_done (not (answers rows t ssrc)) 12 t b _ refl
      (refused_within reply_done (ltb (length b) packet_of_one) 10 t b _ refl (spoken_within c))))

-- ---- a frame

abbrev pub Fits : Served → Type 0
Fits s = Few s.head × (s.head.reply ≤ length s.reply)

-- a call that is lent no buffer
quietly_fits : (done : List ℕ → Head) → ((values : List ℕ) → Few (done values)) → ((values : List ℕ) → (done values).reply ≤ 0)
    → (c : Came (List ℕ)) (b : List ℕ) → Fits (came_quietly (said_head done) c b)
quietly_fits done few silent c b =
    let none = said_silent done c.said 0 (silent c.said.1) in
    (said_few done c.said (few c.said.1), omega arith)

-- one that is lent a buffer
fits : (done : List ℕ → Head) → ((values : List ℕ) → Few (done values)) → (c : Came (List ℕ)) → Within (said_head done) c → Fits (came (said_head done) c)
unfolding Within
fits done few c within = (said_few done c.said (few c.said.1), within)

few : (values : List ℕ) → (Few (datagram_done values)) × (Few (reply_done values)) × (Few (quiet_done values)) × (Few (number_done values))
few values = ((omega arith, refl), (omega arith, refl), (omega arith, refl), (omega arith, refl))

frame_fits : (f : Option Frame) (bytes : List ℕ) (t : Table) (b : List ℕ) → Fits (served f bytes t b)
frame_fits (Some (frame.Datagram now)) bytes t b = fits datagram_done (λ values. (few values).0) _ (datagram_within now t b (drop 5 bytes))
frame_fits (Some (frame.Add a)) bytes t b =
    quietly_fits quiet_done (λ values. (few values).2) (λ values. omega arith)
    (add_call rows a.ssrc a.id a.next a.rtt a.dither a.nowait t) b
frame_fits (Some (frame.LocalPause ssrc)) bytes t b = fits reply_done (λ values. (few values).1) _ (call_within ssrc t b call.LocalPause)
frame_fits (Some (frame.LocalResume ssrc)) bytes t b = quietly_fits quiet_done (λ values. (few values).2) (λ values. omega arith) (quiet_call rows local_resume ssrc t) b
frame_fits (Some (frame.Time ssrc now)) bytes t b = fits reply_done (λ values. (few values).1) _ (call_within ssrc t b (call.Time now))
frame_fits (Some (frame.Report ssrc)) bytes t b = fits reply_done (λ values. (few values).1) _ (call_within ssrc t b call.Report)
frame_fits (Some (frame.Send ssrc)) bytes t b = quietly_fits number_done (λ values. (few values).3) (λ values. omega arith) (quiet_call rows send ssrc t) b
frame_fits None bytes t b = ((omega arith, refl), omega arith)

pub bytes_fit : (bytes : List ℕ) (t : Table) (b : List ℕ) → Fits (bytes_served bytes t b)
unfolding bytes_served
bytes_fit bytes t b = frame_fits (frame_of bytes) bytes t b

pub digits_fit : (line : List ℕ) (t : Table) (b : List ℕ) → Fits (digits_served line t b)
unfolding digits_served
digits_fit line t b = grind (arith, bytes_fit (bytes_of line) t b)

-- what came back fits
module _ {said : ℕ × List ℕ} {u : Table} {c : List ℕ} {h : Head} where
  came_fits : (done : List ℕ → Head) → ((values : List ℕ) → Few (done values)) → (x : Came (List ℕ)) → Within (said_head done) x
      → x ≡ record { said = said; table = u; buffer = c } → h ≡ said_head done said → (h.count ≤ length h.bytes) × (h.reply ≤ length c)
  came_fits done few x within e head =
      let small = rw e at (fits done few x within) in
      rw head (omega (arith, small.0.0, small.0.1), small.1)

  pub datagram_fits : (d : List ℕ) (now : ℕ) (t : Table) (b : List ℕ) → datagram_call rows d now t b ≡ record { said = said; table = u; buffer = c }
      → h ≡ datagram_head said → (h.count ≤ length h.bytes) × (h.reply ≤ length c)
  datagram_fits d now t b e head = came_fits datagram_done (λ values. (few values).0) _ (datagram_within now t b d) e head

  pub reply_fits : (call : Call) (ssrc : ℕ) (t : Table) (b : List ℕ) → reply_call rows (event_of call) ssrc t b ≡ record { said = said; table = u; buffer = c }
      → h ≡ reply_head said → (h.count ≤ length h.bytes) × (h.reply ≤ length c)
  reply_fits call ssrc t b e head = came_fits reply_done (λ values. (few values).1) _ (call_within ssrc t b call) e head
