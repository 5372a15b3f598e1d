-- No answer tells of what a reply buffer held before: with any buffer of the room's length a line leads to the table and the answer that it leads to with one of
-- zeros. What a call sends stands at the buffer's start and Done tells its length; a refusal tells of no reply.
-- Assumes nothing.
use Rattle.std.proofs.Common.{arith, Bool, false, cond, not, ◌&&◌, List, [], ◌∷◌, Option, Some, None, ◌≡◌, refl, sym, ap, ◌∙◌, ℕ, eqb, length, drop}
use Rattle.rtcp.specs.Said.{number}
use Rattle.rtcp.specs.Datagram.{Reading, refused, entries, reading}
use Rattle.stream.specs.Rules.{time, local_pause, local_resume, report, send, ruled}
use Rattle.serving.specs.Keeping.{Keeping}
use Rattle.serving.specs.Serve.{Served, answers, serve}
use Rattle.sides.specs.Calls.{Side, sent_bytes, Came, wrong_size, refusal, refuse_if, over, after_reading, datagram_call, allowed, local_call}
use Rattle.sides.specs.Entries.{Between, starts, turns}
use Rattle.sides.proofs.Refused.{over_first}
use Rattle.sides.proofs.Written.{Tells, served_long}
use Rattle.sender.specs.Calls.{quiet_call, add_call}
use Rattle.sender.specs.Replies.{most_reply}
use Rattle.sender.proofs.Replies.{length_told}
use Rattle.rows.specs.Rows.{rows}
use Rattle.lines.specs.Hex.{bytes_of}
use Rattle.frames.specs.Output.{value_at, answer_of, case_head, datagram_done, reply_done, quiet_done, number_done, said_head}
use Rattle.frames.specs.Frame.{frame_of}
use Rattle.frames.specs.Serve.{Table, came, came_quietly, served, bytes_served}
use Rattle.frames.specs.Whole.{reply_room, digits_served, answered, line_served}
use Rattle.frames.specs.declared.answer.Head.{Head}
use Rattle.frames.specs.declared.frame.Frame.{Frame}
use Rattle.frames.specs.declared.frame.Frame.TheVariants as frame
use Rattle.frames.proofs.Fits.{fault_numbered}
use Rattle.frames.proofs.Room.{room_long}

-- ---- what is printed

module _ (done : List ℕ → Head) (said : ℕ × List ℕ) where
  abbrev head_if : Bool → Head
  head_if is_done = cond is_done (done said.1) (case_head said.0 (value_at said.1 0))

  -- Done tells as many bytes of the reply as were sent
  sent_same : (bytes a b : List ℕ) → (said.0 ≡ 0 → (done said.1).reply ≡ length bytes)
      → answer_of (said_head done said) (over bytes a) ≡ answer_of (said_head done said) (over bytes b)
  sent_same bytes a b told = grind (arith, told, over_first bytes a, over_first bytes b)

  -- a refusal tells of no reply
  refused_same : (a b : List ℕ) → eqb said.0 0 ≡ false → answer_of (said_head done said) a ≡ answer_of (said_head done said) b
  refused_same a b some = grind (arith, some)

  -- Done tells of no reply
  silent_same : (a b : List ℕ) → (done said.1).reply ≡ 0 → answer_of (said_head done said) a ≡ answer_of (said_head done said) b
  silent_same a b silent = grind (arith, silent)

-- ---- a call

-- two calls that came back left the same table and are printed the same
abbrev Same : (List ℕ → Head) → Came (List ℕ) → Came (List ℕ) → Type 0
Same done x y = answered (came (said_head done) x) ≡ answered (came (said_head done) y)

module _ (done : List ℕ → Head) (t : Table) (a b : List ℕ) where
  refusal_same : (case place : ℕ) → eqb case 0 ≡ false → Same done (refusal case place t a) (refusal case place t b)
  refusal_same case place some = ap (λ (answer : List ℕ). record { table = t; answer = answer }) (refused_same done (case, place ∷ []) a b some)

  refuse_same : (test : Bool) (case : ℕ) (x y : Came (List ℕ)) → eqb case 0 ≡ false → Same done x y → Same done (refuse_if test case t a x) (refuse_if test case t b y)
  unfolding refuse_if
  refuse_same test case x y some same = grind (arith, refusal_same case 0 some, same)

-- any side's call, with two buffers of one length
module _ {S E R : Type 0} (D : Side S E R) (K : Keeping S (List ℕ)) (t : Table) (a b : List ℕ) (long : length a ≡ length b) where
  module _ (told : (count n u : ℕ) → value_at (D.counts count n u) 0 ≡ count) (now : ℕ) where
    reading_same : (r : Reading) → Same datagram_done (after_reading D K r now t a) (after_reading D K r now t b)
    reading_same (refused fault at) = refusal_same datagram_done t a b (number fault) at (fault_numbered fault)
    reading_same (entries es) =
        let after : Between (List ℕ) R = turns D.rules D.entered K now (starts t) es in
        let count = length (sent_bytes D after.replies) in
        rw long
        (refuse_same datagram_done t a b (D.no_room (length es) (length b)) 10 _ _ refl
        (ap (λ (answer : List ℕ). record { table = after.table; answer = answer })
        (sent_same datagram_done (0, D.counts count (length es) after.unknown) (sent_bytes D after.replies) a b (λ e. told count (length es) after.unknown))))

    datagram_same : (d : List ℕ) → Same datagram_done (datagram_call D K d now t a) (datagram_call D K d now t b)
    unfolding datagram_call
    datagram_same d = refuse_same datagram_done t a b (wrong_size (length t)) 11 _ _ refl (reading_same (reading d))

  local_same : (e : E) → Tells D K e → (ssrc : ℕ) → Same reply_done (local_call D K e ssrc t a) (local_call D K e ssrc t b)
  unfolding local_call
  local_same e tells ssrc =
      rw long
      (refuse_same reply_done t a b (wrong_size (length t)) 11 _ _ refl
      (refuse_same reply_done t a b (not (answers D.rules K t ssrc)) 12 _ _ refl
      (refuse_same reply_done t a b (allowed D K e ssrc t && D.short e (length b)) 10 _ _ refl
      (ap (λ (answer : List ℕ). record { table = after.table; answer = answer })
      (sent_same reply_done after.said (sent_bytes D after.replies) a b (λ done. ap (λ values. value_at values 0) (served_long D K e tells ssrc t done)))))))
    where
      after : Served (List ℕ) R
      after = serve D.rules K (record { ssrc = ssrc; event = e }) t

-- a call that is lent no buffer
quietly_same : (done : List ℕ → Head) → ((values : List ℕ) → (done values).reply ≡ 0) → (c : Came (List ℕ)) (a b : List ℕ)
    → answered (came_quietly (said_head done) c a) ≡ answered (came_quietly (said_head done) c b)
quietly_same done silent c a b = ap (λ (answer : List ℕ). record { table = c.table; answer = answer }) (silent_same done c.said a b (silent c.said.1))

-- ---- a frame

module _ (t : Table) (a b : List ℕ) (long : length a ≡ length b) where
  frame_same : (f : Option Frame) (bytes : List ℕ) → answered (served f bytes t a) ≡ answered (served f bytes t b)
  frame_same (Some (frame.Datagram now)) bytes = datagram_same _ rows t a b long (λ count n u. refl) now (drop 5 bytes)
  frame_same (Some (frame.Add adding)) bytes =
      quietly_same quiet_done (λ values. refl)
      (add_call rows adding.ssrc adding.id adding.next adding.rtt adding.dither adding.nowait t) a b
  frame_same (Some (frame.LocalPause ssrc)) bytes = local_same _ rows t a b long local_pause (λ s done. length_told (ruled local_pause s).reply) ssrc
  frame_same (Some (frame.LocalResume ssrc)) bytes = quietly_same quiet_done (λ values. refl) (quiet_call rows local_resume ssrc t) a b
  frame_same (Some (frame.Time ssrc now)) bytes = local_same _ rows t a b long (time now) (λ s done. length_told (ruled (time now) s).reply) ssrc
  frame_same (Some (frame.Report ssrc)) bytes = local_same _ rows t a b long report (λ s done. length_told (ruled report s).reply) ssrc
  frame_same (Some (frame.Send ssrc)) bytes = quietly_same number_done (λ values. refl) (quiet_call rows send ssrc t) a b
  frame_same None bytes = refl

  digits_same : (line : List ℕ) → answered (digits_served line t a) ≡ answered (digits_served line t b)
  unfolding digits_served bytes_served
  digits_same line = grind (arith, frame_same (frame_of (bytes_of line)) (bytes_of line))

-- ---- a line

pub any_reply : (line : List ℕ) (t : Table) (reply : List ℕ) → length reply ≡ most_reply → answered (digits_served line t reply) ≡ line_served line t
unfolding line_served
any_reply line t reply long = digits_same t reply reply_room (long ∙ sym room_long) line
