-- "The reply buffer is large enough that Room never occurs": no call that replies comes back with case 10, and n and u are at most 186.
-- Assumes nothing.
use Rattle.std.proofs.Common.{Bool, true, false, cond, not, List, [], ◌∷◌, ◌≡◌, refl, sym, subst, ℕ, ◌+◌, ◌≤◌, arith, ne_eqb, eqb, ltb, length}
use Rattle.std.proofs.lemmas.List.{length-replicate}
use Rattle.rtcp.specs.Said.{number}
use Rattle.rtcp.specs.Datagram.{most_entries, Reading, refused, entries, reading}
use Rattle.rtcp.specs.declared.Entry.{Entry}
use Rattle.rtcp.specs.declared.Fault.{Fault}
use Rattle.rtcp.proofs.Cases.{fault_number}
use Rattle.rtcp.proofs.Bounds.{most_entries_lem}
use Rattle.serving.specs.Serve as serving
use Rattle.sides.specs.Calls as side
use Rattle.sides.specs.Entries as entry
use Rattle.decide.proofs.Chain.{reply_chain}
use Rattle.writer.specs.Writer.{packet_of_one}
use Rattle.sender.proofs.Room.{enough_room}
use Rattle.sender.specs.Calls.{Came, wrong_size, no_room, refuse_if, after_reading, datagram_call, spoken, reply_call}
use Rattle.decide.specs.code.Decide.{event_of}
use Rattle.rows.specs.Rows.{rows}
use Rattle.sender.specs.Replies.{most_reply}
use Rattle.sender.specs.Serve.{Between, answers, place, served_at, unserved, turn, starts, turns}
use Rattle.decide.specs.declared.Call.{Call}
use Rattle.decide.specs.declared.Call.TheVariants as call
use Rattle.frames.specs.Output.{value_at}
use Rattle.frames.specs.Serve.{Table}
use Rattle.frames.specs.Whole.{reply_room}

pub room_long : length reply_room ≡ most_reply
unfolding reply_room
room_long = length-replicate {A = ℕ} most_reply 0

fault_other : (f : Fault) → eqb (number f) 10 ≡ false
fault_other f = ne_eqb (number f) 10 (λ e. let few = (fault_number f).1 in absurd (omega arith))

abbrev Other : Came (List ℕ) → Type 0
Other x = eqb x.said.0 10 ≡ false

refused_other : (test : Bool) (case : ℕ) (t : Table) (b : List ℕ) (x : Came (List ℕ)) → eqb case 10 ≡ false → Other x → Other (refuse_if test case t b x)
unfolding refuse_if
refused_other test case t b x e o = grind (arith, e, o)

not_refused : (test : Bool) (case : ℕ) (t : Table) (b : List ℕ) (x : Came (List ℕ)) → test ≡ false → Other x → Other (refuse_if test case t b x)
unfolding refuse_if
not_refused test case t b x e o = rw e o

module _ (now : ℕ) (t : Table) where
  pub datagram_roomy : (d : List ℕ) → eqb (datagram_call rows d now t reply_room).said.0 10 ≡ false
  unfolding side.datagram_call
  datagram_roomy d = refused_other (wrong_size (length t)) 11 t reply_room _ refl (go (reading d) refl)
    where
      go : (r : Reading) → reading d ≡ r → Other (after_reading rows r now t reply_room)
      go (refused f at) e = fault_other f
      go (entries es) e =
          let few = most_entries_lem d es e in
          not_refused (no_room (length es) (length reply_room)) 10 t reply_room _
          (rw room_long (enough_room (length es) most_reply (omega arith))) refl

  one_more : (known : Bool) → cond known 0 1 ≤ 1
  one_more known = grind arith

  unknown_most : (run : Between (List ℕ)) (es : List Entry) → (turns rows now run es).unknown ≤ run.unknown + length es
  unfolding entry.turn
  unknown_most run [] = omega arith
  unknown_most run (e ∷ es) =
      let one = one_more (answers rows run.table e.target) in
      let rest = unknown_most (turn rows now run e) es in
      omega arith

  abbrev Few : Came (List ℕ) → Type 0
  Few x = (value_at x.said.1 1 ≤ most_entries) × (value_at x.said.1 2 ≤ most_entries)

  refused_small : (test : Bool) (case : ℕ) (x : Came (List ℕ)) → Few x → Few (refuse_if test case t reply_room x)
  unfolding refuse_if
  refused_small test case x few = grind (arith, few)

  -- n and u
  pub counts_small : (d : List ℕ) → (value_at (datagram_call rows d now t reply_room).said.1 1 ≤ most_entries) × (value_at (datagram_call rows d now t reply_room).said.1 2 ≤ most_entries)
  unfolding side.datagram_call
  counts_small d = refused_small (wrong_size (length t)) 11 _ (go (reading d) refl)
    where
      go : (r : Reading) → reading d ≡ r → Few (after_reading rows r now t reply_room)
      go (refused f at) e = (omega arith, omega arith)
      go (entries es) e =
          let few = most_entries_lem d es e in
          let u = unknown_most (starts t) es in
          refused_small (no_room (length es) (length reply_room)) 10 _ (omega arith, omega arith)

module _ (ssrc : ℕ) (t : Table) where
  pub reply_roomy : (c : Call) → eqb (reply_call rows (event_of c) ssrc t reply_room).said.0 10 ≡ false
  unfolding serving.serve
  reply_roomy c =
      subst Other (sym (reply_chain rows ssrc t c reply_room))
      (refused_other (wrong_size (length t)) 11 t reply_room _ refl
      (refused_other (not (answers rows t ssrc)) 12 t reply_room _ refl
      (not_refused (ltb (length reply_room) packet_of_one) 10 t reply_room _ (rw room_long) (go (answers rows t ssrc) c))))
    where
      go : (found : Bool) (c : Call) → Other (spoken (cond found (served_at rows (event_of c) t (place rows t ssrc)) (unserved t)) reply_room)
      go true call.LocalPause = refl
      go true (call.Time at) = refl
      go true call.Report = refl
      go false call.LocalPause = refl
      go false (call.Time at) = refl
      go false call.Report = refl
