-- One entry as the code goes through it (specs/code/Turning.antt) is one entry as the document runs it (`turn` of the crate `sides`), for any way of keeping the
-- records.
-- Assumes nothing.
use Rattle.std.proofs.Common.{◌≡◌, ℕ, ◌≤◌, Bool, cond, Option, Some, None, List, refl, arith}
use Rattle.rtcp.specs.declared.Entry.{Entry}
use Rattle.writer.specs.Writer.{packet_of_one}
use Rattle.stream.specs.Rules.{ruled}
use Rattle.stream.specs.declared.Stream.{Stream}
use Rattle.stream.specs.declared.ReplyEntry.{ReplyEntry}
use Rattle.stream.specs.declared.Outcome.{Outcome}
use Rattle.serving.specs.Serve as serving
use Rattle.sides.specs.code.Places.{holder_at}
use Rattle.sender.specs.Keeping.{Keeping}
use Rattle.sender.specs.Serve.{answers, place, request_of, length_of, listed, Served, served_at, unserved, serve}
use Rattle.decide.specs.code.Decide.{taken}
use Rattle.decide.specs.code.Turning.{found, kept_by, reply_of, unknown_of}
use Rattle.decide.proofs.Found.{by_search}

pub taken_unknown : (o : Option Outcome) → unknown_of o ≤ 1
taken_unknown (Some o) = omega arith
taken_unknown None = omega arith

pub length_few : (r : Option ReplyEntry) → length_of r ≤ packet_of_one
length_few None = omega arith
length_few (Some e) = omega arith

module _ {A : Type 0} (K : Keeping A) (t : ℕ) (table : List A) (e : Entry) where
  -- the same three parts at either end of the search
  abbrev Same : Bool → Option ℕ → Option Stream → Type 0
  Same b i h =
      let served : Served A = cond b (served_at K (request_of t e).event table (place K table e.target)) (unserved table) in
      let decided = taken h e t in
      (kept_by K table i decided ≡ served.table) × (listed (reply_of decided) ≡ served.replies) × (unknown_of decided ≡ cond b 0 1)

  -- the table is that of the document, the replies are, and whether a stranger is counted
  abbrev pub Entered : Option ℕ → Option Outcome → Type 0
  Entered i decided =
      (kept_by K table i decided ≡ (serve K (request_of t e) table).table)
      × (listed (reply_of decided) ≡ (serve K (request_of t e) table).replies)
      × (unknown_of decided ≡ cond (answers K table e.target) 0 1)

  pub entered_is : Entered (found K table e.target) (taken (holder_at K table (found K table e.target)) e t)
  unfolding serving.serve ruled
  entered_is = by_search K table e.target Same (refl, refl, refl) (refl, refl, refl)
