-- The local calls as the document has them, refusal by refusal. For any way of keeping the records.
-- Assumes nothing.
use Rattle.std.proofs.Common.{◌≡◌, ℕ, false, not, ◌&&◌, ltb, List, [], length, refl, ap, ◌∙◌}
use mathlib.Core.Bool.{and-false}
use Rattle.writer.specs.Writer.{packet_of_one}
use Rattle.stream.specs.Rules.{Event}
use Rattle.sides.specs.Calls.{allowed}
use Rattle.sides.specs.Calls as side
use Rattle.sides.proofs.Chain.{accepted}
use Rattle.sender.specs.Calls.{Came, wrong_size, refuse_if, short, sender, spoken, reply_call, quiet_call}
use Rattle.decide.specs.code.Decide.{event_of}
use Rattle.sender.specs.Keeping.{Keeping}
use Rattle.sender.specs.Serve.{answers, serve}
use Rattle.decide.specs.declared.Call.{Call}
use Rattle.decide.specs.declared.Call.TheVariants as call

module _ {A : Type 0} (K : Keeping A) (ssrc : ℕ) (t : List A) where
  -- local pause, time and report: Size, NoStream, Room ("under 20, reply or none")
  pub reply_chain : (c : Call) (buffer : List ℕ)
      → reply_call K (event_of c) ssrc t buffer
      ≡ refuse_if (wrong_size (length t)) 11 t buffer
      (refuse_if (not (answers K t ssrc)) 12 t buffer
      (refuse_if (ltb (length buffer) packet_of_one) 10 t buffer (spoken (serve K (record { ssrc = ssrc; event = event_of c }) t) buffer)))
  unfolding side.local_call
  reply_chain call.LocalPause buffer = refl
  reply_chain (call.Time at) buffer = refl
  reply_chain call.Report buffer = refl

  -- local resume and send: Size, NoStream; Held is what the rules of send say
  pub quiet_chain : (e : Event) → short e 0 ≡ false
      → quiet_call K e ssrc t
      ≡ refuse_if (wrong_size (length t)) 11 t []
      (refuse_if (not (answers K t ssrc)) 12 t [] (spoken (serve K (record { ssrc = ssrc; event = e }) t) []))
  unfolding side.local_call
  quiet_chain e quiet =
      let may = allowed sender K e ssrc t in
      ap (λ (came : Came A). refuse_if (wrong_size (length t)) 11 t [] (refuse_if (not (answers K t ssrc)) 12 t [] came))
      (accepted (may && short e 0) 10 t [] _ (ap (λ b. may && b) quiet ∙ and-false may))
