-- A refusal changes no record and no byte, and so a run of refused calls changes nothing.
-- Assumes nothing.
use Prim.Native.Nat.{ℕ}
use mathlib.Core.Path.{◌≡◌, refl, sym, ap, ◌∙◌}
use mathlib.Core.Bool.{cond}
use mathlib.Core.List.{List, [], ◌∷◌}
use borrow.Author.Tests.{ne_eqb}
use lib.Dec.{eqb}
use lib.ListN.{length, take, drop}
use lib.Seq.{take-append_seam}
use Rattle.serving.specs.Keeping.{Keeping}
use Rattle.serving.specs.Rules.{Rules}
use Rattle.serving.specs.Run.{serving}
use Rattle.serving.proofs.Faithful.{Faithful}
use Rattle.sides.specs.Calls.{Side, sent_bytes, Came, over, add_call, remove_call}
use Rattle.sides.specs.Run.{Call, buffer_of, carried, answers_of, made, sent, run, AllRefused}
use Rattle.sides.proofs.Chain.{remove_cases, add_cases}
use Rattle.sides.proofs.Outcome.{Outcome, refuses, serves, outcome}
use Rattle.sides.proofs.Side.{LawfulSide}

-- where nothing is sent, no byte is written
over_nothing : (buffer : List ℕ) → over [] buffer ≡ buffer
unfolding over
over_nothing buffer = refl

-- what is sent stands first, whatever the buffer
pub over_first : (bytes buffer : List ℕ) → take (length bytes) (over bytes buffer) ≡ bytes
unfolding over
over_first bytes buffer = take-append_seam bytes (drop (length bytes) buffer)

-- ---- a call of a run

module _ {S E R A : Type 0} (D : Side S E R) (U : LawfulSide D) (K : Keeping S A) (F : Faithful D.rules K) where
  -- a call that says anything but Done
  module _ (call : Call E) (t : List A) (refused : ¬ ((made D K call t).said.0 ≡ 0)) where
    nothing : (l : List R) → cond (eqb (made D K call t).said.0 0) l [] ≡ []
    nothing l = rw (ne_eqb (made D K call t).said.0 0 refused)

    pub refused_sends_nothing : sent D K call t ≡ []
    refused_sends_nothing = nothing (serving D.rules K (carried D.entered call) t).replies

    pub refused_stays : ((made D K call t).table ≡ t) × ((made D K call t).buffer ≡ buffer_of call)
    refused_stays = go (outcome D U K F t call)
      where
        go : Outcome D K t (buffer_of call) (answers_of D.rules call) (carried D.entered call) (made D K call t)
            → ((made D K call t).table ≡ t) × ((made D K call t).buffer ≡ buffer_of call)
        go (refuses case at not_done e) = (ap (λ (c : Came A). c.table) e, ap (λ (c : Came A). c.buffer) e)
        go (serves came e stays) = (
          stays refused,
          e ∙ ap (λ l. over (sent_bytes D l) (buffer_of call)) (sym came.replies ∙ nothing (serving D.rules K (carried D.entered call) t).replies) ∙ over_nothing (buffer_of call),
        )

  -- the reply buffer after any call: what it sent, over the buffer as it was lent
  pub written : (call : Call E) (t : List A) → (made D K call t).buffer ≡ over (sent_bytes D (sent D K call t)) (buffer_of call)
  written call t = go (outcome D U K F t call)
    where
      go : Outcome D K t (buffer_of call) (answers_of D.rules call) (carried D.entered call) (made D K call t)
          → (made D K call t).buffer ≡ over (sent_bytes D (sent D K call t)) (buffer_of call)
      go (refuses case at not_done e) =
          ap (λ (c : Came A). c.buffer) e
          ∙ sym (over_nothing (buffer_of call))
          ∙ ap (λ l. over (sent_bytes D l) (buffer_of call))
          (sym (refused_sends_nothing call t (λ done. not_done (sym (ap (λ (c : Came A). c.said.0) e) ∙ done))))
      go (serves came e stays) = e ∙ ap (λ l. over (sent_bytes D l) (buffer_of call)) (sym came.replies)

  pub refused_run : (calls : List (Call E)) (t : List A) → AllRefused D K calls t → ((run D K calls t).table ≡ t) × ((run D K calls t).replies ≡ [])
  refused_run [] t refused = (refl, refl)
  refused_run (call ∷ calls) t refused =
      let rest = refused_run calls (made D K call t).table refused.1 in
      (rest.0 ∙ (refused_stays call t refused.0).0, rw (refused_sends_nothing call t refused.0) rest.1)

-- ---- add and remove

module _ {S E R A : Type 0} (M : Rules S E R) (K : Keeping S A) (t : List A) where
  pub refused_remove : (ssrc : ℕ) → ¬ ((remove_call M K ssrc t).said.0 ≡ 0) → (remove_call M K ssrc t).table ≡ t
  refused_remove ssrc =
      remove_cases M K t (λ came. ¬ (came.said.0 ≡ 0) → came.table ≡ t) (λ case refused. refl) ssrc (λ found refused. absurd (refused refl))

  pub refused_add : (start : ℕ × List S) → ¬ ((add_call M K start t).said.0 ≡ 0) → (add_call M K start t).table ≡ t
  refused_add =
      add_cases M K t (λ came. ¬ (came.said.0 ≡ 0) → came.table ≡ t) (λ case refused. refl) (λ s new room refused. absurd (refused refl))
