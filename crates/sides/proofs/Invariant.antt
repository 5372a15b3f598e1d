-- "No two in use share an SSRC" is kept by every call, add and remove too, with any table and any buffer; and so is the table's size.
-- Assumes nothing.
use Prim.Native.Nat.{ℕ, ◌<◌}
use mathlib.Core.Path.{◌≡◌, refl, sym, ap, ◌∙◌, subst}
use mathlib.Core.Bool.{false, true≢false}
use mathlib.Core.List.{List, [], ◌∷◌}
use native.Mathlib.Decide.{ℕ_discrete}
use lib.ListN.{length, set, length-set}
use lib.Seq.{get_or-set_same, get_or-set_other}
use Rattle.serving.specs.Apart.{record_at, ssrc_at, InUse, NoTwo}
use Rattle.serving.specs.Keeping.{Keeping}
use Rattle.serving.specs.Rules.{Rules}
use Rattle.serving.specs.Serve.{place, kept_at}
use Rattle.serving.proofs.Faithful.{Faithful}
use Rattle.serving.proofs.Place.{answering, in_use_answers}
use Rattle.serving.proofs.Request.{fewer_no_two, keeps_no_two}
use Rattle.serving.proofs.Serving.{serving_length, serving_keeps}
use Rattle.sides.specs.Calls.{Side, Came, vacant, add_call, remove_call}
use Rattle.sides.specs.Run.{Call, buffer_of, carried, answers_of, made, run}
use Rattle.sides.proofs.Chain.{remove_cases, add_cases}
use Rattle.sides.proofs.Outcome.{Outcome, refuses, serves, outcome}
use Rattle.sides.proofs.Side.{LawfulSide}

-- ---- a call of a run

module _ {S E R A : Type 0} (D : Side S E R) (U : LawfulSide D) (K : Keeping S A) (F : Faithful D.rules K) where
  pub call_keeps_no_two : (call : Call E) (t : List A) → NoTwo D.rules K t → NoTwo D.rules K (made D K call t).table
  call_keeps_no_two call t no_two = go (outcome D U K F t call)
    where
      go : Outcome D K t (buffer_of call) (answers_of D.rules call) (carried D.entered call) (made D K call t) → NoTwo D.rules K (made D K call t).table
      go (refuses case at not_done e) = rw e no_two
      go (serves came e stays) = rw came.table (keeps_no_two D.rules K t _ (serving_keeps D.rules K U.rules F (carried D.entered call) t) no_two)

  pub call_keeps_size : (call : Call E) (t : List A) → length (made D K call t).table ≡ length t
  call_keeps_size call t = go (outcome D U K F t call)
    where
      go : Outcome D K t (buffer_of call) (answers_of D.rules call) (carried D.entered call) (made D K call t) → length (made D K call t).table ≡ length t
      go (refuses case at not_done e) = ap (λ (c : Came A). length c.table) e
      go (serves came e stays) = ap length came.table ∙ serving_length D.rules K (carried D.entered call) t

  pub run_keeps_no_two : (calls : List (Call E)) (t : List A) → NoTwo D.rules K t → NoTwo D.rules K (run D K calls t).table
  run_keeps_no_two [] t no_two = no_two
  run_keeps_no_two (call ∷ calls) t no_two = run_keeps_no_two calls (made D K call t).table (call_keeps_no_two call t no_two)

-- ---- one place changed

module _ {S E R A : Type 0} (M : Rules S E R) (K : Keeping S A) (t : List A) (p : ℕ) (a : A) (inside : p < length t) where
  at_place : record_at K (set t p a) p ≡ K.read a
  at_place = ap K.read (get_or-set_same t p a K.none inside)

  elsewhere : (i : ℕ) → ¬ (i ≡ p) → record_at K (set t p a) i ≡ record_at K t i
  elsewhere i away = ap K.read (get_or-set_other t p i a K.none away)

  stood : (i : ℕ) → ¬ (i ≡ p) → InUse M K (set t p a) i → InUse M K t i × (ssrc_at M K (set t p a) i ≡ ssrc_at M K t i)
  stood i away used = (sym (ap M.used (elsewhere i away)) ∙ used, ap M.ssrc (elsewhere i away))

  -- by a record not in use
  cleared_no_two : M.used (K.read a) ≡ false → NoTwo M K t → NoTwo M K (set t p a)
  cleared_no_two unused =
      fewer_no_two M K t (set t p a)
      (λ i used. stood i (λ is. true≢false (sym (subst (InUse M K (set t p a)) is used) ∙ ap M.used at_place ∙ unused)) used)

  -- by a record whose SSRC nobody in use has
  added_no_two : ((i : ℕ) → InUse M K t i → ¬ (ssrc_at M K t i ≡ M.ssrc (K.read a))) → NoTwo M K t → NoTwo M K (set t p a)
  added_no_two new no_two i j ui uj e = go (ℕ_discrete i p) (ℕ_discrete j p)
    where
      other : (k m : ℕ) → ¬ (k ≡ p) → m ≡ p → InUse M K (set t p a) k → ssrc_at M K (set t p a) k ≡ ssrc_at M K (set t p a) m → ⊥
      other k m away is uk e =
          let s = stood k away uk in
          new k s.0 (sym s.1 ∙ e ∙ ap (ssrc_at M K (set t p a)) is ∙ ap M.ssrc at_place)

      go : Dec (i ≡ p) → Dec (j ≡ p) → i ≡ j
      go (yes is) (yes js) = is ∙ sym js
      go (yes is) (no js) = absurd (other j i js is uj (sym e))
      go (no is) (yes js) = absurd (other i j is js ui e)
      go (no is) (no js) = no_two i j (stood i is ui).0 (stood j js uj).0 (sym (stood i is ui).1 ∙ e ∙ (stood j js uj).1)

-- ---- add and remove

module _ {S E R A : Type 0} (M : Rules S E R) (K : Keeping S A) (t : List A) where
  pub remove_keeps_size : (ssrc : ℕ) → length (remove_call M K ssrc t).table ≡ length t
  remove_keeps_size ssrc =
      remove_cases M K t (λ came. length came.table ≡ length t) (λ case. refl) ssrc (λ found. length-set t (place M K t ssrc) _)

  pub add_keeps_size : (start : ℕ × List S) → length (add_call M K start t).table ≡ length t
  add_keeps_size = add_cases M K t (λ came. length came.table ≡ length t) (λ case. refl) (λ s new room. length-set t (vacant M K t) _)

  module _ (F : Faithful M K) (no_two : NoTwo M K t) where
    pub remove_keeps_no_two : (ssrc : ℕ) → NoTwo M K (remove_call M K ssrc t).table
    remove_keeps_no_two ssrc =
        remove_cases M K t (λ came. NoTwo M K came.table) (λ case. no_two) ssrc
        (λ found. let i : ℕ = place M K t ssrc in
        cleared_no_two M K t i (K.clear (kept_at K t i)) (answering M K t ssrc found).2 (F.cleared (kept_at K t i)) no_two)

    pub add_keeps_no_two : (start : ℕ × List S) → NoTwo M K (add_call M K start t).table
    add_keeps_no_two =
        add_cases M K t (λ came. NoTwo M K came.table) (λ case. no_two)
        (λ s new room. let a : A = kept_at K t (vacant M K t) in
        added_no_two M K t (vacant M K t) (K.store a s) room
        (λ i used is. true≢false (sym (in_use_answers M K F t i (M.ssrc s) used (is ∙ F.ssrc a s)) ∙ new))
        no_two)
