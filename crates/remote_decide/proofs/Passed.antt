-- An entry that passes leaves the table as it is, to the number, and is no stranger's: for any way of keeping the records that stores what stands there already
-- without a change.
-- Assumes nothing.
use Rattle.std.proofs.Common.{◌≡◌, ℕ, Bool, true, false, List, Option, sym, refl, ap, ◌∙◌, true≢false}
use Rattle.rtcp.specs.declared.Entry.{Entry}
use Rattle.counters.specs.Counters.{message_of}
use Rattle.remote.specs.Events.{received}
use Rattle.remote.specs.Rules.{pause_id, ruled}
use Rattle.remote.specs.declared.Outcome.{Outcome}
use Rattle.remote.proofs.Passes.{passes_silent}
use Rattle.serving.specs.Serve as serving
use Rattle.serving.proofs.Faithful.{stored_stays}
use Rattle.sides.specs.code.Places.{storing}
use Rattle.receiver.specs.Keeping.{Keeping}
use Rattle.receiver.specs.Serve.{answers}
use Rattle.remote_decide.specs.code.Decide.{found, passes_at}
use Rattle.remote_decide.specs.code.Turning.{Turned}
use Rattle.remote_decide.proofs.Found.{at, here, spot}

module _ {A : Type 0} (K : Keeping A) (same : (a : A) → K.store a (K.read a) ≡ a) (t : List A) (e : Entry) where
  by_search : (b : Bool) → answers K t e.target ≡ b → passes_at (spot K t e.target b) e ≡ true → Turned K t e true t
  unfolding serving.serve ruled
  by_search true known p = record { found = sym known; table = rw known (sym idle) }
    where
      idle : storing K t (at K t e.target) (received (message_of e.kind) (pause_id e.id) (here K t e.target)).remote ≡ t
      idle =
          ap (λ (o : Outcome). storing K t (at K t e.target) o.remote) (passes_silent (message_of e.kind) (pause_id e.id) (here K t e.target) p)
          ∙ stored_stays K same t (at K t e.target)
  by_search false known p = absurd (true≢false (sym p))

  pub passed_by : (i : Option ℕ) → i ≡ found K t e.target → passes_at i e ≡ true → Turned K t e true t
  passed_by i q p = by_search (answers K t e.target) refl (rw q at p)
