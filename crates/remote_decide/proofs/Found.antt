-- Who answers for an SSRC, by whether anybody does.
-- Assumes nothing.
use Rattle.std.proofs.Common.{◌≡◌, ℕ, Bool, true, false, cond, List, Option, Some, None, refl}
use Rattle.remote.specs.declared.Remote.{Remote}
use Rattle.sides.specs.code.Places.{holder_at}
use Rattle.receiver.specs.Keeping.{Keeping}
use Rattle.receiver.specs.Serve.{answers, kept_at, place}
use Rattle.remote_decide.specs.code.Decide.{found}

module _ {A : Type 0} (K : Keeping A) (t : List A) (ssrc : ℕ) where
  abbrev pub at : ℕ
  at = place K t ssrc

  abbrev pub here : Remote
  here = K.read (kept_at K t at)

  -- the place that a search finds, and the record there
  abbrev pub spot : Bool → Option ℕ
  spot b = cond b (Some at) None

  abbrev pub who : Bool → Option Remote
  who b = cond b (Some here) None

  pub holder_is : holder_at K t (found K t ssrc) ≡ who (answers K t ssrc)
  holder_is = go (answers K t ssrc) refl
    where
      go : (b : Bool) → answers K t ssrc ≡ b → holder_at K t (spot b) ≡ who b
      go true e = rw e
      go false e = refl
