-- The two ends of a search: a record answers for the SSRC, at the document's place, or nobody does. For any way of keeping the records.
-- Assumes nothing.
use Rattle.std.proofs.Common.{◌≡◌, ℕ, Bool, true, false, cond, Option, Some, None, ltb, List, length, refl}
use Rattle.stream.specs.declared.Stream.{Stream}
use Rattle.sides.specs.code.Places.{holder_at}
use Rattle.sender.specs.Keeping.{Keeping}
use Rattle.sender.specs.Serve.{answers, place, kept_at}
use Rattle.decide.specs.code.Turning.{found}

module _ {A : Type 0} (K : Keeping A) (t : List A) (ssrc : ℕ) where
  pub by_search : (P : Bool → Option ℕ → Option Stream → Type 0)
      → P true (Some (place K t ssrc)) (Some (K.read (kept_at K t (place K t ssrc))))
      → P false None None
      → P (answers K t ssrc) (found K t ssrc) (holder_at K t (found K t ssrc))
  by_search P there nobody = go (ltb (place K t ssrc) (length t)) refl
    where
      go : (b : Bool) → ltb (place K t ssrc) (length t) ≡ b → P b (cond b (Some (place K t ssrc)) None) (holder_at K t (cond b (Some (place K t ssrc)) None))
      go true e = rw e there
      go false e = nobody
