-- "u (entries whose target no used record has)": counted over the datagram and the table as it was lent, since who answers does not change between entries.
-- Assumes nothing.
use Prim.Native.Nat.{ℕ, ◌+◌}
use mathlib.Core.Path.{◌≡◌, refl}
use mathlib.Core.Bool.{cond}
use mathlib.Core.List.{List, [], ◌∷◌}
use native.Mathlib.Omega.{arith}
use Rattle.rtcp.specs.declared.Entry.{Entry}
use Rattle.serving.specs.Keeping.{Keeping}
use Rattle.serving.specs.Rules.{Rules}
use Rattle.serving.specs.Serve.{answers, serve}
use Rattle.serving.proofs.Answering.{serve_answers}
use Rattle.serving.proofs.Faithful.{Lawful, Faithful}
use Rattle.sides.specs.Entries.{request_of, Between, turn, turns}

module _ {S E R A : Type 0} (M : Rules S E R) (entered : ℕ → Entry → E) (K : Keeping S A) where
  -- the entries whose target no record in use has
  abbrev pub strangers : List Entry → List A → ℕ
  strangers [] t = 0
  strangers (e ∷ es) t = cond (answers M K t e.target) 0 1 + strangers es t

  module _ (L : Lawful M) (F : Faithful M K) where
    strangers_stay : (es : List Entry) (t : List A) (at : ℕ) (e : Entry)
        → strangers es (serve M K (request_of entered at e) t).table ≡ strangers es t
    strangers_stay [] t at e = refl
    strangers_stay (f ∷ es) t at e = rw (serve_answers M K L F f.target (request_of entered at e) t, strangers_stay es t at e)

    pub unknown_counted : (at : ℕ) (es : List Entry) (now : Between A R) → (turns M entered K at now es).unknown ≡ now.unknown + strangers es now.table
    unfolding turn
    unknown_counted at [] now = omega arith
    unknown_counted at (e ∷ es) now =
        let rest = unknown_counted at es (turn M entered K at now e) in
        let stay = strangers_stay es now.table at e in
        omega (arith, rest, stay)
