-- A call's promise, from what find and decide promise: what it leaves is what its decision gives, stored and written. For any way of keeping the records; an ask for
-- any that stores what stands there already without a change.
-- Assumes nothing.
use Rattle.std.proofs.Common.{◌≡◌, ℕ, List, length, Option, Result}
use Rattle.counters.specs.declared.PauseId.{PauseId}
use Rattle.remote.specs.Record.{start_of}
use Rattle.remote.specs.Rules.{report}
use Rattle.remote.specs.declared.Ask.{Ask}
use Rattle.remote.specs.declared.Outcome.{Outcome}
use Rattle.remote.specs.declared.Remote.{Remote}
use Rattle.sides.specs.code.Places.{holder_at}
use Rattle.sides.specs.declared.ChangeRefusal.{ChangeRefusal}
use Rattle.sides.specs.declared.PacketRefusal.{PacketRefusal}
use Rattle.receiver.specs.Calls.{ask_call, media_call, add_call}
use Rattle.receiver.specs.Keeping.{Keeping}
use Rattle.receiver.specs.declared.AddRefusal.{AddRefusal}
use Rattle.receiver.specs.declared.AskRefusal.{AskRefusal}
use Rattle.remote_decide.specs.code.Decide.{found, vacancy, event_of, asked, reported, seen, admission}
use Rattle.remote_decide.proofs.Decided.{asks_so, reports_so, sees_so, adds_so, ask_is, report_is, media_is, add_is}

module _ {A : Type 0} (K : Keeping A) (t : List A) (ssrc : ℕ) (i : Option ℕ) (p : i ≡ found K t ssrc) where
  module _ (h : Option Remote) (q : h ≡ holder_at K t i) where
    pub asks : ((a : A) → K.store a (K.read a) ≡ a) → (a : Ask) (buffer : List ℕ) (house : ℕ) (d : Result Outcome AskRefusal)
        → d ≡ asked h a (length t) (length buffer)
        → ask_call K (event_of a) ssrc t buffer house ≡ asks_so K t i buffer house d
    asks same a buffer house d r = rw (r, q, p) (ask_is K t ssrc buffer house same a)

    pub reports : (buffer : List ℕ) (house : ℕ) (d : Result Outcome PacketRefusal)
        → d ≡ reported h (length t) (length buffer)
        → ask_call K report ssrc t buffer house ≡ reports_so K t i buffer house d
    reports buffer house d r = rw (r, q, p) (report_is K t ssrc buffer house)

    pub sees : (d : Result Remote ChangeRefusal) → d ≡ seen h (length t) → media_call K ssrc t ≡ sees_so K t i d
    sees d r = rw (r, q, p) (media_is K t ssrc)

  pub added : (id : PauseId) (new : Remote) (j : Option ℕ) (d : Result (ℕ × Remote) AddRefusal)
      → new ≡ start_of ssrc id
      → j ≡ vacancy K t
      → d ≡ admission new (length t) i j
      → add_call K ssrc id t ≡ adds_so K t d
  added id new j d e v r = rw (r, v, p, e) (add_is K t ssrc id)
