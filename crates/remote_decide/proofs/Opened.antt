-- The datagram call from how the datagram opens: a refused one changes nothing, an accepted one runs all its entries, and neither writes a byte.
-- Assumes nothing.
use Rattle.std.proofs.Common.{◌≡◌, ℕ, Bool, true, false, cond, List, [], ◌∷◌, length, Result, Ok, Err, refl, ap, ◌∙◌}
use Rattle.rtcp.specs.Datagram.{counted, reading}
use Rattle.rtcp.specs.declared.Entry.{Entry}
use Rattle.rtcp.specs.declared.Refusal.{Refusal}
use Rattle.counters.specs.Counters.{message_of}
use Rattle.remote.specs.Rules.{pause_id, ruled}
use Rattle.remote.specs.declared.Remote.{Remote}
use Rattle.sides.specs.Calls.{over}
use Rattle.sides.specs.Calls as side
use Rattle.sides.specs.code.Counted.{Counted, entries_of}
use Rattle.remote.proofs.Silent.{received_silent}
use Rattle.sides.proofs.Called.{turns_replies}
use Rattle.sides.proofs.Cases
use Rattle.sides.proofs.House.{entries_silent}
use Rattle.sides.proofs.Read.{read_refused, read_counted}
use Rattle.receiver.specs.Calls.{receiver, datagram_call, wrong_size}
use Rattle.receiver.specs.Keeping.{Keeping}
use Rattle.receiver.specs.Said.{datagram_said}
use Rattle.receiver.specs.Serve.{remotes, entered, listed, Between, starts, turns}
use Rattle.receiver.specs.declared.DatagramRefusal.{DatagramRefusal}
use Rattle.receiver.specs.declared.DatagramRefusal.TheVariants as datagram
use Rattle.remote_decide.specs.code.Decide.{opened, opened_by}
use Rattle.remote_decide.specs.code.Turning.{Through}

-- ---- "no reply is written": no entry sends

pub entry_silent : (e : Entry) (s : Remote) → (remotes.ruled (entered 0 e) s).sent ≡ []
unfolding ruled
entry_silent e s = ap listed (received_silent (message_of e.kind) (pause_id e.id) s)

turns_silent : {A : Type 0} (K : Keeping A) (es : List Entry) (t : List A) → (turns K (starts t) es).replies ≡ []
turns_silent K es t = turns_replies remotes entered K 0 es (starts t) ∙ entries_silent (receiver 0) K 0 entry_silent es t

-- ---- the ways that a datagram opens

module _ {A : Type 0} (K : Keeping A) (d : List ℕ) (t : List A) where
  abbrev es : List Entry
  es = entries_of (reading d)

  -- what the call of a datagram that opens so leaves: a refused one leaves the table, an accepted one what its run leaves
  abbrev pub Way : Result ℕ DatagramRefusal → Type 0
  Way (Err r) = datagram_call K d t ≡ record { said = datagram_said (Err r); table = t; buffer = [] }
  Way (Ok n) =
      Counted d n
      × ((u : ℕ) (table : List A) → Through (turns K (starts t) es) u table
      → datagram_call K d t ≡ record { said = datagram_said (Ok (record { entries = n; unknown = u })); table = table; buffer = [] })

  module _ (fits : wrong_size (length t) ≡ false) where
    runs_all : (n : ℕ) → Ok n ≡ counted (reading d) → Way (Ok n)
    unfolding over
    runs_all n count = (ok, all)
      where
        ok : Counted d n
        ok = read_counted d n count

        written : (now : Between A) (m u : ℕ) (table : List A) → now.replies ≡ [] → u ≡ now.unknown → table ≡ now.table
            → side.finished (receiver 0) now m [] ≡ record { said = (0, m ∷ u ∷ []); table = table; buffer = [] }
        written now m u table quiet e f = rw (quiet, e, f)

        all : (u : ℕ) (table : List A) → Through (turns K (starts t) es) u table → datagram_call K d t ≡ record { said = (0, n ∷ u ∷ []); table = table; buffer = [] }
        all u table through =
            Cases.datagram_done_lem (receiver 0) K t [] d 0 fits es ok.read refl
            ∙ written (turns K (starts t) es) (length es) u table (turns_silent K es t) through.unknown through.table
            ∙ ap (λ (m : ℕ). record { said = (0, m ∷ u ∷ []); table = table; buffer = [] }) ok.count

    by_check : (c : Result ℕ Refusal) → c ≡ counted (reading d) → Way (opened_by c)
    by_check (Err x) e = Cases.datagram_refused (receiver 0) K t [] d 0 fits x.fault x.place (read_refused (reading d) x e)
    by_check (Ok n) e = runs_all n e

  by_size : (b : Bool) → wrong_size (length t) ≡ b → Way (cond b (Err datagram.Size) (opened_by (counted (reading d))))
  by_size true e = Cases.datagram_size (receiver 0) K t [] d 0 e
  by_size false e = by_check e (counted (reading d)) refl

  -- a call's promise, from what open promises, and of an accepted datagram the run
  pub datagram_by : (o : Result ℕ DatagramRefusal) → o ≡ opened (length t) (counted (reading d)) → Way o
  datagram_by o e = rw e (by_size (wrong_size (length t)) refl)
