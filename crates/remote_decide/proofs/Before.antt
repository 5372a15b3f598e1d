-- The run of a datagram's entries, turn by turn: what holds before the entries that are left, for any way of keeping the records.
-- Assumes nothing.
use Rattle.std.proofs.Common.{◌≡◌, ℕ, ◌+◌, ◌^◌, ◌<◌, ◌≤◌, Bool, true, false, cond, List, [], ◌∷◌, ◌++◌, length, Option, Some, None, sym, refl, ap, subst, arith}
use Rattle.rtcp.specs.Datagram.{reading, entries}
use Rattle.rtcp.specs.declared.Entry.{Entry}
use Rattle.rtcp.proofs.Bounds.{most_entries_lem}
use Rattle.remote.specs.Rules.{ruled}
use Rattle.remote.specs.declared.AskEntry.{AskEntry}
use Rattle.remote.specs.declared.Remote.{Remote}
use Rattle.serving.specs.Serve as serving
use Rattle.sides.specs.Entries as sides
use Rattle.sides.specs.code.Places.{holder_at}
use Rattle.receiver.specs.Keeping.{Keeping}
use Rattle.receiver.specs.Serve.{entered, answers, serve, starts, turns}
use Rattle.remote_decide.specs.code.Decide.{found, keeping, taken}
use Rattle.remote_decide.specs.code.Turning.{Turned, Through}
use Rattle.remote_decide.proofs.Found.{spot, who, holder_is}

-- ---- one entry, from what find, decide and store each promise

module _ {A : Type 0} (K : Keeping A) (t : List A) (e : Entry) where
  -- what an entry leaves, where a search found this place and this was decided
  abbrev pub Entered : Option ℕ → Option Remote → Type 0
  Entered i None = Turned K t e false t
  Entered i (Some s) = Turned K t e true (keeping K t i s)

  by_search : (b : Bool) → answers K t e.target ≡ b → Entered (spot K t e.target b) (taken (who K t e.target b) e)
  unfolding serving.serve ruled
  by_search true known = record { found = sym known; table = rw known }
  by_search false known = record { found = sym known; table = rw known }

  pub entered_by : (i : Option ℕ) → i ≡ found K t e.target → (h : Option Remote) → h ≡ holder_at K t i → (s : Option Remote) → s ≡ taken h e → Entered i s
  entered_by i p h q s r = rw (r, q, p, holder_is K t e.target) (by_search (answers K t e.target) refl)

-- ---- the run

-- an entry counts once for a stranger, and else not
abbrev pub stranger : Bool → ℕ
stranger known = cond known 0 1

stranger_once : (known : Bool) → stranger known ≤ 1
stranger_once true = omega arith
stranger_once false = omega arith

-- before the entries that are left of es: with u strangers so far, to run them from this table is to run es from the table as it was lent
pub record Before {A : Type 0} (K : Keeping A) (t : List A) (es : List Entry) (left : List Entry) (u : ℕ) (now : List A) : Type 0 where
  pub replies : List AskEntry
  pub runs : turns K (record { table = now; replies = replies; unknown = u }) left ≡ turns K (starts t) es
  pub few : u + length left ≤ length es

module _ {A : Type 0} (K : Keeping A) (t : List A) (es : List Entry) where
  pub before_first : Before K t es es 0 t
  before_first = record { replies = []; runs = refl; few = omega arith }

  module _ (e : Entry) (left rest : List Entry) (first : left ≡ e ∷ rest) (u : ℕ) (now : List A) (before : Before K t es left u now) where
    here : Before K t es (e ∷ rest) u now
    here = subst (λ (l : List Entry). Before K t es l u now) first before

    -- one entry more, whatever it left
    pub before_next : (known : Bool) (next : List A) → Turned K now e known next → Before K t es rest (u + stranger known) next
    unfolding sides.turn
    before_next known next turned =
        let once = stranger_once known in
        let few = here.few in
        record { replies = here.replies ++ (serve K (sides.request_of entered 0 e) now).replies; runs = rw (turned.found, turned.table) here.runs; few = omega arith }

    -- no count runs over
    pub before_fits : (known : Bool) (d : List ℕ) → reading d ≡ entries es → u + stranger known < 2 ^ 64
    before_fits known d read =
        let most = most_entries_lem d es read in
        let once = stranger_once known in
        let few = here.few in
        omega (arith, most)

  -- after the last entry
  pub before_last : (u : ℕ) (now : List A) → Before K t es [] u now → Through (turns K (starts t) es) u now
  before_last u now before = record { unknown = ap (λ b. b.unknown) before.runs; table = ap (λ b. b.table) before.runs }
