-- Document 01, "The table": a datagram's entries one after the other, on any side. `entered` is the event that an entry is, at its datagram's time.
use Rattle.std.specs.Prelude.{cond, List, [], ◌∷◌, ◌++◌, ℕ, ◌+◌}
use Rattle.rtcp.specs.declared.Entry.{Entry}
use Rattle.serving.specs.Keeping.{Keeping}
use Rattle.serving.specs.Rules.{Rules}
use Rattle.serving.specs.Serve.{Request, answers, serve}

-- the request that an entry carries, at its datagram's time
abbrev pub request_of : {E : Type 0} → (ℕ → Entry → E) → ℕ → Entry → Request E
request_of entered t e = record { ssrc = e.target; event = entered t e }

-- what stands between two entries of a datagram: the table, the messages so far, and u, "entries whose target no used record has", so far
pub record Between (A R : Type 0) : Type 0 where
  pub table : List A
  pub replies : List R
  pub unknown : ℕ

abbrev pub starts : {A R : Type 0} → List A → Between A R
starts t = record { table = t; replies = []; unknown = 0 }

module _ {S E R A : Type 0} (M : Rules S E R) (entered : ℕ → Entry → E) (K : Keeping S A) where
  -- one entry
  unfoldable pub turn : ℕ → Between A R → Entry → Between A R
  turn t now e =
      record {
        table = (serve M K (request_of entered t e) now.table).table;
        replies = now.replies ++ (serve M K (request_of entered t e) now.table).replies;
        unknown = now.unknown + cond (answers M K now.table e.target) 0 1;
      }

  -- "then the entries run in order"
  abbrev pub turns : ℕ → Between A R → List Entry → Between A R
  turns t now [] = now
  turns t now (e ∷ es) = turns t (turn t now e) es
