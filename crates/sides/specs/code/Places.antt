-- What is done at a place of the table, and what a remove decides from the table's size and the place of the record, if there is one.
use Rattle.std.specs.Prelude.{cond, Option, Some, None, Result, Ok, Err, List, ℕ, length, ltb, set}
use Rattle.serving.specs.Keeping.{Keeping}
use Rattle.serving.specs.Serve.{kept_at}
use Rattle.sides.specs.Calls.{wrong_size}
use Rattle.sides.specs.declared.ChangeRefusal.{ChangeRefusal}
use Rattle.sides.specs.declared.ChangeRefusal.TheVariants as change

module _ {S A : Type 0} (K : Keeping S A) (t : List A) where
  -- the record at a place, which answers for the SSRC where a search found the place; past the table's end nobody does
  abbrev pub holder_at : Option ℕ → Option S
  holder_at None = None
  holder_at (Some i) = cond (ltb i (length t)) (Some (K.read (kept_at K t i))) None

  -- the table once a record is stored over what stands at a place
  abbrev pub storing : ℕ → S → List A
  storing i s = set t i (K.store (kept_at K t i) s)

  -- the table once the record at a place is cleared
  abbrev pub clearing : ℕ → List A
  clearing i = set t i (K.clear (kept_at K t i))

  -- the table after a remove that was decided so
  abbrev pub cleared_by : Result ℕ ChangeRefusal → List A
  cleared_by (Ok i) = clearing i
  cleared_by (Err refusal) = t

-- a place of a table of so many records: past its end there is none
abbrev pub inside : ℕ → Option ℕ → Option ℕ
inside size None = None
inside size (Some i) = cond (ltb i size) (Some i) None

-- no record to clear
abbrev pub released_at : Option ℕ → Result ℕ ChangeRefusal
released_at (Some i) = Ok i
released_at None = Err change.NoStream

-- whether a remove was answered Done; its place goes no further
abbrev pub answer_of : Result ℕ ChangeRefusal → Result (Unit {0}) ChangeRefusal
answer_of (Ok i) = Ok tt
answer_of (Err refusal) = Err refusal

abbrev pub released : ℕ → Option ℕ → Result ℕ ChangeRefusal
released size found = cond (wrong_size size) (Err change.Size) (released_at (inside size found))
