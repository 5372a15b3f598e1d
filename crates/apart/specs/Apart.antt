-- Demand 3, streams are apart: what the theorem says of a run on the sender's table. `serving` says it of any rules (its specs/Apart.antt has the record
-- `Apart`, field by field); proofs/Streams.antt proves it for rows of numbers and for records themselves.
use Rattle.std.specs.Prelude.{List, [], ◌∷◌, ℕ, ◌≤◌, length}
use Rattle.stream.specs.declared.Stream.{Stream}
use Rattle.serving.specs.Apart as serving
use Rattle.sender.specs.Calls.{most_records}
use Rattle.sender.specs.Keeping.{Keeping}
use Rattle.sender.specs.Serve.{streams}
use Rattle.apart.specs.Calls.{Call, Roomy}
use Rattle.apart.specs.History.{Alone, history}
use Rattle.apart.specs.Run.{run}

module _ {A : Type 0} (K : Keeping A) where
  -- the record at a place of a table, its SSRC, and that it is in use
  abbrev pub record_at : List A → ℕ → Stream
  record_at t i = serving.record_at K t i

  abbrev pub ssrc_at : List A → ℕ → ℕ
  ssrc_at t i = serving.ssrc_at streams K t i

  abbrev pub InUse : List A → ℕ → Type 0
  InUse t i = serving.InUse streams K t i

  -- no two records in use share an SSRC
  abbrev pub NoTwo : List A → Type 0
  NoTwo t = serving.NoTwo streams K t

-- a table of 1 to 64 records where no two in use share an SSRC
pub record Table {A : Type 0} (K : Keeping A) (t : List A) : Type 0 where
  pub some : 1 ≤ length t
  pub few : length t ≤ most_records
  pub no_two : NoTwo K t

-- calls with reply buffers of 3,720 bytes or more
abbrev pub AllRoomy : List Call → Type 0
AllRoomy [] = Unit
AllRoomy (call ∷ calls) = Roomy call × AllRoomy calls

module _ {A : Type 0} (K : Keeping A) where
  -- what the one-stream rules give for the stream at a place, on its own history alone
  abbrev pub alone : List Call → List A → ℕ → Alone
  alone calls t i = serving.alone streams K (history calls) t i

  -- what a run does for each stream
  abbrev pub Apart : List Call → List A → Type 0
  Apart calls t = serving.Apart streams K (history calls) t (run K calls t)
