-- Demand 3, streams are apart: what the theorem says of a run on the receiver's table, by this request's rules. `serving` says it of any rules (its
-- specs/Apart.antt has the record `Apart`, field by field); proofs/Streams.antt proves it for rows of numbers.
--
-- The two tables share nothing, and one SSRC may be in both. No theorem says so: each call, in its signature and in its definition, is lent one table.
use Rattle.std.specs.Prelude.{List, [], ◌∷◌, ℕ, ◌≤◌, length}
use Rattle.serving.specs.Apart as serving
use Rattle.receiver.specs.Calls.{most_records}
use Rattle.receiver.specs.Keeping.{Keeping}
use Rattle.receiver.specs.Serve.{remotes}
use Rattle.remote_apart.specs.Calls.{Call, Roomy}
use Rattle.remote_apart.specs.Run.{history, run}

-- no two records in use share an SSRC
abbrev pub NoTwo : {A : Type 0} → Keeping A → List A → Type 0
NoTwo K t = serving.NoTwo remotes K t

-- "a table of its own of 1 to 64 remote streams" where no two in use share an SSRC
pub record Table {A : Type 0} (K : Keeping A) (t : List A) : Type 0 where
  pub some : 1 ≤ length t
  pub few : length t ≤ most_records
  pub no_two : NoTwo K t

abbrev pub AllRoomy : List Call → Type 0
AllRoomy [] = Unit
AllRoomy (call ∷ calls) = Roomy call × AllRoomy calls

-- what a run does for each stream
abbrev pub Apart : {A : Type 0} → Keeping A → ℕ → List Call → List A → Type 0
Apart K house calls t = serving.Apart remotes K (history calls) t (run K house calls t)
