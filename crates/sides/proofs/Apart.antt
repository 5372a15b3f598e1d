-- Streams are apart, on any side and for any way of keeping its records: for every table of 1 to 64 records where no two in use share an SSRC and every list of
-- calls with reply buffers so large that Room never occurs, each stream follows the rules on its own history alone; and so in any order of the streams.
-- Assumes nothing.
use Prim.Native.Nat.{ℕ, ◌≤◌}
use mathlib.Core.List.{List}
use lib.ListN.{length}
use Rattle.serving.specs.Apart.{NoTwo, Apart}
use Rattle.serving.specs.Keeping.{Keeping}
use Rattle.serving.specs.Order.{one_by_one, Alike}
use Rattle.serving.specs.Run.{serving}
use Rattle.serving.proofs.Apart.{serving_apart}
use Rattle.serving.proofs.Faithful.{Faithful}
use Rattle.serving.proofs.Order.{in_any_order}
use Rattle.sides.specs.Calls.{Side, most_records}
use Rattle.sides.specs.Run.{Call, history, AllRoomy, run}
use Rattle.sides.proofs.Called.{run_serves}
use Rattle.sides.proofs.Side.{LawfulSide}

module _ {S E R A : Type 0} (D : Side S E R) (U : LawfulSide D) (K : Keeping S A) (F : Faithful D.rules K) (t : List A) (some : 1 ≤ length t)
    (few : length t ≤ most_records) (no_two : NoTwo D.rules K t) where
  pub apart : (calls : List (Call E)) → AllRoomy D calls → Apart D.rules K (history D.entered calls) t (run D K calls t)
  apart calls roomy = rw (run_serves D U K calls t roomy some few) (serving_apart D.rules K U.rules F (history D.entered calls) t no_two)

  -- one stream after another, in any order of the streams
  pub any_order : (calls : List (Call E)) → AllRoomy D calls → (order : List ℕ)
      → Alike D.rules (run D K calls t) (serving D.rules K (one_by_one order (history D.entered calls)) t)
  any_order calls roomy order =
      rw (run_serves D U K calls t roomy some few) (in_any_order D.rules K U.rules F (history D.entered calls) t no_two order)
