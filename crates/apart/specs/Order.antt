-- Demand 3, streams are apart: "serving one stream after another, streams in any order" (`one_by_one`).
use Rattle.serving.specs.Order as serving
use Rattle.sender.specs.Serve.{streams}
use Rattle.apart.specs.Run.{Run}
pub use Rattle.serving.specs.Order.{one_by_one}

-- two runs that no stream can tell apart: the same table, and for every SSRC, in use or not, the same replies and the same answers, in the same order
abbrev pub Alike : {A : Type 0} → Run A → Run A → Type 0
Alike one other = serving.Alike streams one other
