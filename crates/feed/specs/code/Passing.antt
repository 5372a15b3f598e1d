-- A part of the input fed, as the code takes it: up to the end of a line or of the input.
use Rattle.std.specs.Prelude.{◌≡◌, List, ℕ, ◌+◌, ◌-◌, ◌≤◌, ◌<◌, length, take, drop}
use Rattle.std.proofs.lemmas.List.Edits.{sets}
use Rattle.feed.specs.Feed.{State, fed, taken}
use Rattle.feed.specs.declared.Fed.{Fed}

-- the first k of the bytes lead from one state to another, with this output, and as many are taken of the whole as of what follows, and k
pub record Passes (room : ℕ) (before : State) (bytes : List ℕ) (k : ℕ) (after : State) (output : List ℕ) : Type 0 where
  pub feeding : fed before (take k bytes) ≡ record { state = after; output = output }
  pub taking : taken room before bytes ≡ k + taken (room - length output) after (drop k bytes)

-- the input was taken up to the end of a line or its own
pub record LineFeeds (before : State) (input out : List ℕ) (fed₀ fed₁ : Fed) (after : State) (written : List ℕ) : Type 0 where
  pub answer : List ℕ
  pub onward : fed₀.at < fed₁.at
  pub passes : Passes (length out - fed₀.written) before (drop fed₀.at input) (fed₁.at - fed₀.at) after answer
  pub next : fed₁.written ≡ fed₀.written + length answer
  pub output : written ≡ sets out fed₀.written answer
  pub fits : fed₁.written ≤ length out
