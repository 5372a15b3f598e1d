-- Document 01, "One stream": "Each event takes one stream's record and hands back the record that follows". The rules of one record, on any side: S is the
-- record, E an event, R a message that goes out.
use Rattle.std.specs.Prelude.{Bool, List, ℕ}

-- the record that follows, the messages that go out, and what is said: case and values
pub record Ruled (S R : Type 0) : Type 0 where
  pub next : S
  pub sent : List R
  pub said : ℕ × List ℕ

pub record Rules (S E R : Type 0) : Type 0 where
  pub used : S → Bool
  pub ssrc : S → ℕ
  -- what an event does
  pub ruled : E → S → Ruled S R
  -- a local call, which is answered; an entry of a datagram is not answered by itself
  pub called : E → Bool
  -- the stream that a message counts for: the one that it is from or, on the receiver's side, the one that it is about
  pub from : R → ℕ
