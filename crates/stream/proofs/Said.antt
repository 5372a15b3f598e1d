-- The document's number and values tell an answer's cases apart; and the number of an answer is the first part of what it says.
-- Assumes nothing.
use Prim.Native.Nat.{ℕ}
use mathlib.Core.List.{List, [], ◌∷◌}
use mathlib.Core.Path.{◌≡◌, refl, ap}
use lib.ListN.{get_or}
use Rattle.cases.specs.Case.{number_of}
use Rattle.stream.specs.Said.{number_said, started_said, held_number, limit_number}
use Rattle.stream.specs.declared.Stream.{Stream}
use Rattle.stream.specs.declared.Held.{Held}
use Rattle.stream.specs.declared.Limit.{Limit}
use Rattle.counters.specs.declared.Seq.{Seq}
use Rattle.std.specs.Prelude.{Result, Ok, Err}

pub number_apart : (a b : Result Seq Held) → number_said a ≡ number_said b → a ≡ b
number_apart (Ok p) (Ok q) e = ap (λ (n : ℕ). Ok (record { 0 = n })) (ap (λ (s : ℕ × List ℕ). get_or s.1 0 0) e)
number_apart (Ok p) (Err held) e = let numbers : ◌≡◌ {A = ℕ} 0 13 = ap (λ (s : ℕ × List ℕ). s.0) e in cc
number_apart (Err held) (Ok q) e = let numbers : ◌≡◌ {A = ℕ} 13 0 = ap (λ (s : ℕ × List ℕ). s.0) e in cc
number_apart (Err held) (Err same) e = refl

pub started_apart : (a b : Result Stream Limit) → started_said a ≡ started_said b → a ≡ b
started_apart (Ok p) (Ok q) e = let values : p ∷ [] ≡ q ∷ [] = ap (λ (s : ℕ × List Stream). s.1) e in cc
started_apart (Ok p) (Err limit) e = let values : p ∷ [] ≡ [] = ap (λ (s : ℕ × List Stream). s.1) e in cc
started_apart (Err limit) (Ok q) e = let values : [] ≡ q ∷ [] = ap (λ (s : ℕ × List Stream). s.1) e in cc
started_apart (Err limit) (Err same) e = refl

-- ---- the number of an answer, which `cases::number` gives, is the first part of what the answer says: 0 of Done, and its refusal's

pub sent_number : (a : Result Seq Held) → number_of held_number a ≡ (number_said a).0
sent_number (Ok q) = refl
sent_number (Err held) = refl

pub started_number : (a : Result Stream Limit) → number_of limit_number a ≡ (started_said a).0
started_number (Ok s) = refl
started_number (Err limit) = refl
