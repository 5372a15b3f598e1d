-- What is for one SSRC in two lists one after the other, and in what one event gives.
-- Assumes nothing.
use Prim.Native.Nat.{ℕ}
use mathlib.Core.Path.{◌≡◌, refl, sym, ap, ◌∙◌}
use mathlib.Core.Bool.{Bool, true, false, cond}
use mathlib.Core.List.{List, [], ◌∷◌, ◌++◌, map}
use lib.Dec.{eqb}
use Rattle.serving.specs.Rules.{Rules}
use Rattle.serving.specs.Serve.{Request}
use Rattle.serving.proofs.Faithful.{AllFrom}
use Rattle.serving.specs.History.{own, answer_of}
use Rattle.serving.specs.Run.{Answer, answered, replies_to, answers_to}

-- a choice between a list and nothing
pub either_way : {A : Type 0} (b : Bool) (l : List A) → cond b l l ≡ l
either_way true l = refl
either_way false l = refl

module _ {A : Type 0} (b : Bool) (a : A) (l m : List A) where
  cond_append : cond b (a ∷ l) l ++ m ≡ cond b (a ∷ (l ++ m)) (l ++ m)
  cond_append = go b
    where
      go : (b : Bool) → cond b (a ∷ l) l ++ m ≡ cond b (a ∷ (l ++ m)) (l ++ m)
      go true = refl
      go false = refl

pub own_append : {E : Type 0} (x : ℕ) (l m : List (Request E)) → own x (l ++ m) ≡ own x l ++ own x m
own_append x [] m = refl
own_append x (r ∷ l) m =
    ap (λ rest. cond (eqb r.ssrc x) (r ∷ rest) rest) (own_append x l m) ∙ sym (cond_append (eqb r.ssrc x) r (own x l) (own x m))

pub replies_append : {S E R : Type 0} (M : Rules S E R) (x : ℕ) (l m : List R) → replies_to M x (l ++ m) ≡ replies_to M x l ++ replies_to M x m
replies_append M x [] m = refl
replies_append M x (e ∷ l) m =
    ap (λ rest. cond (eqb (M.from e) x) (e ∷ rest) rest) (replies_append M x l m) ∙ sym (cond_append (eqb (M.from e) x) e (replies_to M x l) (replies_to M x m))

pub answers_append : (x : ℕ) (l m : List Answer) → answers_to x (l ++ m) ≡ answers_to x l ++ answers_to x m
answers_append x [] m = refl
answers_append x (a ∷ l) m =
    ap (λ rest. cond (eqb a.ssrc x) (a.said ∷ rest) rest) (answers_append x l m)
    ∙ sym (cond_append (eqb a.ssrc x) a.said (answers_to x l) (answers_to x m))

-- messages from y are messages from x where they are one
pub replies_for : {S E R : Type 0} (M : Rules S E R) (x y : ℕ) (ms : List R) → AllFrom M y ms → replies_to M x ms ≡ cond (eqb y x) ms []
replies_for M x y [] h = rw (either_way (eqb y x) [])
replies_for M x y (m ∷ ms) h =
    ap (λ (z : ℕ). cond (eqb z x) (m ∷ replies_to M x ms) (replies_to M x ms)) h.0
    ∙ ap (λ rest. cond (eqb y x) (m ∷ rest) rest) (replies_for M x y ms h.1)
    ∙ go (eqb y x)
  where
    go : (b : Bool) → cond b (m ∷ cond b ms []) (cond b ms []) ≡ cond b (m ∷ ms) []
    go true = refl
    go false = refl

-- a request's answer is one to x where the request is for x
module _ {S E R : Type 0} (M : Rules S E R) (x : ℕ) (r : Request E) (said : ℕ × List ℕ) where
  answers_for : (b : Bool) → eqb r.ssrc x ≡ b → (l : List (ℕ × List ℕ))
      → answers_to x (map (λ s. record { ssrc = r.ssrc; said = s }) l) ≡ cond b l []
  answers_for true e [] = refl
  answers_for true e (s ∷ l) = rw e (ap {B = List (ℕ × List ℕ)} (λ m. s ∷ m) (answers_for true e l))
  answers_for false e [] = refl
  answers_for false e (s ∷ l) = rw e (answers_for false e l)

  pub answers_own : eqb r.ssrc x ≡ true → answers_to x (answered M r said) ≡ answer_of M r.event said
  answers_own e = answers_for true e (answer_of M r.event said)

  pub answers_other : eqb r.ssrc x ≡ false → answers_to x (answered M r said) ≡ []
  answers_other e = answers_for false e (answer_of M r.event said)
