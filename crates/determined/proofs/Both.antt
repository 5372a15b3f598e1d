-- What it is that a contract determines a call. "Any two results that satisfy it are proved equal."
-- Assumes nothing.
use mathlib.Core.List.{List}
use mathlib.Core.Path.{◌≡◌, ap, sym, ◌∙◌}
use Prim.Native.Nat.{ℕ}
use borrow.Fn.Kinds.{ParamKind, ResultKind, Out, Dens, res_t, ended_of}
use seplogic.Ra.Ura.{Ura}
use base.Logic.{SProp, ent, sep, fst∗, snd∗, via}
use contract.Lifetimes.{Lfts}
use contract.Monad.{fact, fact_i, fact_use}
use denote.Triple.Clauses.{Ended, Clauses, AtExit}
use denote.Triple.Entry.{Args, Res}
use Rattle.sender.specs.Calls.{Came}

-- whatever two ends of a call have in common, its result and what was lent, where both meet `Post`, the contract as the source has it
abbrev pub Both : (n : ℕ) (ps : List (ParamKind n)) (r : ResultKind n) (Post : Out n ps r)
    → ((κs : Lfts n) → (x y : (res_t r κs).Denot) (s t : AtExit (ended_of n ps r) κs) → Type 0) → Type 0
Both n ps r Post Same =
    (κs : Lfts n) (args : Dens κs ps) (x y : (res_t r κs).Denot) (s t : AtExit (ended_of n ps r) κs)
    → Post κs args x s → Post κs args y t → Same κs x y s t

-- The one law: a call that came to what was said, a table and a buffer came to one answer, one table and one buffer, where what is said tells the answers apart.
pub came_determined : {R A : Type 0} (said : R → ℕ × List ℕ) → ((r s : R) → said r ≡ said s → r ≡ s) → {came : Came A} (r s : R) (t u : List A) (b c : List ℕ)
    → came ≡ record { said = said r; table = t; buffer = b }
    → came ≡ record { said = said s; table = u; buffer = c }
    → (r ≡ s) × (t ≡ u) × (b ≡ c)
came_determined {A = A} said apart r s t u b c p q =
    let e = sym p ∙ q in
    (apart r s (ap (λ (x : Came A). x.said) e), ap (λ (x : Came A). x.table) e, ap (λ (x : Came A). x.buffer) e)

-- The same of a function over a struct that holds a reference, or over a slice of structs: it is the `ensures` in the program logic, said of each of the two ends.
abbrev pub Ends : {M : Type 1} (𝓤 : Ura M) (T : Ended) → Clauses 𝓤 T
    → ((κs : Lfts T.signature.lifetimes) → (x y : Res T.signature κs) (s t : AtExit T κs) → Type 0) → Type 1
Ends 𝓤 T clauses Same =
    (κs : Lfts T.signature.lifetimes) (args : Args T.signature κs) (g : (clauses κs args).ghost) (x y : Res T.signature κs) (s t : AtExit T κs)
    → ent 𝓤 (sep 𝓤 ((clauses κs args).ensures g x s) ((clauses κs args).ensures g y t)) (fact 𝓤 (Same κs x y s t))

pub both_facts : {M : Type 1} (𝓤 : Ura M) (P Q R : Type 0) → (P → Q → R) → ent 𝓤 (sep 𝓤 (fact 𝓤 P) (fact 𝓤 Q)) (fact 𝓤 R)
both_facts 𝓤 P Q R f =
    fact_use 𝓤 P (fst∗ 𝓤 (fact 𝓤 P) (fact 𝓤 Q)) (λ p.
    fact_use 𝓤 Q (snd∗ 𝓤 (fact 𝓤 P) (fact 𝓤 Q)) (λ q. fact_i 𝓤 R (sep 𝓤 (fact 𝓤 P) (fact 𝓤 Q)) (f p q)))

-- the same where the contract has another fact behind the one that fixes the end
pub both_first : {M : Type 1} (𝓤 : Ura M) (P V Q W R : Type 0) → (P → Q → R)
    → ent 𝓤 (sep 𝓤 (sep 𝓤 (fact 𝓤 P) (fact 𝓤 V)) (sep 𝓤 (fact 𝓤 Q) (fact 𝓤 W))) (fact 𝓤 R)
both_first 𝓤 P V Q W R f =
    let one : SProp 𝓤 = sep 𝓤 (fact 𝓤 P) (fact 𝓤 V) in
    let other : SProp 𝓤 = sep 𝓤 (fact 𝓤 Q) (fact 𝓤 W) in
    fact_use 𝓤 P (via 𝓤 one (fst∗ 𝓤 one other) (fst∗ 𝓤 (fact 𝓤 P) (fact 𝓤 V))) (λ p.
    fact_use 𝓤 Q (via 𝓤 other (snd∗ 𝓤 one other) (fst∗ 𝓤 (fact 𝓤 Q) (fact 𝓤 W))) (λ q. fact_i 𝓤 R (sep 𝓤 one other) (f p q)))
