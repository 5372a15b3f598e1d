-- What every end of a call that meets its contract, as the source has it, has.
-- Assumes nothing.
use mathlib.Core.List.{List}
use Prim.Native.Nat.{ℕ}
use borrow.Fn.Kinds.{ParamKind, ResultKind, Out, Dens, res_t, ended_of}
use seplogic.Ra.Ura.{Ura}
use base.Logic.{ent}
use contract.Lifetimes.{Lfts}
use contract.Monad.{fact}
use denote.Triple.Clauses.{Ended, Clauses, AtExit}
use denote.Triple.Entry.{Args, Res}

abbrev pub Each : (n : ℕ) (ps : List (ParamKind n)) (r : ResultKind n) (Post : Out n ps r)
    → ((κs : Lfts n) (args : Dens κs ps) (x : (res_t r κs).Denot) (s : AtExit (ended_of n ps r) κs) → Type 0) → Type 0
Each n ps r Post Has =
    (κs : Lfts n) (args : Dens κs ps) (x : (res_t r κs).Denot) (s : AtExit (ended_of n ps r) κs) → Post κs args x s → Has κs args x s

-- The same of a function over a slice of structs: it is said of the `ensures` in the program logic.
abbrev pub EachEnd : {M : Type 1} (𝓤 : Ura M) (T : Ended) → Clauses 𝓤 T
    → ((κs : Lfts T.signature.lifetimes) (args : Args T.signature κs) (x : Res T.signature κs) (s : AtExit T κs) → Type 0) → Type 1
EachEnd 𝓤 T clauses Has =
    (κs : Lfts T.signature.lifetimes) (args : Args T.signature κs) (g : (clauses κs args).ghost) (x : Res T.signature κs) (s : AtExit T κs)
    → ent 𝓤 ((clauses κs args).ensures g x s) (fact 𝓤 (Has κs args x s))
