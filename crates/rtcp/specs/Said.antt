-- Document 01, "What can come back": "The answer says which case it is; the number is only for printing."
use Rattle.std.specs.Prelude.{List, [], ◌∷◌, ℕ, ◌≡◌, length, Result, Ok, Err}
use Rattle.rtcp.specs.Datagram.{Reading, entries, refused}
use Rattle.rtcp.specs.declared.Fault.{Fault}
use Rattle.rtcp.specs.declared.Fault.TheVariants.{TooLong, Short, Version, Overrun, PadPlace, PadCount, NoHead, NoEntry, Entry}
use Rattle.rtcp.specs.declared.Refusal.{Refusal}

abbrev pub number : Fault → ℕ
number TooLong = 1
number Short = 2
number Version = 3
number Overrun = 4
number PadPlace = 5
number PadCount = 6
number NoHead = 7
number NoEntry = 8
number Entry = 9

pub fault_never_done : (fault : Fault) → number fault ≡ 0 → ⊥
fault_never_done TooLong done = cc
fault_never_done Short done = cc
fault_never_done Version done = cc
fault_never_done Overrun done = cc
fault_never_done PadPlace done = cc
fault_never_done PadCount done = cc
fault_never_done NoHead done = cc
fault_never_done NoEntry done = cc
fault_never_done Entry done = cc

-- the number of an answer and its values: what Done carries, or the place of a refusal
abbrev pub checked_said : Result ℕ Refusal → ℕ × List ℕ
checked_said (Ok n) = (0, n ∷ [])
checked_said (Err refusal) = (number refusal.fault, refusal.place ∷ [])

abbrev pub refusal_number : Refusal → ℕ
refusal_number refusal = (checked_said (Err refusal)).0

pub refusal_never_done : (refusal : Refusal) → refusal_number refusal ≡ 0 → ⊥
refusal_never_done refusal done = fault_never_done refusal.fault done

-- the same of what a datagram is read as: how many entries, or the refusal
abbrev pub reading_said : Reading → ℕ × List ℕ
reading_said (entries es) = (0, length es ∷ [])
reading_said (refused fault place) = (number fault, place ∷ [])
