-- Document 01, "What can come back", and document 02's "18 Busy": the number of each case and its values, for each call's answer. A refusal's value is its place.
use Rattle.std.specs.Prelude.{◌≡◌, List, [], ◌∷◌, ℕ, Result, Ok, Err}
use Rattle.rtcp.specs.Said.{number, fault_never_done}
use Rattle.rtcp.specs.declared.Refusal.{Refusal}
use Rattle.remote.specs.Events.{busy}
use Rattle.remote.specs.Said.{asked_said}
use Rattle.remote.specs.declared.Busy.{Busy}
use Rattle.receiver.specs.declared.Counts.{Counts}
use Rattle.receiver.specs.declared.DatagramRefusal.{DatagramRefusal}
use Rattle.receiver.specs.declared.DatagramRefusal.TheVariants as datagram
use Rattle.receiver.specs.declared.AskRefusal.{AskRefusal}
use Rattle.receiver.specs.declared.AskRefusal.TheVariants as ask
use Rattle.receiver.specs.declared.AddRefusal.{AddRefusal}
use Rattle.receiver.specs.declared.AddRefusal.TheVariants as add

abbrev pub datagram_said : Result Counts DatagramRefusal → ℕ × List ℕ
datagram_said (Ok counts) = (0, counts.entries ∷ counts.unknown ∷ [])
datagram_said (Err (datagram.Refused refusal)) = (number refusal.fault, refusal.place ∷ [])
datagram_said (Err datagram.Size) = (11, 0 ∷ [])

abbrev pub ask_said : Result ℕ AskRefusal → ℕ × List ℕ
ask_said (Ok length) = (0, length ∷ [])
ask_said (Err ask.Room) = (10, 0 ∷ [])
ask_said (Err ask.Size) = (11, 0 ∷ [])
ask_said (Err ask.NoStream) = (12, 0 ∷ [])
ask_said (Err ask.Busy) = asked_said (Err busy)

abbrev pub add_said : Result Unit AddRefusal → ℕ × List ℕ
add_said (Ok done) = (0, [])
add_said (Err add.Size) = (11, 0 ∷ [])
add_said (Err add.Duplicate) = (15, 0 ∷ [])
add_said (Err add.Full) = (16, 0 ∷ [])

-- ---- a refusal's number, which is never that of Done: "so no refusal is read as success"

abbrev pub datagram_number : DatagramRefusal → ℕ
datagram_number refusal = (datagram_said (Err refusal)).0

pub datagram_never_done : (refusal : DatagramRefusal) → datagram_number refusal ≡ 0 → ⊥
datagram_never_done (datagram.Refused refusal) e = fault_never_done refusal.fault e
datagram_never_done datagram.Size e = cc

abbrev pub ask_number : AskRefusal → ℕ
ask_number refusal = (ask_said (Err refusal)).0

pub ask_never_done : (refusal : AskRefusal) → ask_number refusal ≡ 0 → ⊥
ask_never_done ask.Room e = cc
ask_never_done ask.Size e = cc
ask_never_done ask.NoStream e = cc
ask_never_done ask.Busy e = cc

abbrev pub add_number : AddRefusal → ℕ
add_number refusal = (add_said (Err refusal)).0

pub add_never_done : (refusal : AddRefusal) → add_number refusal ≡ 0 → ⊥
add_never_done add.Size e = cc
add_never_done add.Duplicate e = cc
add_never_done add.Full e = cc

-- ---- what refuses a part of a call refuses the call

abbrev pub refused_datagram : Refusal → DatagramRefusal
refused_datagram refusal = datagram.Refused refusal

abbrev pub busy_ask : Busy → AskRefusal
busy_ask asked = ask.Busy
