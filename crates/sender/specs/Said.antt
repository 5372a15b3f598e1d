-- Document 01, "What can come back": the number of each case and its values, for the answers of the datagram call, send and add. A refusal's value is its place.
use Rattle.std.specs.Prelude.{◌≡◌, List, [], ◌∷◌, ℕ, Result, Ok, Err}
use Rattle.counters.specs.declared.Seq.{Seq}
use Rattle.rtcp.specs.Said.{number, fault_never_done}
use Rattle.rtcp.specs.declared.Refusal.{Refusal}
use Rattle.stream.specs.declared.Held.{Held}
use Rattle.stream.specs.declared.Limit.{Limit}
use Rattle.sender.specs.declared.Counts.{Counts}
use Rattle.sender.specs.declared.DatagramRefusal.{DatagramRefusal}
use Rattle.sender.specs.declared.DatagramRefusal.TheVariants as datagram
use Rattle.sender.specs.declared.SendRefusal.{SendRefusal}
use Rattle.sender.specs.declared.SendRefusal.TheVariants as send
use Rattle.sender.specs.declared.AddRefusal.{AddRefusal}
use Rattle.sender.specs.declared.AddRefusal.TheVariants as add

abbrev pub datagram_said : Result Counts DatagramRefusal → ℕ × List ℕ
datagram_said (Ok counts) = (0, counts.length ∷ counts.entries ∷ counts.unknown ∷ [])
datagram_said (Err (datagram.Refused refusal)) = (number refusal.fault, refusal.place ∷ [])
datagram_said (Err datagram.Room) = (10, 0 ∷ [])
datagram_said (Err datagram.Size) = (11, 0 ∷ [])

abbrev pub send_said : Result Seq SendRefusal → ℕ × List ℕ
send_said (Ok q) = (0, q.0 ∷ [])
send_said (Err send.Size) = (11, 0 ∷ [])
send_said (Err send.NoStream) = (12, 0 ∷ [])
send_said (Err send.Held) = (13, 0 ∷ [])

abbrev pub add_said : Result (Unit {0}) AddRefusal → ℕ × List ℕ
add_said (Ok done) = (0, [])
add_said (Err add.Size) = (11, 0 ∷ [])
add_said (Err add.Limit) = (14, 0 ∷ [])
add_said (Err add.Duplicate) = (15, 0 ∷ [])
add_said (Err add.Full) = (16, 0 ∷ [])

-- ---- the number of a refusal alone; "so no refusal is read as success"

abbrev pub datagram_number : DatagramRefusal → ℕ
datagram_number refusal = (datagram_said (Err refusal)).0

pub datagram_never_done : (refusal : DatagramRefusal) → datagram_number refusal ≡ 0 → ⊥
datagram_never_done (datagram.Refused refusal) done = fault_never_done refusal.fault done
datagram_never_done datagram.Room done = cc
datagram_never_done datagram.Size done = cc

abbrev pub send_number : SendRefusal → ℕ
send_number refusal = (send_said (Err refusal)).0

pub send_never_done : (refusal : SendRefusal) → send_number refusal ≡ 0 → ⊥
send_never_done send.Size done = cc
send_never_done send.NoStream done = cc
send_never_done send.Held done = cc

abbrev pub add_number : AddRefusal → ℕ
add_number refusal = (add_said (Err refusal)).0

pub add_never_done : (refusal : AddRefusal) → add_number refusal ≡ 0 → ⊥
add_never_done add.Size done = cc
add_never_done add.Limit done = cc
add_never_done add.Duplicate done = cc
add_never_done add.Full done = cc

-- ---- the refusals of the crates below, as refusals of a call

abbrev pub datagram_refused : Refusal → DatagramRefusal
datagram_refused refusal = datagram.Refused refusal

abbrev pub send_held : Held → SendRefusal
send_held held = send.Held

abbrev pub add_limit : Limit → AddRefusal
add_limit limit = add.Limit
