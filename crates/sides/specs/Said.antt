-- Document 01, "What can come back": the number of each case and its values, for the two answers that are of no side. A refusal's value is its place.
use Rattle.std.specs.Prelude.{Result, Ok, Err, List, [], ◌∷◌, ◌≡◌, ℕ}
use Rattle.sides.specs.declared.PacketRefusal.{PacketRefusal}
use Rattle.sides.specs.declared.PacketRefusal.TheVariants as packet
use Rattle.sides.specs.declared.ChangeRefusal.{ChangeRefusal}
use Rattle.sides.specs.declared.ChangeRefusal.TheVariants as change

abbrev pub packet_said : Result ℕ PacketRefusal → ℕ × List ℕ
packet_said (Ok length) = (0, length ∷ [])
packet_said (Err packet.Room) = (10, 0 ∷ [])
packet_said (Err packet.Size) = (11, 0 ∷ [])
packet_said (Err packet.NoStream) = (12, 0 ∷ [])

abbrev pub change_said : Result (Unit {0}) ChangeRefusal → ℕ × List ℕ
change_said (Ok done) = (0, [])
change_said (Err change.Size) = (11, 0 ∷ [])
change_said (Err change.NoStream) = (12, 0 ∷ [])

-- the number of a refusal's case; 0 is Done, and no refusal has it
abbrev pub packet_number : PacketRefusal → ℕ
packet_number r = (packet_said (Err r)).0

pub packet_never_done : (r : PacketRefusal) → packet_number r ≡ 0 → ⊥
packet_never_done packet.Room done = cc
packet_never_done packet.Size done = cc
packet_never_done packet.NoStream done = cc

abbrev pub change_number : ChangeRefusal → ℕ
change_number r = (change_said (Err r)).0

pub change_never_done : (r : ChangeRefusal) → change_number r ≡ 0 → ⊥
change_never_done change.Size done = cc
change_never_done change.NoStream done = cc
