-- Reading back what was written gives the entry that was written.
-- Assumes nothing.
use mathlib.Core.Path.{◌≡◌, refl, ap, ◌∙◌}
use mathlib.Core.List.{List, [], ◌∷◌}
use Prim.Native.Nat.{ℕ, ◌+◌, ◌/◌, ◌<◌}
use native.Mathlib.Omega.{arith}
use Rattle.rtcp.specs.Number.{byte, two, four}
use Rattle.rtcp.specs.Datagram.{header, sources, entry_at, Reading, entries, joined, followed, entries_from, packets, reading}
use Rattle.rtcp.specs.code.Equations.{entries_done, packets_done, reading_packets}
use Rattle.rtcp.specs.declared.Entry.{Entry}
use Rattle.rtcp.proofs.Plain.{plain_entry, Plain, plain_packet}
use Rattle.writer.specs.Writer.{packet_bytes, packet_of_one, entry_read}

module _ (sender target kind id : ℕ) where
  abbrev d : List ℕ
  d = packet_bytes sender target kind id

  head : Plain d 0 packet_of_one
  head = record { right_version = refl; unpadded = refl; right_type = refl; right_fmt = refl; long = omega arith; inside = omega arith; some = omega arith }

  fields : kind < 16 → entry_at d sender (header + sources) ≡ entry_read sender target kind id
  fields fits =
      let target_is : four d (header + sources) ≡ target = omega arith in
      let id_is : two d (header + sources + 6) ≡ id = omega arith in
      let kind_is : byte d (header + sources + 4) / 16 ≡ kind = omega arith in
      λ j. record { place = header + sources; sender = sender; target = target_is j; id = id_is j; kind = kind_is j; words = 0 }

  entry_back : kind < 16 → entries_from d sender packet_of_one (header + sources) ≡ entries (entry_read sender target kind id ∷ [])
  entry_back fits =
      plain_entry d sender packet_of_one (header + sources) (omega arith) refl
      ∙ ap (joined (entry_at d sender (header + sources) ∷ [])) (entries_done d sender packet_of_one packet_of_one (omega arith))
      ∙ ap (λ (e : Entry). entries (e ∷ [])) (fields fits)

  -- "Reading it back gives that entry."
  pub read_back : kind < 16 → reading d ≡ entries (entry_read sender target kind id ∷ [])
  read_back fits =
      reading_packets d (omega arith) (omega arith)
      ∙ plain_packet d 0 packet_of_one head sender (header + sources) packet_of_one (omega arith) (omega arith) (omega arith)
      ∙ ap (λ (r : Reading). followed r (packets d packet_of_one)) (entry_back fits)
      ∙ ap (joined (entry_read sender target kind id ∷ [])) (packets_done d packet_of_one (omega arith))
