-- Messages written packet after packet, each packet of the same length.
-- Assumes nothing.
use Prim.Native.Nat.{ℕ, zero, suc, ◌+◌, ◌*◌, ◌<◌}
use mathlib.Core.Path.{◌≡◌, refl, sym, ap, ◌∙◌}
use mathlib.Core.List.{List, [], ◌∷◌, ◌++◌, append_assoc}
use native.Mathlib.Nat.{mul-zero, mul-suc, zero-add}
use native.Mathlib.Omega.{arith}
use lib.ListN.{length, get_or, take, drop, length-append}
use lib.Seq.{slice, take_at, take-append-add, drop-append-add}
use Rattle.sides.specs.Calls.{in_packets}

-- a part that lies after the first bytes
slice_after : (first rest : List ℕ) (from to : ℕ) → slice (length first + from) (length first + to) (first ++ rest) ≡ slice from to rest
slice_after first rest from to = ap (drop (length first + from)) (take-append-add first rest to) ∙ drop-append-add first (take to rest) from

module _ {R : Type 0} (packet : R → List ℕ) where
  pub packets_append : (ms ns : List R) → in_packets packet (ms ++ ns) ≡ in_packets packet ms ++ in_packets packet ns
  packets_append [] ns = refl
  packets_append (m ∷ ms) ns = ap (λ l. packet m ++ l) (packets_append ms ns) ∙ sym (append_assoc (packet m) (in_packets packet ms) (in_packets packet ns))

  module _ (size : ℕ) (long : (m : R) → length (packet m) ≡ size) where
    pub packets_long : (ms : List R) → length (in_packets packet ms) ≡ size * length ms
    packets_long [] = sym (mul-zero size)
    packets_long (m ∷ ms) =
        omega (arith, length-append (packet m) (in_packets packet ms), long m, packets_long ms, mul-suc size (length ms))

    -- packet k, whatever stands after the packets
    pub packet_at_lem : (ms : List R) (rest : List ℕ) (k : ℕ) (none : R) → k < length ms
        → slice (size * k) (size * k + size) (in_packets packet ms ++ rest) ≡ packet (get_or ms k none)
    packet_at_lem [] rest k none h = absurd (omega arith)
    packet_at_lem (m ∷ ms) rest zero none h =
        rw (mul-zero size, zero-add size)
        (ap (take size) (append_assoc (packet m) (in_packets packet ms) rest) ∙ take_at (packet m) (in_packets packet ms ++ rest) size (long m))
    packet_at_lem (m ∷ ms) rest (suc k) none h =
        let start : size * suc k ≡ length (packet m) + size * k = omega (arith, mul-suc size k, long m) in
        let end : size * suc k + size ≡ length (packet m) + (size * k + size) = omega (arith, mul-suc size k, long m) in
        rw (end, start)
        (ap (slice (length (packet m) + size * k) (length (packet m) + (size * k + size))) (append_assoc (packet m) (in_packets packet ms) rest)
        ∙ slice_after (packet m) (in_packets packet ms ++ rest) (size * k) (size * k + size)
        ∙ packet_at_lem ms rest k none (omega arith))
