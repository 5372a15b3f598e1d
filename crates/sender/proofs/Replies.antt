-- Replies as bytes: how long they are.
-- Assumes nothing.
use mathlib.Core.List.{List, [], ◌∷◌, ◌++◌}
use mathlib.Core.Path.{◌≡◌, refl, ap, sym, ◌∙◌}
use Prim.Native.Nat.{ℕ, ◌+◌}
use lib.ListN.{length, length-append}
use Rattle.stream.specs.declared.ReplyEntry.{ReplyEntry}
use Rattle.std.specs.Prelude.{Option, Some, None}
use Rattle.sides.proofs.Packets.{packets_append}
use Rattle.sender.specs.Replies.{packet_of, packets_of}
use Rattle.sender.specs.Serve.{length_of, listed}

-- a reply is as long as the rules say
pub length_packet : (r : Option ReplyEntry) → length (packets_of (listed r)) ≡ length_of r
length_packet None = refl
length_packet (Some e) = refl

-- as a local call says it
pub length_told : (r : Option ReplyEntry) → length_of r ∷ [] ≡ length (packets_of (listed r)) ∷ []
length_told r = ap (λ n. n ∷ []) (sym (length_packet r))

-- one reply more
pub reply_long : (rs : List ReplyEntry) (r : Option ReplyEntry) → length (packets_of rs) + length_of r ≡ length (packets_of (rs ++ listed r))
reply_long rs r =
    ap (λ (n : ℕ). length (packets_of rs) + n) (sym (length_packet r))
    ∙ sym (ap length (packets_append packet_of rs (listed r)) ∙ length-append (packets_of rs) (packets_of (listed r)))
