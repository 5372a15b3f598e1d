-- Bytes as numbers of any width, and two numbers put together by a shift and an or.
-- Assumes nothing.
use mathlib.Core.Path.{◌≡◌}
use Prim.Native.Nat.{ℕ, ◌+◌, ◌*◌, ◌%◌, ◌^◌, ◌<◌, ◌≤◌}
use lib.Bits.{bit_or, or_shifted}
use lib.Pow.{shl_exact}

pub joins : (j k w : ℕ) {hi lo : ℕ} → hi < 2 ^ j → lo < 2 ^ k → j + k ≤ w → bit_or ((hi * 2 ^ k) % 2 ^ w) lo ≡ hi * 2 ^ k + lo
joins j k w {hi} {lo} h l fits = rw (shl_exact j k w h fits, or_shifted hi k lo l)
