-- Document 01, "One stream": differences modulo a power of two, said once over the width. PauseID distance is at 16 bits, the clock's at 32.
use Rattle.std.specs.Prelude.{ℕ, ◌+◌, ◌-◌, ◌%◌, ◌^◌, cond, ℤ, pos, nat_lt}
use Rattle.std.proofs.Math.IntN.{sub_ℕ}

-- a less b, modulo 2 ^ w
unfoldable pub less : ℕ → ℕ → ℕ → ℕ
less w a b = (a + (2 ^ w - b)) % 2 ^ w

-- a difference brought into -(2 ^ (w - 1)) to 2 ^ (w - 1) - 1
unfoldable pub signed : ℕ → ℕ → ℤ
signed w d = cond (nat_lt d (2 ^ (w - 1))) (pos d) (sub_ℕ d (2 ^ w))
