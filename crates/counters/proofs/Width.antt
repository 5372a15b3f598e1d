-- Differences modulo a power of two, once over the width: the judgement of a PauseID cites them at 16 bits, the due test at 32.
-- Assumes nothing.
use Rattle.std.proofs.Common.{◌≡◌, ℕ, suc, ◌+◌, ◌-◌, ◌%◌, ◌^◌, ◌<◌, ◌≤◌, pos, negsuc, mod-eq_of_lt, arith, le-ltb, lt-ltb}
use native.Mathlib.Nat.{mod-add-mod, add-mod_right}
use Rattle.counters.specs.Width.{less, signed}

-- What a wrapping subtraction promises, that adding b to the result gives a, is the document's difference.
pub less_of : (w : ℕ) {r a b : ℕ} → r < 2 ^ w → b < 2 ^ w → (r + b) % 2 ^ w ≡ a → less w a b ≡ r
unfolding less
less_of w {r} {a} {b} hr hb e =
    let whole : (r + b) + (2 ^ w - b) ≡ r + 2 ^ w = omega arith in
    rw (← e, mod-add-mod, whole, add-mod_right, mod-eq_of_lt hr)

-- A difference below half a turn is itself.
pub signed_ahead : (w : ℕ) {d : ℕ} → d < 2 ^ (w - 1) → signed w d ≡ pos d
unfolding signed
signed_ahead w h = rw (lt-ltb _ _ h)

-- Any other is below 0.
pub signed_behind : (w : ℕ) {d : ℕ} → 2 ^ (w - 1) ≤ d → d < 2 ^ w → (n : ℕ) × (signed w d ≡ negsuc n)
unfolding signed
signed_behind w {d} h k = (2 ^ w - suc d, rw (le-ltb _ _ h, lt-ltb _ _ k))
