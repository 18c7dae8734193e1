-- The sums over the taps, as natural numbers; no public contract cites them. Digit k of q + 1 is the tap q_k, for k at least 1.
--
--   taps_to q a r k      q_1·a_(r-1) + .. + q_k·a_(r-k): at k = r, the taps' part of the step's sum
--   over_to q a r k      q_1·floor(a / 2^(r-1)) + .. + q_k·floor(a / 2^(r-k)): at k = r, y is a·q less 2^r times it
--   parts_to b q a r k   the same of b bits of a from bit r - 1 on, .., from bit r - k on: taps_to has one bit of each, over_to all
use Rattle.std.specs.Prelude.{ℕ, zero, suc, ◌+◌, ◌-◌, ◌*◌, ◌/◌, ◌%◌, ◌^◌}
use Rattle.bits.specs.Bits.{bit_of}

unfoldable pub taps_to : ℕ → ℕ → ℕ → ℕ → ℕ
taps_to q a r zero = 0
taps_to q a r (suc k) = taps_to q a r k + bit_of (q + 1) (suc k) * bit_of a (r - suc k)

unfoldable pub over_to : ℕ → ℕ → ℕ → ℕ → ℕ
over_to q a r zero = 0
over_to q a r (suc k) = over_to q a r k + bit_of (q + 1) (suc k) * (a / 2 ^ (r - suc k))

unfoldable pub parts_to : ℕ → ℕ → ℕ → ℕ → ℕ → ℕ
parts_to b q a r zero = 0
parts_to b q a r (suc k) = parts_to b q a r k + bit_of (q + 1) (suc k) * (a / 2 ^ (r - suc k) % 2 ^ b)
