-- The 2-adic expansion of p/q, q odd, digit by digit: "u·q - p divisible by 2^64: the first 64 output bits, first bit lowest".
--
--   next_num q p     the numerator after the first digit: p = digit·q + 2·next_num, and q odd leaves one choice of the digit
--   iter_num q n p   the numerator after n digits
--   digit_at q p i   digit i
--   digits_to q n p  the first n digits as one number, first digit lowest
-- The law `expansion_unique` says that digits_to q n p is the one number below 2^n that p/q fits.
use Rattle.std.specs.Prelude.{ℕ, zero, suc, ◌+◌, ◌*◌, ◌^◌, ℤ, pos, ◌-ℤ◌}
use Rattle.integers.specs.Numbers.{odd_z, half_z}

unfoldable pub next_num : ℕ → ℤ → ℤ
next_num q p = half_z (p -ℤ pos (odd_z p * q))

unfoldable pub iter_num : ℕ → ℕ → ℤ → ℤ
iter_num q zero p = p
iter_num q (suc n) p = next_num q (iter_num q n p)

abbrev pub digit_at : ℕ → ℤ → ℕ → ℕ
digit_at q p i = odd_z (iter_num q i p)

unfoldable pub digits_to : ℕ → ℕ → ℤ → ℕ
digits_to q zero p = 0
digits_to q (suc n) p = digits_to q n p + digit_at q p n * 2 ^ n
