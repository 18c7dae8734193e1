-- Bytes and bits, as lists of numbers, lowest first.
--
--   num b xs          the number whose digits to base b are xs: bits are digits to base 2, bytes to base 256
--   digits b k n      the lowest k digits of n to base b
--   Below b xs        each of xs is below b
--   bit_of n i         bit i of a number, that of weight 2 ^ i
--   bit_at bytes i     "Bit i is in byte i/8 (rounded down) with weight 2^(i mod 8)."
--   value bytes n     "the sum of bit i times 2^i", over the first n bits
--   window bytes i m  bits i to i + m - 1 as one number, bit i lowest
use Rattle.std.specs.Prelude.{ℕ, zero, suc, ◌+◌, ◌*◌, ◌/◌, ◌%◌, ◌^◌, ◌<◌, List, [], ◌∷◌, get_or}

unfoldable pub num : ℕ → List ℕ → ℕ
num b [] = 0
num b (x ∷ xs) = x + b * num b xs

unfoldable pub digits : ℕ → ℕ → ℕ → List ℕ
digits b zero n = []
digits b (suc k) n = n % b ∷ digits b k (n / b)

abbrev pub Below : ℕ → List ℕ → Type 0
Below b xs = (i : ℕ) → get_or xs i 0 < b

abbrev pub bit_of : ℕ → ℕ → ℕ
bit_of n i = n / 2 ^ i % 2

abbrev pub bit_at : List ℕ → ℕ → ℕ
bit_at bytes i = bit_of (get_or bytes (i / 8) 0) (i % 8)

unfoldable pub value : List ℕ → ℕ → ℕ
value bytes zero = 0
value bytes (suc n) = value bytes n + bit_at bytes n * 2 ^ n

abbrev pub window : List ℕ → ℕ → ℕ → ℕ
window bytes i m = num 256 bytes / 2 ^ i % 2 ^ m
