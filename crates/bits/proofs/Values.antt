-- The value of the first n bits of bytes is their number modulo 2 ^ n, and the number of their bits; and a window moves it on.
--
--   value-num      value bytes n is num 256 bytes mod 2 ^ n
--   value_bits     value bytes n is the number of the first n bits
--   value_more     m bits more add their window times 2 ^ i: one law for every m
--   value_agree    where the first n bits are the same, so is the value: bits past the count have no effect
--   value_lt       value bytes n is below 2 ^ n
use Prim.Native.Nat.{ℕ, zero, suc, ◌+◌, ◌*◌, ◌/◌, ◌%◌, ◌^◌, ◌≤◌, ◌<◌}
use mathlib.Core.Path.{◌≡◌, refl, sym, ap, ap₂, ◌∙◌}
use mathlib.Core.List.{List}
use native.Mathlib.Nat.{mod-one, add_comm, pow-suc, mul-le-mul_right}
use native.Mathlib.Omega.{arith}
use lib.Pow.{mod-pow-add}
use Rattle.bits.specs.Bits.{num, digits, Below, bit_of, bit_at, value, window}
use Rattle.bits.proofs.Bits.{bit-of}

-- one more bit of a number, at the top and at the bottom
top_bit : (n k : ℕ) → n % 2 ^ suc k ≡ n % 2 ^ k + bit_of n k * 2 ^ k
top_bit n k = ap (λ (x : ℕ). n % 2 ^ x) (one k) ∙ mod-pow-add n 1 k ∙ add_comm (n / 2 ^ k % 2 ^ 1 * 2 ^ k) (n % 2 ^ k)
  where
    one : (k : ℕ) → suc k ≡ 1 + k
    one k = omega arith

low_bit : (n k : ℕ) → n % 2 ^ suc k ≡ n % 2 + 2 * (n / 2 % 2 ^ k)
low_bit n k = ap (λ (x : ℕ). n % 2 ^ x) (one k) ∙ mod-pow-add n k 1 ∙ swap (n / 2 % 2 ^ k) (n % 2)
  where
    one : (k : ℕ) → suc k ≡ k + 1
    one k = omega arith

    swap : (a b : ℕ) → a * 2 + b ≡ b + 2 * a
    swap a b = omega arith

-- the number of the lowest k bits
pub num_low : (k n : ℕ) → num 2 (digits 2 k n) ≡ n % 2 ^ k
unfolding num digits
num_low zero n = sym (mod-one n)
num_low (suc k) n = ap (λ (x : ℕ). n % 2 + 2 * x) (num_low k (n / 2)) ∙ sym (low_bit n k)

pub value-num : (bytes : List ℕ) (n : ℕ) → Below 256 bytes → value bytes n ≡ num 256 bytes % 2 ^ n
unfolding value
value-num bytes zero l = sym (mod-one (num 256 bytes))
value-num bytes (suc n) l =
    ap₂ (λ (x y : ℕ). x + y * 2 ^ n) (value-num bytes n l) (bit-of bytes n l) ∙ sym (top_bit (num 256 bytes) n)

pub value_bits : (bytes : List ℕ) (n : ℕ) → Below 256 bytes → value bytes n ≡ num 2 (digits 2 n (num 256 bytes))
value_bits bytes n l = value-num bytes n l ∙ sym (num_low n (num 256 bytes))

pub bit_lt : (bytes : List ℕ) (i : ℕ) → bit_at bytes i < 2
bit_lt bytes i = omega arith

pub value_lt : (bytes : List ℕ) (n : ℕ) → value bytes n < 2 ^ n
unfolding value
value_lt bytes zero = omega arith
value_lt bytes (suc n) = rw (pow-suc 2 n) (omega (arith, value_lt bytes n, mul-le-mul_right {m = bit_at bytes n} {n = 1} (2 ^ n) (one (bit_at bytes n) (bit_lt bytes n))))
  where
    one : (b : ℕ) → b < 2 → b ≤ 1
    one b h = omega arith

pub value_more : (bytes : List ℕ) (i m : ℕ) → Below 256 bytes → value bytes (i + m) ≡ value bytes i + window bytes i m * 2 ^ i
value_more bytes i m l =
    value-num bytes (i + m) l ∙ ap (λ (x : ℕ). num 256 bytes % 2 ^ x) (add_comm i m) ∙ mod-pow-add (num 256 bytes) m i
    ∙ add_comm (window bytes i m * 2 ^ i) (num 256 bytes % 2 ^ i) ∙ ap (λ (x : ℕ). x + window bytes i m * 2 ^ i) (sym (value-num bytes i l))

pub value_agree : (l m : List ℕ) (n : ℕ) → ((i : ℕ) → i < n → bit_at l i ≡ bit_at m i) → value l n ≡ value m n
unfolding value
value_agree l m zero h = refl
value_agree l m (suc n) h = ap₂ (λ (a b : ℕ). a + b * 2 ^ n) (value_agree l m n (λ i k. h i (omega arith))) (h n (omega arith))
