-- The least signed width that holds two numbers: a sign bit, and the bits of what the larger has past its sign.
--
--   between_of, of_between        n signed bits hold exactly what is below 2^(n-1) past its sign
--   width_least                   a sign bit and the bits of the larger of two numbers are the least width that holds both
--   length_most                   a number of 32 bits has a length of at most 32
--   bits_of                       the width of the sheet is 1 + the bit length of the larger of what m and w - 1 have past their sign
--   width_needed                  and the memory itself or w - 1 does not fit one bit less
--   sheet_37, sheet_1             the width is 3 for -1/37, and 1 for the load of (2, 1)
use mathlib.Core.Path.{◌≡◌}
use mathlib.Core.Logic.{◌⊎◌, inl, inr}
use Prim.Native.Nat.{ℕ, suc, ◌+◌, ◌-◌, ◌^◌, ◌≤◌, ◌<◌, max}
use native.Mathlib.Omega.{arith}
use Rattle.std.proofs.lemmas.Int.{ints}
use lib.Count.{ones}
use lib.Pow.{pow_pos, pow_mono}
use lib.IntN.{ℤ, pos, negsuc}
use lib.Signed.{mag}
use Rattle.integers.specs.Numbers.{Least}
use Rattle.integers.proofs.Finite.{lt_or_ge, least_unique}
use Rattle.registers.specs.declared.Register.{Register}
use Rattle.storage.specs.Storage.{Between, Both, MemoryBits}

-- ---- what n signed bits hold
pub between_of : (n : ℕ) (z : ℤ) → mag z < 2 ^ (n - 1) → Between n z
between_of n (pos a) h = record { low = omega (arith, ints); high = omega (arith, ints) }
between_of n (negsuc a) h = record { low = omega (arith, ints); high = omega (arith, ints) }

pub of_between : (n : ℕ) (z : ℤ) → Between n z → mag z < 2 ^ (n - 1)
of_between n (pos a) b = omega (arith, ints, pow_pos (n - 1), b.high)
of_between n (negsuc a) b = omega (arith, ints, b.low)

-- ---- the least width
-- h is the larger of what the two numbers have past their sign
pub width_least : (m : ℤ) (k h b : ℕ) → mag m ≤ h → k ≤ h → ((P : ℕ) → mag m < P → k < P → h < P) → Least (λ j. h < 2 ^ j) b
    → Least (Both m k) (b + 1)
width_least m k h b l l' g e = record {
  holds = record {
    some = omega arith;
    first = between_of (b + 1) m (rw one (omega (arith, e.holds)));
    second = between_of (b + 1) (pos k) (rw one (omega (arith, e.holds)));
  };
  first = λ n w. omega (arith, w.some, e.first (n - 1) (g (2 ^ (n - 1)) (of_between n m w.first) (of_between n (pos k) w.second)));
}
  where
    one : b + 1 - 1 ≡ b
    one = omega arith

pub length_most : (n b : ℕ) → n < 2 ^ 32 → Least (λ j. n < 2 ^ j) b → b ≤ 32
length_most n b h e = e.first 32 h

-- ---- the width is not generous
pub bits_of : (g : Register) (n b : ℕ) → MemoryBits g n → Least (λ j. max (mag g.memory) (ones (g.q + 1) - 1) < 2 ^ j) b → n ≡ b + 1
bits_of g n b h e =
    let w = ones (g.q + 1) - 1 in
    let s = max (mag g.memory) w in
    least_unique h (width_least g.memory w s b (omega arith) (omega arith) (λ P a c. omega arith) e)

pub width_needed : (g : Register) (n : ℕ) → 1 ≤ n → MemoryBits g (suc n) → (Between n g.memory → ⊥) ⊎ (Between n (pos (ones (g.q + 1) - 1)) → ⊥)
width_needed g n s h = elim (lt_or_ge (mag g.memory) (2 ^ (n - 1))) [
  | inl l ↦ inr (λ b. omega (arith, h.first n (record { some = s; first = between_of n g.memory l; second = b })))
  | inr l ↦ inl (λ b. omega (arith, of_between n g.memory b))
]

-- ---- the two values of the request
-- b + 1 is the length of what is at least 2^b and below 2^(b+1)
length_of : (h b : ℕ) → h < 2 ^ suc b → 2 ^ b ≤ h → Least (λ j. h < 2 ^ j) (suc b)
length_of h b l m = record {
  holds = l;
  first = λ k a. elim (lt_or_ge b k) [ inl i ↦ i | inr i ↦ absurd (omega (arith, pow_mono {i = k} {j = b} i)) ];
}

pub sheet_37 : MemoryBits (record { q = 37; cells = 19; memory = pos 0 }) 3
unfolding ones
sheet_37 = width_least (pos 0) 2 2 2 (omega arith) (omega arith) (λ P a b. b) (length_of 2 1 (omega arith) (omega arith))

pub sheet_1 : MemoryBits (record { q = 1; cells = 0; memory = negsuc 0 }) 1
unfolding ones
sheet_1 = width_least (negsuc 0) 0 0 0 (omega arith) (omega arith) (λ P a b. b) (record { holds = omega arith; first = λ k h. omega arith })
