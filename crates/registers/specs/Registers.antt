-- The register, in the words of the document's "The register".
--
--   cell_count q   "r = floor(log2(q+1))"
--   tap q k       q_k: "q+1 = q_1·2 + q_2·4 + ... + q_r·2^r gives the taps; take q_0 = -1"
--   cell a i      a_i: "cells a_0 to a_(r-1) as a number below 2^r with a_0 lowest"
--   Valid g       "It is valid when q is odd, 1 <= q <= B, the cells are below 2^r and -2^30 <= m <= 2^30."
--   sum_below n f  f 0 + f 1 + .. + f (n - 1)
--   sum_of g       "s = m plus the sum of q_k·a_(r-k), k = 1 to r"
--   emitted g     "Emit a_0."
--   next_of g      the register after a step: "The new cell a_r is 0 or 1 and equals s modulo 2; the new memory is s/2 rounded
--                 toward minus infinity. All cells move down one."
--   iter_of n g    the register after n steps
--   out_to n g     the first n bits it emits as one number, first bit lowest
--   y_to q a r     "y is the sum, i from 0 to r-1 and j from 0 to i, of q_j·a_(i-j)·2^i"
--   num_of g       its numerator: "p = y - m·2^r"
--   Load p q g    "Cells: the first r bits of p/q. .. m = (y - p)/2^r, which is whole."
use Rattle.std.specs.Prelude.{◌≡◌, ℕ, zero, suc, ◌+◌, ◌-◌, ◌*◌, ◌/◌, ◌%◌, ◌^◌, ◌≤◌, ◌<◌, ℤ, pos, negsuc, nat_abs, ◌+ℤ◌, ◌-ℤ◌, ◌*ℤ◌}
use Rattle.integers.specs.Numbers.{odd_z, half_z, log2}
use Rattle.bits.specs.Bits.{bit_of}
use Rattle.fractions.specs.Pairs.{limit}
use Rattle.fractions.specs.Expansion.{digits_to}
use Rattle.registers.specs.declared.Register.{Register}

abbrev pub cell_count : ℕ → ℕ
cell_count q = log2 (q + 1)

abbrev pub tap : ℕ → ℕ → ℤ
tap q zero = negsuc 0
tap q (suc k) = pos (bit_of (q + 1) (suc k))

abbrev pub cell : ℕ → ℕ → ℤ
cell a i = pos (bit_of a i)

pub record Valid (g : Register) : Type 0 where
  pub odd : g.q % 2 ≡ 1
  pub some : 1 ≤ g.q
  pub q_most : g.q ≤ limit
  pub cells : g.cells < 2 ^ cell_count g.q
  pub memory : nat_abs g.memory ≤ 2 ^ 30

unfoldable pub sum_below : ℕ → (ℕ → ℤ) → ℤ
sum_below zero f = pos 0
sum_below (suc n) f = sum_below n f +ℤ f n

-- ---- the step

abbrev pub tap_sum : ℕ → ℕ → ℕ → ℤ
tap_sum q a r = sum_below r (λ k. tap q (suc k) *ℤ cell a (r - suc k))

abbrev pub sum_of : Register → ℤ
sum_of g = g.memory +ℤ tap_sum g.q g.cells (cell_count g.q)

abbrev pub emitted : Register → ℕ
emitted g = g.cells % 2

abbrev pub next_of : Register → Register
next_of g =
    record {
      q = g.q;
      cells = g.cells / 2 + odd_z (sum_of g) * 2 ^ (cell_count g.q - 1);
      memory = half_z (sum_of g);
    }

unfoldable pub iter_of : ℕ → Register → Register
iter_of zero g = g
iter_of (suc n) g = next_of (iter_of n g)

unfoldable pub out_to : ℕ → Register → ℕ
out_to zero g = 0
out_to (suc n) g = out_to n g + emitted (iter_of n g) * 2 ^ n

-- ---- the numerator, and loading

unfoldable pub y_to : ℕ → ℕ → ℕ → ℤ
y_to q a r = sum_below r (λ i. sum_below (suc i) (λ j. tap q j *ℤ cell a (i - j) *ℤ pos (2 ^ i)))

abbrev pub num_of : Register → ℤ
num_of g = y_to g.q g.cells (cell_count g.q) -ℤ g.memory *ℤ pos (2 ^ cell_count g.q)

pub record Load (p : ℤ) (q : ℕ) (g : Register) : Type 0 where
  pub q_is : g.q ≡ q
  pub cells : g.cells ≡ digits_to q (cell_count q) p
  pub memory : g.memory *ℤ pos (2 ^ cell_count q) ≡ y_to q g.cells (cell_count q) -ℤ p
