-- Valid registers: their ranges, so that nothing wraps, and that they stay valid.
--
--   few          how many cells there are at most
--   facts        what a valid register's numbers are, as code needs them
--   valid_next   a valid register stays valid after a step; valid_iter, after n
--   iter_q       q stays
use mathlib.Core.Path.{◌≡◌, refl, ap}
use Prim.Native.Nat.{ℕ, zero, suc, ◌+◌, ◌-◌, ◌*◌, ◌/◌, ◌%◌, ◌^◌, ◌≤◌, ◌<◌}
use native.Mathlib.Omega.{arith}
use native.Mathlib.Nat.{mul-le-mul_right, not-suc-le-zero}
use lib.Pow.{pow_mono}
use lib.IntN.{ℤ, pos, nat_abs, ◌+ℤ◌, ◌*ℤ◌}
use Rattle.integers.specs.Numbers.{odd_z, half_z}
use Rattle.integers.proofs.Log2.{log2_step, log2-below}
use Rattle.integers.proofs.Sizes.{odd_lt, half_size}
use Rattle.integers.proofs.Parts.{nat_abs-+}
use Rattle.bits.specs.Bits.{bit_of}
use Rattle.taps.proofs.Adding.{taps_le}
use Rattle.taps.specs.Sums.{taps_to}
use Rattle.registers.specs.Registers.{cell_count, Valid, sum_below, tap_sum, sum_of, next_of, iter_of, tap, cell}
use Rattle.registers.specs.declared.Register.{Register}

-- a q below 2^30 has at most 30 cells
pub few : (q : ℕ) → q < 2 ^ 30 → cell_count q ≤ 30
few q h = omega (arith, log2-below 31 (q + 1) (omega arith) (omega arith))

pub record Facts (g : Register) : Type 0 where
  pub odd : g.q % 2 ≡ 1
  pub small : g.q < 2 ^ 30
  pub some : 1 ≤ cell_count g.q
  pub few : cell_count g.q ≤ 30
  pub cells : g.cells < 2 ^ cell_count g.q
  pub memory : nat_abs g.memory ≤ 2 ^ 30

pub facts : (g : Register) → Valid g → Facts g
facts g v =
    record {
      odd = v.odd;
      small = omega (arith, v.q_most);
      some = omega (arith, v.some, log2_step (g.q + 1) (omega (arith, v.some)));
      few = few g.q (omega (arith, v.q_most));
      cells = v.cells;
      memory = v.memory;
    }

-- ---- the sum over the taps, as a natural number
pub taps_are : (q a r : ℕ) → tap_sum q a r ≡ pos (taps_to q a r r)
unfolding sum_below taps_to
taps_are q a r = go r
  where
    go : (k : ℕ) → sum_below k (λ k. tap q (suc k) *ℤ cell a (r - suc k)) ≡ pos (taps_to q a r k)
    go zero = refl
    go (suc k) = ap (λ (z : ℤ). z +ℤ pos (bit_of (q + 1) (suc k)) *ℤ pos (bit_of a (r - suc k))) (go k)

pub sum_is : (g : Register) → sum_of g ≡ g.memory +ℤ pos (taps_to g.q g.cells (cell_count g.q) (cell_count g.q))
sum_is g = ap (λ (z : ℤ). g.memory +ℤ z) (taps_are g.q g.cells (cell_count g.q))

-- ---- a step keeps a register valid
pub cells_next : (a o r : ℕ) → 1 ≤ r → a < 2 ^ r → o < 2 → a / 2 + o * 2 ^ (r - 1) < 2 ^ r
cells_next a o zero h l k = absurd (not-suc-le-zero h)
cells_next a o (suc r) h l k =
    let e : suc r - 1 ≡ r = omega arith in
    let p : o * 2 ^ r ≤ 1 * 2 ^ r = mul-le-mul_right (2 ^ r) (omega arith) in
    rw e (omega arith)

pub memory_next : (g : Register) → Valid g → nat_abs (half_z (sum_of g)) ≤ 2 ^ 30
memory_next g v =
    let f = facts g v in
    let r = cell_count g.q in
    let s = taps_to g.q g.cells r r in
    let e : nat_abs (sum_of g) ≡ nat_abs (g.memory +ℤ pos s) = ap nat_abs (sum_is g) in
    omega (arith, half_size (sum_of g), nat_abs-+ g.memory (pos s), taps_le g.q g.cells r r)

pub valid_next : (g : Register) → Valid g → Valid (next_of g)
valid_next g v =
    let f = facts g v in
    record {
      odd = v.odd;
      some = v.some;
      q_most = v.q_most;
      cells = cells_next g.cells (odd_z (sum_of g)) (cell_count g.q) f.some v.cells (odd_lt (sum_of g));
      memory = memory_next g v;
    }

pub valid_iter : (n : ℕ) (g : Register) → Valid g → Valid (iter_of n g)
unfolding iter_of
valid_iter zero g v = v
valid_iter (suc n) g v = valid_next (iter_of n g) (valid_iter n g v)

pub iter_q : (n : ℕ) (g : Register) → (iter_of n g).q ≡ g.q
unfolding iter_of
iter_q zero g = refl
iter_q (suc n) g = iter_q n g

-- the machine's 2^k
pub shifted : (k : ℕ) → k < 32 → 1 * 2 ^ k % 2 ^ 32 ≡ 2 ^ k
shifted k h = let p : 2 ^ k ≤ 2 ^ 31 = pow_mono {j = 31} (omega arith) in omega arith
