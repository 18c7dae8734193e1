-- The memories that a register reaches, after any number of steps. A step adds at most w to the memory, w the ones in q + 1, and halves.
--
--   ones_next        a number that is not 0 has a digit that is set
--   taps_most        the sum over the taps is at most the number of ones in q + 1
--   memory_range     after any number of steps the memory is between any bounds that keep to 0 and m below, and to m and w - 1 above
--   min_z, max_z       the smaller and the larger of two numbers
--   memory_between   so it is between min(m, 0) and max(m, w - 1)
--   memory_fits      and no memory that is reached later needs more than the width of the sheet
-- The register need not be valid for any of it.
use mathlib.Core.Path.{◌≡◌, refl, ap, ◌∙◌, subst}
use Prim.Native.Nat.{ℕ, zero, suc, ◌+◌, ◌-◌, ◌*◌, ◌/◌, ◌%◌, ◌^◌, ◌≤◌, ◌<◌}
use native.Mathlib.Omega.{arith}
use native.Mathlib.Nat.{mod-eq_of_lt, mod-lt, mul-le-mul_left, mod-one}
use Rattle.std.specs.Int.{int_min, int_max}
use Rattle.std.proofs.lemmas.Int.{ints, clamps}
use Rattle.std.proofs.lemmas.Nat.{zero_from_ones}
use lib.Count.{ones, ones_cat}
use lib.Pow.{pow_pos}
use lib.IntN.{ℤ, pos, neg_ℤ, ◌+ℤ◌, ◌-ℤ◌}
use lib.Signed.{◌≤ℤ◌}
use Rattle.integers.specs.Numbers.{half_z}
use Rattle.integers.proofs.Log2.{log2_upper}
use Rattle.integers.proofs.Parts.{parts_half}
use Rattle.fractions.proofs.Numerators.{odd_is}
use Rattle.bits.specs.Bits.{bit_of}
use Rattle.taps.specs.Sums.{taps_to}
use Rattle.registers.specs.Registers.{cell_count, sum_of, iter_of}
use Rattle.registers.specs.declared.Register.{Register}
use Rattle.registers.proofs.Validity.{sum_is, iter_q}
use Rattle.registers.proofs.Numerators.{top_digit}
use Rattle.storage.specs.Storage.{Between, MemoryBits}

pub ones_next : (n k : ℕ) → 1 ≤ ones (n + suc k)
ones_next n k = grind (arith, zero_from_ones (n + suc k))

-- ---- the taps are at most the ones in q + 1
unfoldable ones_to : ℕ → ℕ → ℕ
ones_to n zero = 0
ones_to n (suc k) = ones_to n k + bit_of n k

ones_bit : (a : ℕ) → ones (a % 2) ≡ a % 2
unfolding ones
ones_bit a = go (a % 2) (omega arith)
  where
    go : (b : ℕ) → b < 2 → ones b ≡ b
    go zero h = refl
    go (suc zero) h = refl
    go (suc (suc b)) h = absurd (omega arith)

ones-to : (n k : ℕ) → ones (n % 2 ^ k) ≡ ones_to n k
unfolding ones_to ones
ones-to n zero = ap ones (mod-one n)
ones-to n (suc k) =
    ap ones (top_digit n k) ∙ ones_cat k (bit_of n k) (n % 2 ^ k) (mod-lt n (pow_pos k))
    ∙ omega (arith, ones_bit (n / 2 ^ k), ones-to n k)

taps-to : (q a r k : ℕ) → taps_to q a r k ≤ ones_to (q + 1) (suc k)
unfolding taps_to ones_to
taps-to q a r zero = omega arith
taps-to q a r (suc k) =
    let t = bit_of (q + 1) (suc k) in
    let b : t * bit_of a (r - suc k) ≤ t * 1 = mul-le-mul_left t (omega arith) in
    omega (arith, taps-to q a r k)

pub taps_most : (q a : ℕ) → taps_to q a (cell_count q) (cell_count q) ≤ ones (q + 1)
taps_most q a =
    let r = cell_count q in
    omega (arith, taps-to q a r r, ones-to (q + 1) (suc r), ap ones (mod-eq_of_lt (log2_upper (q + 1))))

-- ---- the memory after any number of steps
half_range : (z lo hi : ℤ) → lo ≤ℤ pos 0 → lo ≤ℤ z → z ≤ℤ (hi +ℤ (hi +ℤ pos 1)) → (lo ≤ℤ half_z z) × (half_z z ≤ℤ hi)
half_range z lo hi n l h = (omega (arith, ints, parts_half z, odd_is z), omega (arith, ints, parts_half z))

pub memory_range : (g : Register) (lo hi : ℤ) → lo ≤ℤ pos 0 → lo ≤ℤ g.memory → g.memory ≤ℤ hi → pos (ones (g.q + 1) - 1) ≤ℤ hi
    → (k : ℕ) → (lo ≤ℤ (iter_of k g).memory) × ((iter_of k g).memory ≤ℤ hi)
unfolding iter_of
memory_range g lo hi n l h w zero = (l, h)
memory_range g lo hi n l h w (suc k) =
    let s = iter_of k g in
    let ih = memory_range g lo hi n l h w k in
    let t = taps_to s.q s.cells (cell_count s.q) (cell_count s.q) in
    let most : t ≤ ones (g.q + 1) = subst (λ (q : ℕ). t ≤ ones (q + 1)) (iter_q k g) (taps_most s.q s.cells) in
    let low : lo ≤ℤ (s.memory +ℤ pos t) = omega (arith, ints, ih.0) in
    let high : (s.memory +ℤ pos t) ≤ℤ (hi +ℤ (hi +ℤ pos 1)) = omega (arith, ints, ih.1, most, ones_next g.q 0) in
    half_range (sum_of s) lo hi n
    (rw (sum_is s) low) (rw (sum_is s) high)

-- ---- min(m, 0) and max(m, w - 1)
abbrev pub min_z : ℤ → ℤ → ℤ
min_z x y = int_min x y

abbrev pub max_z : ℤ → ℤ → ℤ
max_z x y = int_max x y

min_le : (x y : ℤ) → (min_z x y ≤ℤ x) × (min_z x y ≤ℤ y)
min_le x y = omega (arith, ints, clamps)

le_max : (x y : ℤ) → (x ≤ℤ max_z x y) × (y ≤ℤ max_z x y)
le_max x y = omega (arith, ints, clamps)

pub memory_between : (g : Register) (k : ℕ)
    → (min_z g.memory (pos 0) ≤ℤ (iter_of k g).memory) × ((iter_of k g).memory ≤ℤ max_z g.memory (pos (ones (g.q + 1) - 1)))
memory_between g k =
    let a = min_le g.memory (pos 0) in
    let b = le_max g.memory (pos (ones (g.q + 1) - 1)) in
    memory_range g _ _ a.1 a.0 b.0 b.1 k

-- ---- no memory that is reached later needs more
pub memory_fits : (g : Register) (n : ℕ) → MemoryBits g n → (k : ℕ) → Between n (iter_of k g).memory
memory_fits g n h k =
    let b = h.holds in
    let low = neg_ℤ (pos (2 ^ (n - 1))) in
    let high = pos (2 ^ (n - 1)) -ℤ pos 1 in
    let below : low ≤ℤ pos 0 = omega (arith, ints) in
    let r = memory_range g low high below b.first.low b.first.high b.second.high k in
    record { low = r.0; high = r.1 }
