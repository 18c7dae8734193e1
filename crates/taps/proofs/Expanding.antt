-- How large the numerators are on the way.
use Prim.Native.Nat.{ℕ, zero, suc, ◌+◌, ◌*◌, ◌%◌, ◌^◌, ◌≤◌, ◌<◌}
use native.Mathlib.Omega.{arith}
use native.Mathlib.Nat.{mul-le-mul_right}
use lib.IntN.{ℤ, pos, nat_abs, ◌-ℤ◌}
use Rattle.integers.specs.Numbers.{odd_z}
use lib.Bits.{bit_and}
use mathlib.Core.Path.{◌≡◌, refl}
use mir.Syntax.{w64}
use mir.Val.{of_z}
use lib.Dec.{eqb}
use Rattle.std.specs.Int.{from_bool}
use Rattle.integers.proofs.Sizes.{odd_lt, abs--, half_size, low_bit, fits64}
use Rattle.fractions.specs.Expansion.{next_num, iter_num, digits_to}
use Rattle.fractions.proofs.Numerators.{digits_lt}
use native.Mathlib.Nat.{mod-eq_of_lt}
use lib.Pow.{pow_mono}

pub digit_le : (d q : ℕ) → d < 2 → d * q ≤ q
digit_le d q h = omega (arith, mul-le-mul_right {m = d} {n = 1} q (omega arith))

pub next_size : (q : ℕ) (p : ℤ) → nat_abs p ≤ 2 ^ 61 → q < 2 ^ 30 → nat_abs (next_num q p) ≤ 2 ^ 61
unfolding next_num
next_size q p h l =
    let d = odd_z p * q in
    let s : nat_abs (p -ℤ pos d) ≤ 2 ^ 61 + 2 ^ 30 = abs-- p (pos d) {a = 2 ^ 61} {b = 2 ^ 30} h (omega (arith, digit_le (odd_z p) q (odd_lt p))) in
    omega (arith, half_size (p -ℤ pos d))

pub iter_size : (q n : ℕ) (p : ℤ) → nat_abs p ≤ 2 ^ 61 → q < 2 ^ 30 → nat_abs (iter_num q n p) ≤ 2 ^ 61
unfolding iter_num
iter_size q zero p h l = h
iter_size q (suc n) p h l = next_size q (iter_num q n p) (iter_size q n p h l) l

-- the lowest bit, as code tests it
pub digit_of : (z : ℤ) → nat_abs z ≤ 2 ^ 61 → from_bool (eqb (bit_and (of_z w64 z) 1) 1) ≡ odd_z z
digit_of z h = rw (low_bit z (fits64 z (omega arith))) (go (odd_z z) (odd_lt z))
  where
    go : (d : ℕ) → d < 2 → from_bool (eqb d 1) ≡ d
    go zero l = refl
    go (suc zero) l = refl
    go (suc (suc d)) l = absurd (omega arith)

-- one digit more, where the machine puts it: it fits 32 bits
pub added : (q i : ℕ) (p : ℤ) → i < 30 → (odd_z (iter_num q i p) * 2 ^ i % 2 ^ 32 ≡ odd_z (iter_num q i p) * 2 ^ i) × (digits_to q i p + odd_z (iter_num q i p) * 2 ^ i < 2 ^ 31)
added q i p h =
    let d = odd_z (iter_num q i p) in
    let weight : 2 ^ i ≤ 2 ^ 29 = pow_mono {j = 29} (omega arith) in
    let small : d * 2 ^ i ≤ 2 ^ i = digit_le d (2 ^ i) (odd_lt (iter_num q i p)) in
    (mod-eq_of_lt (omega arith), omega (arith, digits_lt q i p))
