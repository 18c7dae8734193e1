-- How large signed numbers are: bounds that omega reads, and that a number fits its width.
use Rattle.std.proofs.Common.{◌≡◌, ℕ, suc, ◌+◌, ◌-◌, ◌*◌, ◌%◌, ◌^◌, ◌<◌, ◌≤◌, Bool, true, false, ℤ, pos, negsuc, ◌-ℤ◌, ◌*ℤ◌, neg_ℤ, nat_abs, refl, ◌∙◌, mul-le-mul, arith, w32, w64, SFits, to_z, of_z}
use lib.Bits.{bit_and, and_mask}
use mir.ValLaws.{to_z-of_z}
use Rattle.std.proofs.lemmas.Int.{fits_signed_from_abs}
use Rattle.integers.specs.Numbers.{signed_by, odd_z, half_z}
use Rattle.integers.proofs.Parts.{nat_abs-+, nat_abs-*, nat_abs_neg}

-- ---- by nat_abs
pub fits64 : (z : ℤ) → nat_abs z < 2 ^ 63 → SFits w64 z
fits64 z h = fits_signed_from_abs w64 z h

-- what the machine reads back of a small number
pub back32 : (z : ℤ) → nat_abs z ≤ 2 ^ 30 → to_z w32 (of_z w32 z) ≡ z
back32 z h = to_z-of_z w32 z (fits_signed_from_abs w32 z (omega arith))

pub back64 : (z : ℤ) → nat_abs z < 2 ^ 63 → to_z w64 (of_z w64 z) ≡ z
back64 z h = to_z-of_z w64 z (fits64 z h)

pub signed_size : (minus : Bool) (n : ℕ) → nat_abs (signed_by minus n) ≡ n
signed_size true n = nat_abs_neg (pos n)
signed_size false n = refl

-- what the sizes of a difference and a product are, at bounds
pub abs-- : (x y : ℤ) {a b : ℕ} → nat_abs x ≤ a → nat_abs y ≤ b → nat_abs (x -ℤ y) ≤ a + b
abs-- x y h k = omega (arith, nat_abs-+ x (neg_ℤ y), nat_abs_neg y)

pub abs-* : (x y : ℤ) {a b : ℕ} → nat_abs x ≤ a → nat_abs y ≤ b → nat_abs (x *ℤ y) ≤ a * b
abs-* x y {a} {b} h k = omega (arith, nat_abs-* x y, mul-le-mul h k)

-- ---- the lowest bit, and half
pub odd_lt : (z : ℤ) → odd_z z < 2
odd_lt (pos n) = omega arith
odd_lt (negsuc n) = omega arith

pub half_size : (z : ℤ) → 2 * nat_abs (half_z z) ≤ nat_abs z + 1
half_size (pos n) = omega arith
half_size (negsuc n) = omega arith

-- the lowest bit of a signed number is its remainder by 2, rounded down
pub low_bit : (z : ℤ) → SFits w64 z → bit_and (of_z w64 z) 1 ≡ odd_z z
low_bit (pos n) f = and_mask n 1
low_bit (negsuc n) f = and_mask (2 ^ 64 - suc n) 1 ∙ even n f.sfits
  where
    even : (n : ℕ) → n < 2 ^ 63 → (2 ^ 64 - suc n) % 2 ≡ 1 - n % 2
    even n h = omega arith
