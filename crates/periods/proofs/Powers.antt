-- A power by squaring, and the sizes of trial division.
--
--   power_step   2^e mod c, one digit of e more
--   root         twice l is at most m where l is at most m / l
--   part_le      n / l, taken no more than l times, is at most n
use mathlib.Core.Path.{◌≡◌, refl, sym, ap, ◌∙◌}
use Prim.Native.Nat.{ℕ, zero, suc, ◌+◌, ◌*◌, ◌/◌, ◌%◌, ◌^◌, ◌≤◌, ◌<◌}
use native.Mathlib.Omega.{arith}
use native.Mathlib.Nat.{le-div_iff_mul-le, div-mul-le_self, le_trans, mul-le-mul_left}
use lib.Pow.{pow-add, shr-shr}
use Rattle.integers.proofs.Modulo.{mul_mod_l}

square : (x y c : ℕ) → (x % c * (x % c) * y) % c ≡ (x * x * y) % c
square x y c =
    ap (λ n. n % c) (left (x % c) y) ∙ mul_mod_l c x (x % c * y) ∙ ap (λ n. n % c) (right x (x % c) y) ∙ mul_mod_l c x (x * y) ∙ ap (λ n. n % c) (sym (left x y))
  where
    left : (a y : ℕ) → a * a * y ≡ a * (a * y)
    left a y = omega arith

    right : (x a y : ℕ) → x * (a * y) ≡ a * (x * y)
    right x a y = omega arith

bit_pow : (b : ℕ) → b < 2 → 1 + b ≡ 2 ^ b
bit_pow zero h = refl
bit_pow (suc zero) h = refl
bit_pow (suc (suc b)) h = let f : ⊥ = omega arith in absurd f

pub power_step : (e i c r : ℕ) → r ≡ 2 ^ (e / 2 ^ (i + 1)) % c → (r * r * (1 + e / 2 ^ i % 2)) % c ≡ 2 ^ (e / 2 ^ i) % c
power_step e i c r h =
    let A = e / 2 ^ (i + 1) in
    let B = e / 2 ^ i in
    let b = e / 2 ^ i % 2 in
    let n : e / 2 ^ i ≡ e / 2 ^ (i + 1) + e / 2 ^ (i + 1) + e / 2 ^ i % 2 = omega (arith, shr-shr e i 1) in
    ap (λ x. (x * x * (1 + b)) % c) h ∙ square (2 ^ A) (1 + b) c
    ∙ ap (λ y. (2 ^ A * 2 ^ A * y) % c) (bit_pow b (omega arith))
    ∙ ap (λ y. (y * 2 ^ b) % c) (sym (pow-add 2 A A)) ∙ ap (λ y. y % c) (sym (pow-add 2 (A + A) b))
    ∙ ap (λ k. 2 ^ k % c) (sym n)

-- ---- trial division: l at most m / l
pub root : (l m : ℕ) → 2 ≤ l → l ≤ m / l → l * 2 ≤ m
root l m h k =
    let a : l * l ≤ m = (le-div_iff_mul-le {k = l} {x = l} {y = m} (omega arith)).0 k in
    le_trans (mul-le-mul_left l h) a

pub part_le : (n l k : ℕ) → k ≤ l → n / l * k ≤ n
part_le n l k h = le_trans (mul-le-mul_left (n / l) h) (div-mul-le_self n l)
