-- Exponents with 2^N = 1, from the prime factors of a number to the number.
--
--   unit_prime   modulo an odd prime l: l - 1
--   unit_power   modulo its power l^(k + 1): l^k (l - 1)
--   unit_join    modulo d e where d and e are coprime: the product of theirs
use mathlib.Core.Path.{◌≡◌, sym, ap, ap₂, ◌∙◌, subst₂}
use Prim.Native.Nat.{ℕ, zero, suc, ◌+◌, ◌-◌, ◌*◌, ◌/◌, ◌%◌, ◌^◌, ◌≤◌}
use native.Mathlib.Omega.{arith}
use native.Mathlib.Nat.{one-mul, mul_comm, mul-zero, mul-suc, mul-pos, mul-mod_left, pow-zero, pow-suc}
use lib.Pow.{pow-add, pow_pos}
use Rattle.integers.specs.Numbers.{Divides, Coprime}
use Rattle.integers.proofs.Coprime.{quot, coprime_divides}
use Rattle.integers.proofs.Modulo.{cong_of}
use Rattle.integers.proofs.Primes.{Prime}
use Rattle.integers.proofs.Fermat.{fermat}
use Rattle.periods.specs.Orders.{UnitPower}
use Rattle.periods.proofs.Orders.{power_one_iff, power_multiple}

pub unit_prime : (l : ℕ) → Prime l → l % 2 ≡ 1 → UnitPower l (l - 1)
unit_prime l p o = record { some = omega (arith, p.two); one = (power_one_iff l (l - 1)).1 (fermat l p o) }

-- (1 + d y)^k is 1 + k d y, up to a multiple of d d
power_near : (d y N : ℕ) → 2 ^ N ≡ 1 + d * y → (k : ℕ) → (z : ℕ) × (2 ^ (N * k) ≡ 1 + k * (d * y) + d * d * z)
power_near d y N e zero = (0, ap (λ n. 2 ^ n) (mul-zero N) ∙ none (d * y) (d * d))
  where
    none : (a b : ℕ) → 1 ≡ 1 + 0 * a + b * 0
    none a b = omega arith
power_near d y N e (suc k) =
    let w = power_near d y N e k in (
      w.0 + k * y * y + w.0 * (d * y),
      ap (λ n. 2 ^ n) (mul-suc N k) ∙ pow-add 2 (N * k) N ∙ ap₂ (λ (a b : ℕ). a * b) w.1 e ∙ ring d y k w.0,
    )
  where
    ring : (d y k z : ℕ) → (1 + k * (d * y) + d * d * z) * (1 + d * y) ≡ 1 + suc k * (d * y) + d * d * (z + k * y * y + z * (d * y))
    ring d y k z = omega arith

-- modulo d l where l divides d: l times the exponent of d
unit_raise : (d l N : ℕ) → 1 ≤ l → Divides l d → UnitPower d N → UnitPower (d * l) (N * l)
unit_raise d l N s h u = record { some = mul-pos u.some s; one = near (power_near d y N whole l) }
  where
    y : ℕ
    y = (2 ^ N - 1) / d

    whole : 2 ^ N ≡ 1 + d * y
    whole = omega (arith, pow_pos N, quot d (2 ^ N - 1) ((power_one_iff d N).0 u.one))

    near : (z : ℕ) × (2 ^ (N * l) ≡ 1 + l * (d * y) + d * d * z) → 2 ^ (N * l) % (d * l) ≡ 1 % (d * l)
    near (z, e) = cong_of (d * l) (2 ^ (N * l)) 1 0 (y + d / l * z) (alg d l y z (d / l) (2 ^ (N * l)) (quot l d h) e)
      where
        alg : (d l y z w P : ℕ) → d ≡ l * w → P ≡ 1 + l * (d * y) + d * d * z → P + d * l * 0 ≡ 1 + d * l * (y + w * z)
        alg d l y z w P f e = omega (arith, ap (λ (n : ℕ). d * n * z) f)

pub unit_power : (l : ℕ) → Prime l → l % 2 ≡ 1 → (k : ℕ) → UnitPower (l ^ suc k) (l ^ k * (l - 1))
unit_power l p o zero = subst₂ UnitPower (sym one) (sym (ap (λ n. n * (l - 1)) (pow-zero l) ∙ one-mul (l - 1))) (unit_prime l p o)
  where
    one : l ^ 1 ≡ l
    one = pow-suc l 0 ∙ ap (λ n. n * l) (pow-zero l) ∙ one-mul l
unit_power l p o (suc k) =
    subst₂ UnitPower (sym (pow-suc l (suc k))) (swap (l ^ k) (l - 1) l ∙ ap (λ n. n * (l - 1)) (sym (pow-suc l k)))
    (unit_raise (l ^ suc k) l (l ^ k * (l - 1)) (omega (arith, p.two)) part (unit_power l p o k))
  where
    part : Divides l (l ^ suc k)
    part = ap (λ n. n % l) (pow-suc l k) ∙ mul-mod_left (l ^ k) l

    swap : (a b c : ℕ) → a * b * c ≡ a * c * b
    swap a b c = omega arith

pub unit_join : (d e N K : ℕ) → 1 ≤ e → Coprime d e → UnitPower d N → UnitPower e K → UnitPower (d * e) (N * K)
unit_join d e N K s co u v = record {
  some = mul-pos u.some v.some;
  one = (power_one_iff (d * e) (N * K)).1 (coprime_divides d e (2 ^ (N * K) - 1) s co by_d by_e);
}
  where
    by_d : Divides d (2 ^ (N * K) - 1)
    by_d = (power_one_iff d (N * K)).0 (power_multiple d N K u.one)

    by_e : Divides e (2 ^ (N * K) - 1)
    by_e = (power_one_iff e (N * K)).0 (ap (λ n. 2 ^ n % e) (mul_comm N K) ∙ power_multiple e K N v.one)
