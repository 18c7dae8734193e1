-- Euler's function of an odd c by trial division is an exponent N with 2^N = 1 modulo c.
--
--   Clean c m n            c = d m and n = N m, d and m coprime, and 2^N = 1 modulo d: m is left to factor
--   clean_last             the end where m is like a prime, 2^(m - 1) = 1 modulo m
--   Dividing c m n l       m is clean, has no factor below l, and is not like a prime
--   dividing_start, _next  the turns of the search that divide nothing out of m
--   dividing_clean, _down  those that divide an odd prime l out of it, whether what is left is like a prime or not
--   dividing_odd           what is left is odd
--   dividing_end           the other end: m is 1, since each odd prime is like one
--   decides_unit           the test for a number like a prime
use mathlib.Core.Path.{◌≡◌, refl, sym, ap, ◌∙◌, subst, subst₂}
use mathlib.Core.Logic.{inl, inr}
use Prim.Native.Nat.{ℕ, suc, ◌+◌, ◌-◌, ◌*◌, ◌/◌, ◌%◌, ◌^◌, ◌≤◌, ◌<◌}
use native.Mathlib.Omega.{arith}
use native.Mathlib.Nat.{mod-eq_of_lt, one-mul, mul-one, mul_comm, mul_assoc, mul-mod_right, mul-div_cancel_left, one-le-pow, pow-suc}
use lib.Dec.{eqb}
use borrow.Author.Tests.{eqb-true, eqb-false}
use Rattle.integers.specs.Numbers.{Divides, Coprime, Decides}
use Rattle.integers.proofs.Finite.{le_or_gt}
use Rattle.integers.proofs.Coprime.{coprime_one, coprime_down, coprime_mul, coprime_power}
use Rattle.integers.proofs.Tests.{decides_by}
use Rattle.integers.proofs.Primes.{Prime, Fresh, prime_coprime, fresh_down, fresh_next, fresh_prime, fresh_last}
use Rattle.periods.specs.Orders.{UnitPower}
use Rattle.periods.specs.Finding.{Without}
use Rattle.periods.proofs.Units.{unit_prime, unit_power, unit_join}
use Rattle.periods.proofs.Factors.{without_more, without_some, without_divides}

pub record Clean (c m n : ℕ) : Type 0 where
  d : ℕ
  N : ℕ
  whole : c ≡ d * m
  count : n ≡ N * m
  unit : UnitPower d N
  apart : Coprime d m

clean_start : (c : ℕ) → Clean c c c
clean_start c = record {
  d = 1;
  N = 1;
  whole = sym (one-mul c);
  count = sym (one-mul c);
  unit = record { some = omega arith; one = refl };
  apart = coprime_one c;
}

-- m = l^(k + 1) r, and l - 1 takes the place of one l in n
clean_step : (c m n l r : ℕ) → Clean c m n → Prime l → l % 2 ≡ 1 → 1 ≤ m → Divides l m → Without m l r → Clean c r (n / l * (l - 1))
clean_step c m n l r w p o s h v = go (without_more m l r h v)
  where
    go : (k : ℕ) × (m ≡ l ^ suc k * r) → Clean c r (n / l * (l - 1))
    go (k, e) = record {
      d = w.d * l ^ suc k;
      N = w.N * (l ^ k * (l - 1));
      whole = w.whole ∙ ap (λ x. w.d * x) e ∙ sym (mul_assoc w.d (l ^ suc k) r);
      count = ap (λ x. x * (l - 1)) left ∙ swap w.N (l ^ k) r (l - 1);
      unit = unit_join w.d (l ^ suc k) w.N (l ^ k * (l - 1)) power apart w.unit (unit_power l p o k);
      apart = coprime_mul w.d (l ^ suc k) r rest (coprime_down w.d m r (without_divides m l r v) w.apart)
          (coprime_power l r rest (prime_coprime l r p v.none) (suc k));
    }
      where
        power : 1 ≤ l ^ suc k
        power = one-le-pow (suc k) l (omega (arith, p.two))

        rest : 1 ≤ r
        rest = without_some m l r s v

        apart : Coprime w.d (l ^ suc k)
        apart = coprime_down w.d m (l ^ suc k) (ap (λ x. x % l ^ suc k) e ∙ mul-mod_right (l ^ suc k) r) w.apart

        left : n / l ≡ w.N * (l ^ k * r)
        left =
            ap (λ x. x / l) (w.count ∙ ap (λ x. w.N * x) (e ∙ ap (λ x. x * r) (pow-suc l k)) ∙ first w.N (l ^ k) l r)
            ∙ mul-div_cancel_left (w.N * (l ^ k * r)) {n = l} (omega (arith, p.two))
          where
            first : (a b c d : ℕ) → a * (b * c * d) ≡ c * (a * (b * d))
            first a b c d = omega arith

        swap : (a b c d : ℕ) → a * (b * c) * d ≡ a * (b * d) * c
        swap a b c d = omega arith

pub clean_last : (c m n : ℕ) → Clean c m n → 1 ≤ m → UnitPower m (m - 1) → UnitPower c (n / m * (m - 1))
clean_last c m n w s u =
    subst₂ UnitPower (sym w.whole) (ap (λ x. x * (m - 1)) (sym part))
    (unit_join w.d m w.N (m - 1) s w.apart w.unit u)
  where
    part : n / m ≡ w.N
    part = ap (λ x. x / m) (w.count ∙ mul_comm w.N m) ∙ mul-div_cancel_left w.N {n = m} s

clean_one : (c m n : ℕ) → Clean c m n → m ≡ 1 → UnitPower c n
clean_one c m n w e =
    subst₂ UnitPower (sym (w.whole ∙ ap (λ x. w.d * x) e ∙ mul-one w.d))
    (sym (w.count ∙ ap (λ x. w.N * x) e ∙ mul-one w.N)) w.unit

-- ---- the search
pub record Dividing (c m n l : ℕ) : Type 0 where
  pub some : 1 ≤ m
  pub odd : l % 2 ≡ 1
  pub low : 3 ≤ l
  pub fresh : Fresh m l
  pub clean : Clean c m n
  pub unlike : UnitPower m (m - 1) → ⊥

pub dividing_start : (c : ℕ) → c % 2 ≡ 1 → (UnitPower c (c - 1) → ⊥) → Dividing c c c 3
dividing_start c o u = record {
  some = omega arith;
  odd = refl;
  low = omega arith;
  fresh = fresh_next c 2 (omega arith) (λ e a b _. let f : ⊥ = omega arith in f) (λ d. omega arith);
  clean = clean_start c;
  unlike = u;
}

pub dividing_next : (c m n l : ℕ) → Dividing c m n l → (Divides l m → ⊥) → Dividing c m n (l + 2)
dividing_next c m n l w k = record {
  some = w.some;
  odd = omega (arith, w.odd);
  low = omega (arith, w.low);
  fresh = subst (λ i. Fresh m i) (omega (arith, w.odd)) (fresh_next m l (omega (arith, w.low)) w.fresh k);
  clean = w.clean;
  unlike = w.unlike;
}

dividing_prime : (c m n l : ℕ) → Dividing c m n l → Divides l m → Prime l
dividing_prime c m n l w h = fresh_prime m l (omega (arith, w.low)) w.fresh h

pub dividing_clean : (c m n l r : ℕ) → Dividing c m n l → Divides l m → Without m l r → Clean c r (n / l * (l - 1))
dividing_clean c m n l r w h v = clean_step c m n l r w.clean (dividing_prime c m n l w h) w.odd w.some h v

pub dividing_down : (c m n l r : ℕ) → Dividing c m n l → Divides l m → Without m l r → (UnitPower r (r - 1) → ⊥)
    → Dividing c r (n / l * (l - 1)) l
dividing_down c m n l r w h v u = record {
  some = without_some m l r w.some v;
  odd = w.odd;
  low = w.low;
  fresh = fresh_down m r l (without_divides m l r v) w.fresh;
  clean = dividing_clean c m n l r w h v;
  unlike = u;
}

-- what has no factor below 3 is odd
fresh_odd : (m l : ℕ) → 3 ≤ l → Fresh m l → m % 2 ≡ 1
fresh_odd m l h w = other (m % 2) (omega arith) (w 2 (omega arith) (omega arith))
  where
    other : (b : ℕ) → b < 2 → (b ≡ 0 → ⊥) → b ≡ 1
    other b h f = omega arith

pub dividing_odd : (c m n l r : ℕ) → Dividing c m n l → Without m l r → r % 2 ≡ 1
dividing_odd c m n l r w v = fresh_odd r l w.low (fresh_down m r l (without_divides m l r v) w.fresh)

pub dividing_end : (c m n l : ℕ) → Dividing c m n l → m / l < l → UnitPower c n
dividing_end c m n l w h = elim (le_or_gt m 1) [
  | inl k ↦ clean_one c m n w.clean (omega (arith, w.some))
  | inr k ↦ absurd (w.unlike (unit_prime m (fresh_last m l (omega (arith, w.low)) w.fresh k h) (fresh_odd m l w.low w.fresh)))
]

-- ---- the test
pub decides_unit : (m r : ℕ) → 2 ≤ m → r ≡ 2 ^ (m - 1) % m → Decides (UnitPower m (m - 1)) (eqb r 1)
decides_unit m r h e =
    decides_by (eqb r 1)
    (λ t. record { some = omega arith; one = sym e ∙ eqb-true r 1 t ∙ sym (mod-eq_of_lt h) })
    (λ t u. eqb-false r 1 t (e ∙ u.one ∙ mod-eq_of_lt h))
