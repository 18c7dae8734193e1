-- The order of two mod c by a certificate: 2^t = 1, and no prime can be divided out of t.
--
--   certified                     a multiple of T out of which no prime can be divided is T
--   Lowering c t l r              r is t with some factors l divided out, and is a multiple of the order where t is
--   lowering_step                 on the way through them
--   lowered_stuck                 the end where 2^(r / l) is not 1
--   Search c t m l                m is left to factor, with no factor below l; each prime is stuck at t, or divides m
--   search_start, _next, _lower   the turns of the search
--   search_one, _last             its end: m is 1, or a prime, which is divided out of t last
use mathlib.Core.Path.{◌≡◌, sym, ap, ◌∙◌, subst}
use mathlib.Core.Logic.{◌⊎◌, inl, inr}
use Prim.Native.Nat.{ℕ, zero, suc, ◌+◌, ◌*◌, ◌/◌, ◌%◌, ◌^◌, ◌≤◌, ◌<◌}
use native.Mathlib.Omega.{arith}
use native.Mathlib.Decide.{ℕ_discrete}
use native.Mathlib.Nat.{mul_assoc, mul-mod_right, mul-div_cancel_left, div-le_self}
use Rattle.integers.proofs.Coprime.{quot, quot_divides, div_mul, div_trans, div_some, one_undivided}
use Rattle.integers.proofs.Primes.{Prime, Fresh, prime_of, prime_divisor, prime_left, fresh_down, fresh_next, fresh_prime, fresh_last}
use Rattle.periods.specs.Orders.{UnitPower, Order}
use Rattle.periods.specs.Finding.{Without, Stuck, Lowered}
use Rattle.periods.proofs.Orders.{order_exists, order_multiple}
use Rattle.periods.proofs.Factors.{without_some, without_divides}

pub certified : (T t : ℕ) → 1 ≤ t → t % T ≡ 0 → ((p : ℕ) → Prime p → Stuck T t p) → t ≡ T
certified T t s h f = go (t / T) (quot T t h)
  where
    go : (k : ℕ) → t ≡ T * k → t ≡ T
    go zero e = let z : ⊥ = omega arith in absurd z
    go (suc zero) e = omega arith
    go (suc (suc k)) e = more (prime_of (suc (suc k)) (omega arith))
      where
        more : (p : ℕ) × Prime p × (suc (suc k) % p ≡ 0) → t ≡ T
        more (p, r, d) = absurd (f p r (ap (λ n. n % p) whole ∙ mul-mod_right p (T * j)) (ap (λ n. n % T) left ∙ mul-mod_right T j))
          where
            j : ℕ
            j = suc (suc k) / p

            whole : t ≡ p * (T * j)
            whole = e ∙ ap (λ n. T * n) (quot p (suc (suc k)) d) ∙ swap T p j
              where
                swap : (a b c : ℕ) → a * (b * c) ≡ b * (a * c)
                swap a b c = omega arith

            left : t / p ≡ T * j
            left = ap (λ n. n / p) whole ∙ mul-div_cancel_left (T * j) {n = p} (omega (arith, r.two))

-- a prime that is stuck at t is stuck at the divisors of t
stuck_down : (T t u p : ℕ) → 2 ≤ p → t % u ≡ 0 → Stuck T t p → Stuck T u p
stuck_down T t u p l h f d e = f (div_trans p u t d h) (ap (λ n. n % T) left ∙ div_mul T (u / p) (t / u) e)
  where
    whole : t ≡ p * (u / p * (t / u))
    whole = quot u t h ∙ ap (λ n. n * (t / u)) (quot p u d) ∙ mul_assoc p (u / p) (t / u)

    left : t / p ≡ u / p * (t / u)
    left = ap (λ n. n / p) whole ∙ mul-div_cancel_left (u / p * (t / u)) {n = p} (omega arith)

-- ---- dividing one l out of t for as long as 2^t stays 1
pub record Lowering (c t l r : ℕ) : Type 0 where
  pub odd : c % 2 ≡ 1
  pub two : 2 ≤ l
  pub some : 1 ≤ r
  pub most : r ≤ t
  pub part : t % r ≡ 0
  pub keeps : (T : ℕ) → Order c T → t % T ≡ 0 → r % T ≡ 0

pub lowering_step : (c t l r : ℕ) → Lowering c t l r → r % l ≡ 0 → 2 ^ (r / l) % c ≡ 1 % c → Lowering c t l (r / l)
lowering_step c t l r w d h = record {
  odd = w.odd;
  two = w.two;
  some = div_some (r / l) r w.some (quot_divides l r d);
  most = omega (arith, w.most, div-le_self r l);
  part = div_trans (r / l) r t (quot_divides l r d) w.part;
  keeps = λ T o _. (order_multiple c T (r / l) o).0 h;
}

pub lowered_stuck : (c t l r : ℕ) → Lowering c t l r → (2 ^ (r / l) % c ≡ 1 % c → ⊥) → Lowered c t l r
lowered_stuck c t l r w n = record {
  some = w.some;
  part = w.part;
  keeps = w.keeps;
  stuck = λ T o d e. n ((order_multiple c T (r / l) o).1 e);
}

-- ---- the search
pub record Search (c t m l : ℕ) : Type 0 where
  pub odd : c % 2 ≡ 1
  pub some : 1 ≤ t
  pub left : 1 ≤ m
  pub low : 2 ≤ l
  pub whole : (T : ℕ) → Order c T → t % T ≡ 0
  pub fresh : Fresh m l
  pub rest : (T : ℕ) → Order c T → (p : ℕ) → Prime p → (m % p ≡ 0) ⊎ Stuck T t p

pub search_start : (c n : ℕ) → c % 2 ≡ 1 → UnitPower c n → Search c n n 2
search_start c n o u = record {
  odd = o;
  some = u.some;
  left = u.some;
  low = omega arith;
  whole = λ T r. (order_multiple c T n r).0 u.one;
  fresh = λ e a b _. let f : ⊥ = omega arith in f;
  rest = λ T r p i. split T p (ℕ_discrete (n % p) 0);
}
  where
    split : (T p : ℕ) → Dec (n % p ≡ 0) → (n % p ≡ 0) ⊎ Stuck T n p
    split T p (yes h) = inl h
    split T p (no h) = inr (λ d _. h d)

-- l does not divide m
pub search_next : (c t m l : ℕ) → Search c t m l → (m % l ≡ 0 → ⊥) → Search c t m (l + (1 + l % 2))
search_next c t m l w n = record {
  odd = w.odd;
  some = w.some;
  left = w.left;
  low = omega (arith, w.low);
  whole = w.whole;
  fresh = fresh_next m l w.low w.fresh n;
  rest = w.rest;
}

-- l divides m: u is t with l lowered, and r is m without l
pub search_lower : (c t u m l r : ℕ) → Search c t m l → m % l ≡ 0 → Lowered c t l u → Without m l r → Search c u r l
search_lower c t u m l r w d v x = record {
  odd = w.odd;
  some = v.some;
  left = without_some m l r w.left x;
  low = w.low;
  whole = λ T o. v.keeps T o (w.whole T o);
  fresh = fresh_down m r l (without_divides m l r x) w.fresh;
  rest = λ T o p i. elim (w.rest T o p i) [
    | inl g ↦ elim (prime_left l x.times r p prime i (ap (λ n. n % p) (sym x.whole) ∙ g)) [
      | inl e ↦ inr (subst (λ n. Stuck T u n) (sym e) (v.stuck T o))
      | inr e ↦ inl e
    ]
    | inr g ↦ inr (stuck_down T t u p i.two v.part g)
  ];
}
  where
    prime : Prime l
    prime = fresh_prime m l w.low w.fresh d

-- ---- at the end every prime is stuck
order_of_stuck : (c u : ℕ) → c % 2 ≡ 1 → 1 ≤ u → ((T : ℕ) → Order c T → u % T ≡ 0)
    → ((T : ℕ) → Order c T → (p : ℕ) → Prime p → Stuck T u p) → Order c u
order_of_stuck c u o s h f =
    let (T, r) = order_exists c o in subst (λ n. Order c n) (sym (certified T u s (h T r) (f T r))) r

pub search_one : (c t m l : ℕ) → Search c t m l → m ≤ 1 → Order c t
search_one c t m l w h = order_of_stuck c t w.odd w.some w.whole (λ T r p i. stuck T r p i)
  where
    one : 1 ≡ m
    one = omega (arith, w.left)

    stuck : (T : ℕ) → Order c T → (p : ℕ) → Prime p → Stuck T t p
    stuck T r p i = elim (w.rest T r p i) [
      | inl d ↦ absurd (one_undivided p i.two (ap (λ n. n % p) one ∙ d))
      | inr s ↦ s
    ]

pub search_last : (c t u m l : ℕ) → Search c t m l → 2 ≤ m → m / l < l → Lowered c t m u → Order c u
search_last c t u m l w s h v = order_of_stuck c u w.odd v.some (λ T r. v.keeps T r (w.whole T r)) (λ T r p i. stuck T r p i)
  where
    prime : Prime m
    prime = fresh_last m l w.low w.fresh s h

    stuck : (T : ℕ) → Order c T → (p : ℕ) → Prime p → Stuck T u p
    stuck T r p i = elim (w.rest T r p i) [
      | inl d ↦ subst (λ n. Stuck T u n) (sym (prime_divisor m p prime i.two d)) (v.stuck T r)
      | inr k ↦ stuck_down T t u p i.two v.part k
    ]
