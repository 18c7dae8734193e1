-- Primes, and what trial division knows of them.
--
--   Prime p         p is at least 2, and nothing from 2 to below p divides it
--   prime_of        every number from 2 on has a prime factor
--   prime_divisor   a divisor of a prime, from 2 on, is that prime
--   prime_coprime   a prime is coprime to what it does not divide
--   prime_left      a prime factor of l^k r, l prime, is l or divides r
--   Fresh m l       nothing from 2 to below l divides m
--   fresh_down      so it is of the divisors of m
--   fresh_next      where l does not divide m either, the next odd number may follow l
--   fresh_prime     where l divides m, it is prime
--   fresh_last      where m is below l l, it is prime
use Rattle.std.proofs.Common.{◌≡◌, ℕ, zero, suc, ◌+◌, ◌*◌, ◌/◌, ◌%◌, ◌^◌, ◌<◌, ◌≤◌, ◌⊎◌, sym, refl, ap, ◌∙◌, subst, inl, inr, mod-eq_of_lt, mul_comm, div-lt_iff_lt-mul, mul-le-mul, arith}
use native.Mathlib.Decide.{ℕ_discrete, dec_le, map_dec}
use native.Mathlib.Nat.{mod-zero, mod_self, mul-mod_left}
use Rattle.integers.specs.Numbers.{Divides, Coprime, Least}
use Rattle.integers.proofs.Finite.{least, le_or_gt}
use Rattle.integers.proofs.Coprime.{quot, div_trans, euclid, coprime_power}

pub record Prime (p : ℕ) : Type 0 where
  pub two : 2 ≤ p
  pub only : (e : ℕ) → 2 ≤ e → e < p → Divides e p → ⊥

record Factor (k e : ℕ) : Type 0 where
  two : 2 ≤ e
  divides : Divides e k

dec_factor : (k e : ℕ) → Dec (Factor k e)
dec_factor k e = elim (dec_le 2 e) [
  | yes h ↦ map_dec (λ d. record { two = h; divides = d }) (λ f. f.divides) (ℕ_discrete (k % e) 0)
  | no h ↦ no (λ f. h f.two)
]

-- the least factor is prime
pub prime_of : (k : ℕ) → 2 ≤ k → (p : ℕ) × Prime p × Divides p k
prime_of k h = go (least (Factor k) (dec_factor k) k (record { two = h; divides = mod_self k }))
  where
    go : (p : ℕ) × Least (Factor k) p → (p : ℕ) × Prime p × Divides p k
    go (p, l) = (p, record { two = l.holds.two; only = λ e a b d. small e a b d }, l.holds.divides)
      where
        small : (e : ℕ) → 2 ≤ e → e < p → Divides e p → ⊥
        small e a b d = let g = l.first e (record { two = a; divides = div_trans e p k d l.holds.divides }) in omega arith

pub prime_divisor : (p d : ℕ) → Prime p → 2 ≤ d → Divides d p → d ≡ p
prime_divisor p d a s h = elim (le_or_gt p d) [
  | inl g ↦ elim (le_or_gt d p) [
    | inl e ↦ omega arith
    | inr e ↦ let f : ⊥ = omega (arith, mod-eq_of_lt e, a.two) in absurd f
  ]
  | inr g ↦ absurd (a.only d s g h)
]

pub prime_coprime : (p x : ℕ) → Prime p → (Divides p x → ⊥) → Coprime p x
prime_coprime p x a n zero h k = let f : ⊥ = omega (arith, mod-zero p, h, a.two) in absurd f
prime_coprime p x a n (suc zero) h k = refl
prime_coprime p x a n (suc (suc d)) h k = absurd (n (subst (λ e. Divides e x) (prime_divisor p (suc (suc d)) a (omega arith) h) k))

pub prime_left : (l k r p : ℕ) → Prime l → Prime p → Divides p (l ^ k * r) → (p ≡ l) ⊎ Divides p r
prime_left l k r p a b h = elim (ℕ_discrete p l) [
  | yes e ↦ inl e
  | no n ↦ inr (euclid p (l ^ k) r some (λ d i j. apart n d j i) (ap (λ m. m % p) (mul_comm r (l ^ k)) ∙ h))
]
  where
    some : 1 ≤ p
    some = omega (arith, b.two)

    apart : (p ≡ l → ⊥) → Coprime (l ^ k) p
    apart n = coprime_power l p some (prime_coprime l p a (λ d. n (sym (prime_divisor p l b a.two d)))) k

-- ---- trial division
abbrev pub Fresh : ℕ → ℕ → Type 0
Fresh m l = (e : ℕ) → 2 ≤ e → e < l → Divides e m → ⊥

pub fresh_down : (m r l : ℕ) → Divides r m → Fresh m l → Fresh r l
fresh_down m r l d w e a b g = w e a b (div_trans e r m g d)

pub fresh_next : (m l : ℕ) → 2 ≤ l → Fresh m l → (Divides l m → ⊥) → Fresh m (l + (1 + l % 2))
fresh_next m l s w n e a b d = elim (le_or_gt l e) [
  | inl h ↦ elim (ℕ_discrete e l) [
    | yes g ↦ n (subst (λ i. Divides i m) g d)
    | no g ↦ w 2 (omega arith) (omega arith) (div_trans 2 e m (omega arith) d)
  ]
  | inr h ↦ w e a h d
]

pub fresh_prime : (m l : ℕ) → 2 ≤ l → Fresh m l → Divides l m → Prime l
fresh_prime m l s w d = record { two = s; only = fresh_down m l l d w }

pub fresh_last : (m l : ℕ) → 2 ≤ l → Fresh m l → 2 ≤ m → m / l < l → Prime m
fresh_last m l s w t h = record {
  two = t;
  only = λ e a b d. elim (le_or_gt l e) [ inl g ↦ last e g b (m / e) (quot e m d) | inr g ↦ w e a g d ];
}
  where
    -- m = e k with e from l on: k is below l
    last : (e : ℕ) → l ≤ e → e < m → (k : ℕ) → m ≡ e * k → ⊥
    last e g b zero f = omega arith
    last e g b (suc zero) f = omega arith
    last e g b (suc (suc k)) f = elim (le_or_gt l (suc (suc k))) [
      | inl n ↦
          let x : l * l ≤ e * suc (suc k) = mul-le-mul {n₂ = e} {m₂ = suc (suc k)} g n in
          let y : m < l * l = (div-lt_iff_lt-mul {k = l} {x = m} {y = l} (omega arith)).0 h in
          omega arith
      | inr n ↦ w (suc (suc k)) (omega arith) n (ap (λ x. x % suc (suc k)) f ∙ mul-mod_left e (suc (suc k)))
    ]
