-- Lowest terms.
--
--   part            z divided by d, where d divides its size
--   odd_left        a factor of an odd number is odd
--   multiple        a fraction that is p/q, p/q in lowest terms, is a multiple of it
--   lowest_same     two pairs in lowest terms that are the same fraction are the same pair
--   lowest_unique   so the lowest terms of a fraction are one pair
--   reduced_by      divided by their greatest common divisor, and p with its sign
--   lowest_inside   lowest terms of a fraction whose q is inside the limits are inside them where |p| is
--   inside_lowest   so those of a pair inside the limits are inside them
--   lowest_exists   every fraction has its lowest terms
--   power_coprime   what divides both of two numbers of a combination that is a power of two, one of them odd, is 1
use Rattle.std.proofs.Common.{◌≡◌, ℕ, zero, suc, ◌+◌, ◌*◌, ◌/◌, ◌%◌, ◌^◌, ◌<◌, ◌≤◌, Bool, true, false, T, ℤ, pos, negsuc, ◌*ℤ◌, neg_ℤ, nat_abs, sym, refl, ap, ◌∙◌, subst, mul_comm, div-le_self, arith, ltb-true}
use native.Mathlib.Nat.{pow-succ', mul-mod_right, eq_of_mul-eq-mul_right, eq_of_mul-eq-mul_left}
use lib.Signed.{lt_z}
use Rattle.integers.specs.Numbers.{Coprime, IsGcd, signed_by}
use Rattle.integers.proofs.Parts.{nat_abs-*, pos-*}
use Rattle.integers.proofs.Sizes.{signed_size}
use Rattle.integers.proofs.Coprime.{quot, euclid, GcdParts, gcd_parts, lowest}
use Rattle.integers.proofs.Ring.{neg, ◌⊗◌, ring2, ring3, ◌≔◌}
use Rattle.fractions.specs.Pairs.{LowestTerms, SameFraction, Lowest, limit, Inside}
use Rattle.fractions.specs.Inner.{Reduced}
use Rattle.fractions.proofs.Same.{cancel}

-- z divided by d, where d divides its size
pub part : (d : ℕ) (z : ℤ) → nat_abs z % d ≡ 0 → (y : ℤ) × ((z ≡ pos d *ℤ y) × (nat_abs z ≡ d * nat_abs y))
part d (pos a) h = (pos (a / d), (ap pos (quot d a h), quot d a h))
part d (negsuc a) h = (neg_ℤ (pos (suc a / d)), (e, ap nat_abs e ∙ nat_abs-* (pos d) (neg_ℤ (pos (suc a / d)))))
  where
    e : negsuc a ≡ pos d *ℤ neg_ℤ (pos (suc a / d))
    e = ap (λ (n : ℕ). neg_ℤ (pos n)) (quot d (suc a) h) ∙ ring2 (λ d m. neg (d ⊗ m) ≔ d ⊗ neg m) tt (pos d) (pos (suc a / d))

-- both factors of an odd number are odd
pub odd_left : (d c : ℕ) → (d * c) % 2 ≡ 1 → d % 2 ≡ 1
odd_left d c h = go (d % 2) refl
  where
    go : (r : ℕ) → d % 2 ≡ r → d % 2 ≡ 1
    go zero e = let k : d ≡ 2 * (d / 2) = omega arith in absurd (omega (arith, ap (λ (n : ℕ). n * c) k))
    go (suc r) e = omega arith

-- ---- two fractions that are the same, the first in lowest terms: the second is a multiple of it
pub record Multiple (p : ℤ) (q : ℕ) (p' : ℤ) (q' : ℕ) : Type 0 where
  pub m : ℕ
  pub q_is : q' ≡ q * m
  pub p_is : nat_abs p' ≡ nat_abs p * m

abs_same : (p : ℤ) (q : ℕ) (p' : ℤ) (q' : ℕ) → p *ℤ pos q' ≡ p' *ℤ pos q → nat_abs p * q' ≡ nat_abs p' * q
abs_same p q p' q' h = sym (nat_abs-* p (pos q')) ∙ ap nat_abs h ∙ nat_abs-* p' (pos q)

pub multiple : (p : ℤ) (q : ℕ) (p' : ℤ) (q' : ℕ) → 1 ≤ q → LowestTerms p q → SameFraction p q p' q' → Multiple p q p' q'
multiple p q p' q' s co h = record { m = q' / q; q_is = d; p_is = eq_of_mul-eq-mul_right q s (nat_abs p') (nat_abs p * (q' / q)) (omega (arith, e, ap (λ (n : ℕ). nat_abs p * n) d)) }
  where
    e : nat_abs p * q' ≡ nat_abs p' * q
    e = abs_same p q p' q' h

    d : q' ≡ q * (q' / q)
    d = quot q q' (euclid q (nat_abs p) q' s co (ap (λ (n : ℕ). n % q) (mul_comm q' (nat_abs p) ∙ e ∙ mul_comm (nat_abs p') q) ∙ mul-mod_right q (nat_abs p')))

-- ---- both in lowest terms: the same pair
pub p_same : (p p' : ℤ) (q : ℕ) → 1 ≤ q → p *ℤ pos q ≡ p' *ℤ pos q → p ≡ p'
p_same p p' q s h = cancel q p p' s (ring2 (λ q p. q ⊗ p ≔ p ⊗ q) tt (pos q) p ∙ h ∙ ring2 (λ q p. p ⊗ q ≔ q ⊗ p) tt (pos q) p')

pub lowest_same : (p : ℤ) (q : ℕ) (p' : ℤ) (q' : ℕ) → 1 ≤ q → 1 ≤ q' → LowestTerms p q → LowestTerms p' q' → p *ℤ pos q' ≡ p' *ℤ pos q → (p ≡ p') × (q ≡ q')
lowest_same p q p' q' s s' co co' h = (p_same p p' q s (ap (λ (n : ℕ). p *ℤ pos n) eq ∙ h), eq)
  where
    each : (a b x y : ℕ) → b ≡ a * x → a ≡ b * y → 1 ≤ a → 1 ≤ b → a ≤ b
    each a b zero y e f s t = absurd (omega arith)
    each a b (suc x) y e f s t = omega arith

    eq : q ≡ q'
    eq = let u = multiple p q p' q' s co h in
        let v = multiple p' q' p q s' co' (sym h) in
        omega (arith, each q q' u.m v.m u.q_is v.q_is s s', each q' q v.m u.m v.q_is u.q_is s' s)

-- two fractions that are the same as a third, whose q is not 0
same_trans : (p : ℤ) (q : ℕ) (p₁ : ℤ) (q₁ : ℕ) (p₂ : ℤ) (q₂ : ℕ) → 1 ≤ q → SameFraction p q p₁ q₁ → SameFraction p q p₂ q₂ → SameFraction p₁ q₁ p₂ q₂
same_trans p q p₁ q₁ p₂ q₂ s h k = cancel q (p₁ *ℤ pos q₂) (p₂ *ℤ pos q₁) s
    (ring3 (λ q x y. q ⊗ (x ⊗ y) ≔ x ⊗ q ⊗ y) tt (pos q) p₁ (pos q₂) ∙ ap (λ (z : ℤ). z *ℤ pos q₂) (sym h)
    ∙ ring3 (λ x y z. x ⊗ y ⊗ z ≔ x ⊗ z ⊗ y) tt p (pos q₁) (pos q₂) ∙ ap (λ (z : ℤ). z *ℤ pos q₁) k
    ∙ ring3 (λ q x y. x ⊗ q ⊗ y ≔ q ⊗ (x ⊗ y)) tt (pos q) p₂ (pos q₁))

pub lowest_unique : (p : ℤ) (q : ℕ) (p₁ : ℤ) (q₁ : ℕ) (p₂ : ℤ) (q₂ : ℕ) → 1 ≤ q → Lowest p q p₁ q₁ → Lowest p q p₂ q₂ → (p₁ ≡ p₂) × (q₁ ≡ q₂)
lowest_unique p q p₁ q₁ p₂ q₂ s h k =
    lowest_same p₁ q₁ p₂ q₂ h.some k.some h.lowest k.lowest (same_trans p q p₁ q₁ p₂ q₂ s h.same k.same)

-- ---- what divides both of two numbers of a combination that is a power of two, one of them odd, is 1
odd_one : (n d e : ℕ) → d % 2 ≡ 1 → d * e ≡ 2 ^ n → d ≡ 1
odd_one zero zero e o h = absurd (omega arith)
odd_one zero (suc zero) e o h = refl
odd_one zero (suc (suc d)) zero o h = absurd (omega arith)
odd_one zero (suc (suc d)) (suc e) o h = absurd (omega arith)
odd_one (suc n) d e o h = odd_one n d (e / 2) o (omega (arith, pow-succ' 2 n, two, h, ap (λ (m : ℕ). d * m) two))
  where
    even : (r : ℕ) → e % 2 ≡ r → e % 2 ≡ 0
    even zero k = k
    even (suc r) k =
        let a : d ≡ 2 * (d / 2) + 1 = omega arith in
        let b : e ≡ 2 * (e / 2) + 1 = omega arith in
        absurd (omega (arith, h, pow-succ' 2 n, ap (λ (m : ℕ). m * e) a, ap (λ (m : ℕ). (2 * (d / 2) + 1) * m) b))

    two : e ≡ 2 * (e / 2)
    two = omega (arith, even (e % 2) refl)

pub power_coprime : (n q r x y : ℕ) → q % 2 ≡ 1 → q * x + y * r ≡ 2 ^ n → Coprime q r
power_coprime n q r x y o h d hq hr = odd_one n d (q / d * x + y * (r / d)) (odd_left d (q / d) (ap (λ (m : ℕ). m % 2) (sym (quot d q hq)) ∙ o))
    (omega (arith, h, ap (λ (m : ℕ). m * x) (quot d q hq), ap (λ (m : ℕ). y * m) (quot d r hr)))

-- ---- lowest terms by the greatest common divisor
sign_of : (p : ℤ) (b : Bool) → lt_z p (pos 0) ≡ b → p ≡ signed_by b (nat_abs p)
sign_of (pos n) true e = absurd (let k : n < 0 = ltb-true n 0 e in omega arith)
sign_of (pos n) false e = refl
sign_of (negsuc n) true e = refl
sign_of (negsuc n) false e = absurd (subst T e tt)

signed_times : (b : Bool) (d k c : ℕ) → signed_by b (d * k) *ℤ pos c ≡ signed_by b k *ℤ pos (d * c)
signed_times true d k c = ring3 (λ d k c. neg (d ⊗ k) ⊗ c ≔ neg k ⊗ (d ⊗ c)) tt (pos d) (pos k) (pos c)
signed_times false d k c = ring3 (λ d k c. d ⊗ k ⊗ c ≔ k ⊗ (d ⊗ c)) tt (pos d) (pos k) (pos c)

pub reduced_by : (p : ℤ) (q s d : ℕ) → 1 ≤ q → s ≡ nat_abs p → IsGcd s q d → Reduced p q (signed_by (lt_z p (pos 0)) (s / d)) (q / d)
reduced_by p q s d h e g = record {
  lowest = record {
    some = some (q / d) w.b_is;
    lowest = subst (Coprime (q / d)) (sym (signed_size b (s / d))) w.coprime;
    same = ap (λ (z : ℤ). z *ℤ pos (q / d)) (sign_of p b refl ∙ ap (signed_by b) (sym e ∙ w.a_is)) ∙ signed_times b d (s / d) (q / d) ∙ ap (λ (n : ℕ). signed_by b (s / d) *ℤ pos n) (sym w.b_is);
  };
  p_less = subst (λ (n : ℕ). n ≤ nat_abs p) (sym (signed_size b (s / d))) (subst (λ (n : ℕ). s / d ≤ n) e (div-le_self s d));
  q_less = div-le_self q d;
}
  where
    b : Bool
    b = lt_z p (pos 0)

    w : GcdParts s q d
    w = gcd_parts s q d h g

    some : (c : ℕ) → q ≡ d * c → 1 ≤ c
    some zero k = absurd (omega arith)
    some (suc c) k = omega arith

-- ---- inside the limits
pub lowest_inside : (P : ℤ) (Q : ℕ) (p : ℤ) (q : ℕ) → Q % 2 ≡ 1 → Q ≤ limit → Lowest P Q p q → nat_abs p ≤ limit → Inside p q
lowest_inside P Q p q o l k h =
    let m = multiple p q P Q k.some k.lowest (sym k.same) in
    record {
      odd = odd_left q m.m (subst (λ (x : ℕ). x % 2 ≡ 1) m.q_is o);
      some = k.some;
      q_most = less m.m m.q_is;
      p_most = h;
    }
  where
    less : (m : ℕ) → Q ≡ q * m → q ≤ limit
    less zero e = absurd (omega arith)
    less (suc m) e = omega arith

pub inside_lowest : (P : ℤ) (Q : ℕ) (p : ℤ) (q : ℕ) → Inside P Q → Lowest P Q p q → Inside p q
inside_lowest P Q p q i k =
    let m = multiple p q P Q k.some k.lowest (sym k.same) in
    lowest_inside P Q p q i.odd i.q_most k (less m.m m.q_is m.p_is)
  where
    less : (m : ℕ) → Q ≡ q * m → nat_abs P ≡ nat_abs p * m → nat_abs p ≤ limit
    less zero e f = absurd (omega (arith, i.some))
    less (suc m) e f = omega (arith, i.p_most)

-- ---- every fraction has its lowest terms
pub lowest_multiple : {p : ℤ} {q : ℕ} {p' : ℤ} {q' : ℕ} → Lowest p q p' q' → Multiple p' q' p q
lowest_multiple {p} {q} {p'} {q'} w = multiple p' q' p q w.some w.lowest (sym w.same)

pub some_factor : (q a m : ℕ) → 1 ≤ q → q ≡ a * m → 1 ≤ m
some_factor q a zero h e = let f : ⊥ = omega arith in absurd f
some_factor q a (suc m) h e = omega arith

pub lowest_exists : (p : ℤ) (q : ℕ) → 1 ≤ q → (p' : ℤ) × (q' : ℕ) × Lowest p q p' q'
lowest_exists p q s =
    let l = lowest q (nat_abs p) s in
    let y = part l.d p (ap (λ n. n % l.d) l.x_is ∙ mul-mod_right l.d l.k) in
    let d : 1 ≤ l.d = some_factor q l.c l.d s (l.q_is ∙ mul_comm l.d l.c) in
    let k : nat_abs y.0 ≡ l.k = eq_of_mul-eq-mul_left l.d d (nat_abs y.0) l.k (sym y.1.1 ∙ l.x_is) in (
      y.0,
      l.c,
      record {
        some = some_factor q l.d l.c s l.q_is;
        lowest = subst (λ n. Coprime l.c n) (sym k) l.coprime;
        same = ap (λ z. z *ℤ pos l.c) y.1.0 ∙ ring3 (λ d y c. d ⊗ y ⊗ c ≔ y ⊗ (d ⊗ c)) tt (pos l.d) y.0 (pos l.c)
            ∙ ap (λ z. y.0 *ℤ z) (sym (pos-* l.d l.c) ∙ ap pos (sym l.q_is));
      },
    )

pub lowest_odd : {p : ℤ} {q : ℕ} {p' : ℤ} {q' : ℕ} → Lowest p q p' q' → q % 2 ≡ 1 → q' % 2 ≡ 1
lowest_odd {q} {q'} w o = let m = lowest_multiple w in odd_left q' m.m (ap (λ n. n % 2) (sym m.q_is) ∙ o)
