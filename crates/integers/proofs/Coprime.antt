-- Divisibility as a remainder that is 0, lowest terms, Euclid's lemma (with no Bézout: the least c ≥ 1 with q | c x), and the greatest
-- common divisor.
--
--   quot, quot_divides     n is d (n / d) where d divides it, and n / d divides it too
--   mod_drop               what d divides drops out of a sum's remainder
--   div_mul, div_trans     what divides n divides its multiples; a divisor of a divisor divides
--   div_some               what divides a number from 1 on is from 1 on
--   one_undivided          nothing from 2 on divides 1
--   Lowest, lowest         two numbers as d c and d k, with c and k coprime
--   euclid                 what divides n x and is coprime to x divides n
--   coprime_one, _down     1 is coprime to all; what is coprime to m is coprime to the divisors of m
--   coprime_mul, _power    products and powers of what is coprime to x are coprime to x
--   coprime_divides        two coprime numbers that divide n: so does their product
--   gcd_step               what recursion on the remainder shows; gcd_unique: the greatest common divisor is one number
--   GcdParts, gcd_parts    divided by it two numbers are coprime
--   two_cancel             factors of two cancel modulo an odd number
use Rattle.std.proofs.Common.{◌≡◌, ℕ, zero, suc, ◌+◌, ◌*◌, ◌/◌, ◌%◌, ◌^◌, ◌<◌, ◌≤◌, sym, refl, ap, ◌∙◌, subst, mod-lt, mod-eq_of_lt, mul_assoc, mul_comm, one-mul, pow-suc, mul-one, arith}
use Prim.Native.Nat.{◌∣◌}
use native.Mathlib.Nat.{div-add-mod, mul-add-mod_self_left, mul-mod_right, mul-mod_left, eq_of_mul-eq-mul_left, dvd-mod_iff, dvd_antisymm, dvd_iff_mod-eq-zero, pos_of_dvd_of_pos, eq-one_of_dvd-one, dvd_of_mul-dvd-mul_left, mod-zero, pow-zero}
use native.Mathlib.Decide.{ℕ_discrete, map_dec}
use Rattle.integers.specs.Numbers.{Divides, Coprime, IsGcd, Least}
use Rattle.integers.proofs.Finite.{least}

-- ---- divisibility, as a remainder that is 0
pub quot : (d n : ℕ) → n % d ≡ 0 → n ≡ d * (n / d)
quot d n h = omega (arith, div-add-mod n d)

pub mod_drop : (d a b : ℕ) → a % d ≡ 0 → (a + b) % d ≡ b % d
mod_drop d a b h = ap (λ n. (n + b) % d) (quot d a h) ∙ mul-add-mod_self_left d (a / d) b

pub div_mul : (d n c : ℕ) → n % d ≡ 0 → (n * c) % d ≡ 0
div_mul d n c h = ap (λ m. (m * c) % d) (quot d n h) ∙ ap (λ m. m % d) (mul_assoc d (n / d) c) ∙ mul-mod_right d (n / d * c)

pub div_trans : (a b n : ℕ) → Divides a b → Divides b n → Divides a n
div_trans a b n h k = ap (λ m. m % a) (quot b n k) ∙ div_mul a b (n / b) h

-- d e divides n where e divides n / d
div_parts : (d e n : ℕ) → Divides d n → Divides e (n / d) → Divides (d * e) n
div_parts d e n h k =
    ap (λ (m : ℕ). m % (d * e)) (quot d n h ∙ ap (λ (m : ℕ). d * m) (quot e (n / d) k) ∙ sym (mul_assoc d e (n / d / e)))
    ∙ mul-mod_right (d * e) (n / d / e)

pub div_some : (d n : ℕ) → 1 ≤ n → Divides d n → 1 ≤ d
div_some d n s h = pos_of_dvd_of_pos ((dvd_iff_mod-eq-zero d).1 h) s

pub quot_divides : (d n : ℕ) → Divides d n → Divides (n / d) n
quot_divides d n h = ap (λ m. m % (n / d)) (quot d n h) ∙ mul-mod_left d (n / d)

pub one_undivided : (d : ℕ) → 2 ≤ d → Divides d 1 → ⊥
one_undivided d h e = omega (arith, mod-eq_of_lt h)

-- ---- lowest terms and Euclid's lemma: the least c with q | c x divides every such n, q among them
record Kills (q x c : ℕ) : Type 0 where
  some : 1 ≤ c
  kills : (c * x) % q ≡ 0

dec_kills : (q x c : ℕ) → Dec (Kills q x c)
dec_kills q x zero = no (λ k. let f : ⊥ = omega (arith, k.some) in f)
dec_kills q x (suc c) = map_dec (λ e. record { some = omega arith; kills = e }) (λ k. k.kills) (ℕ_discrete ((suc c * x) % q) 0)

least_divides : (q x c n : ℕ) → Least (Kills q x) c → (n * x) % q ≡ 0 → n % c ≡ 0
least_divides q x c n l h = go (n % c) (mod-lt n l.holds.some) rest
  where
    whole : c * x * (n / c) + n % c * x ≡ n * x
    whole = omega (arith, ap (λ m. m * x) (div-add-mod n c))

    rest : (n % c * x) % q ≡ 0
    rest = sym (mod_drop q (c * x * (n / c)) (n % c * x) (div_mul q (c * x) (n / c) l.holds.kills)) ∙ ap (λ m. m % q) whole ∙ h

    go : (s : ℕ) → s < c → (s * x) % q ≡ 0 → s ≡ 0
    go zero a e = refl
    go (suc s) a e = let f : ⊥ = omega (arith, l.first (suc s) (record { some = omega arith; kills = e })) in absurd f

-- q = d c and x = d k in lowest terms: d is the greatest common divisor, and q divides n x exactly where c divides n
pub record Lowest (q x : ℕ) : Type 0 where
  pub d : ℕ
  pub c : ℕ
  pub k : ℕ
  pub q_is : q ≡ d * c
  pub x_is : x ≡ d * k
  pub coprime : Coprime c k
  pub divides : (n : ℕ) → (n * x) % q ≡ 0 → n % c ≡ 0

pub lowest : (q x : ℕ) → 1 ≤ q → Lowest q x
lowest q x s = go (least (Kills q x) (dec_kills q x) q (record { some = s; kills = mul-mod_right q x }))
  where
    go : (c : ℕ) × Least (Kills q x) c → Lowest q x
    go (c, l) = record { d = d; c = c; k = k; q_is = q_is; x_is = x_is; coprime = prime; divides = λ n h. least_divides q x c n l h }
      where
        d : ℕ
        d = q / c

        k : ℕ
        k = c * x / q

        parts : q ≡ c * d
        parts = quot c q (least_divides q x c q l (mul-mod_right q x))

        q_is : q ≡ d * c
        q_is = parts ∙ mul_comm c d

        x_is : x ≡ d * k
        x_is = eq_of_mul-eq-mul_left c l.holds.some x (d * k) (quot q (c * x) l.holds.kills ∙ ap (λ m. m * k) parts ∙ mul_assoc c d k)

        prime : Coprime c k
        prime e h g = small e (c / e) (quot e c h) l.holds.some (λ a. l.first (c / e) (record { some = a; kills = kills }))
          where
            kills : (c / e * x) % q ≡ 0
            kills = ap (λ m. m % q) (alg q x c d k e (c / e) (k / e) parts x_is (quot e c h) (quot e k g)) ∙ mul-mod_right q (k / e)
              where
                alg : (q x c d k e i j : ℕ) → q ≡ c * d → x ≡ d * k → c ≡ e * i → k ≡ e * j → i * x ≡ q * j
                alg q x c d k e i j f₁ f₂ f₃ f₄ =
                    omega (arith, ap (λ (n : ℕ). i * n) f₂, ap (λ (n : ℕ). i * (d * n)) f₄, ap (λ (n : ℕ). n * j) f₁, ap (λ (n : ℕ). n * d * j) f₃)

            small : (e i : ℕ) → c ≡ e * i → 1 ≤ c → (1 ≤ i → c ≤ i) → e ≡ 1
            small zero i f a g = let z : ⊥ = omega arith in absurd z
            small (suc zero) i f a g = refl
            small (suc (suc e)) zero f a g = let z : ⊥ = omega arith in absurd z
            small (suc (suc e)) (suc i) f a g = let z : ⊥ = omega (arith, g (omega arith)) in absurd z

-- Euclid's lemma
pub euclid : (q x n : ℕ) → 1 ≤ q → Coprime q x → (n * x) % q ≡ 0 → n % q ≡ 0
euclid q x n s co h =
    let l = lowest q x s in
    let one : l.d ≡ 1 =
    co l.d (ap (λ m. m % l.d) l.q_is ∙ mul-mod_right l.d l.c) (ap (λ m. m % l.d) l.x_is ∙ mul-mod_right l.d l.k) in
    let whole : q ≡ l.c = l.q_is ∙ ap (λ m. m * l.c) one ∙ one-mul l.c in
    subst (λ m. n % m ≡ 0) (sym whole) (l.divides n h)

-- ---- coprime numbers, their products and their divisors
pub coprime_one : (x : ℕ) → Coprime 1 x
coprime_one x e h k = eq-one_of_dvd-one ((dvd_iff_mod-eq-zero e).1 h)

pub coprime_down : (d m x : ℕ) → Divides x m → Coprime d m → Coprime d x
coprime_down d m x h co e a b = co e a (div_trans e x m b h)

pub coprime_mul : (a b x : ℕ) → 1 ≤ x → Coprime a x → Coprime b x → Coprime (a * b) x
coprime_mul a b x s f g e h k = g e (euclid e a b (div_some e x s k) apart (ap (λ n. n % e) (mul_comm b a) ∙ h)) k
  where
    apart : Coprime e a
    apart d i j = f d j (div_trans d e x i k)

pub coprime_power : (a x : ℕ) → 1 ≤ x → Coprime a x → (k : ℕ) → Coprime (a ^ k) x
coprime_power a x s f zero = subst (λ n. Coprime n x) (sym (pow-zero a)) (coprime_one x)
coprime_power a x s f (suc k) = subst (λ n. Coprime n x) (sym (pow-suc a k)) (coprime_mul (a ^ k) a x s (coprime_power a x s f k) f)

pub coprime_divides : (d e n : ℕ) → 1 ≤ e → Coprime d e → Divides d n → Divides e n → Divides (d * e) n
coprime_divides d e n s co h k =
    div_parts d e n h (euclid e d (n / d) s (λ x a b. co x b a) (ap (λ m. m % e) (mul_comm (n / d) d ∙ sym (quot d n h)) ∙ k))

-- ---- the greatest common divisor: what recursion on the remainder shows, and that there is one
-- what divides b divides a exactly where it divides a mod b
mod_divides : (e a b : ℕ) → Divides e b → (Divides e (a % b) → Divides e a) × (Divides e a → Divides e (a % b))
mod_divides e a b h =
    let d = dvd-mod_iff e {m = a} {n = b} ((dvd_iff_mod-eq-zero e).1 h) in
    ((λ k. (dvd_iff_mod-eq-zero e).0 (d.0 ((dvd_iff_mod-eq-zero e).1 k))), (λ k. (dvd_iff_mod-eq-zero e).0 (d.1 ((dvd_iff_mod-eq-zero e).1 k))))

pub gcd_step : (a b r : ℕ) → IsGcd b (a % b) r → IsGcd a b r
gcd_step a b r g = record {
  left = (mod_divides r a b g.left).0 g.right;
  right = g.left;
  most = λ e p q. g.most e q ((mod_divides e a b q).1 p);
}

pub gcd_unique : (a b r s : ℕ) → IsGcd a b r → IsGcd a b s → r ≡ s
gcd_unique a b r s g h = dvd_antisymm ((dvd_iff_mod-eq-zero r).1 (h.most r g.left g.right)) ((dvd_iff_mod-eq-zero s).1 (g.most s h.left h.right))

-- divided by their greatest common divisor two numbers are coprime
pub record GcdParts (a b d : ℕ) : Type 0 where
  pub some : 1 ≤ d
  pub a_is : a ≡ d * (a / d)
  pub b_is : b ≡ d * (b / d)
  pub coprime : Coprime (b / d) (a / d)

pub gcd_parts : (a b d : ℕ) → 1 ≤ b → IsGcd a b d → GcdParts a b d
gcd_parts a b d h g = record { some = some; a_is = quot d a g.left; b_is = quot d b g.right; coprime = prime }
  where
    some : 1 ≤ d
    some = div_some d b h g.right

    prime : Coprime (b / d) (a / d)
    prime e k l = eq-one_of_dvd-one (dvd_of_mul-dvd-mul_left {k = d} e {n = 1} some
        (subst (λ (n : ℕ). d * e ∣ n) (sym (mul-one d)) ((dvd_iff_mod-eq-zero (d * e)).1 (g.most (d * e) (div_parts d e a g.left l) (div_parts d e b g.right k)))))

-- ---- two is coprime to an odd q, so that factors of two cancel
two_coprime : (q : ℕ) → q % 2 ≡ 1 → Coprime q 2
two_coprime q o zero h k = let f : ⊥ = omega (arith, mod-zero 2, k) in absurd f
two_coprime q o (suc zero) h k = refl
two_coprime q o (suc (suc zero)) h k = let f : ⊥ = omega arith in absurd f
two_coprime q o (suc (suc (suc d))) h k = let f : ⊥ = omega (arith, mod-eq_of_lt (two d), k) in absurd f
  where
    two : (d : ℕ) → 2 < suc (suc (suc d))
    two d = omega arith

pub two_cancel : (q i n : ℕ) → q % 2 ≡ 1 → (n * 2 ^ i) % q ≡ 0 → n % q ≡ 0
two_cancel q zero n o h = ap (λ m. m % q) (sym (mul-one n)) ∙ h
two_cancel q (suc i) n o h =
    two_cancel q i n o
    (euclid q 2 (n * 2 ^ i) (omega arith) (two_coprime q o) (ap (λ m. m % q) (alg n (2 ^ i) (2 ^ suc i) (omega arith)) ∙ h))
  where
    alg : (n P Q : ℕ) → Q ≡ 2 * P → n * P * 2 ≡ n * Q
    alg n P Q e = omega (arith, ap (λ (m : ℕ). n * m) e)
