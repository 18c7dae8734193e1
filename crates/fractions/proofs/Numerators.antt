-- The numerators of an expansion: a step takes the digit off, p = digit·q + 2·p', and q odd leaves one way to do it.
--
--   step_cases        what a step is, in ℕ, by the parity of p: two linear cases, so that omega never sees the product digit·q
--   step_unique       p = a·q + 2·r with a digit a has one answer
--   expansion_splits  p = digits_to n · q + 2^n · iter_num n
--   splits_unique     .. and no other number below 2^n and numerator do it
--   iter_add, digits_add   n digits, then m more
--   digits_lt         the first n digits are a number below 2^n
use Rattle.std.proofs.Common.{◌≡◌, ℕ, zero, suc, ◌+◌, ◌-◌, ◌*◌, ◌%◌, ◌^◌, ◌<◌, ◌≤◌, ◌⊎◌, ℤ, pos, negsuc, ◌+ℤ◌, ◌-ℤ◌, ◌*ℤ◌, sym, refl, ap, ◌∙◌, inl, inr, add-zero, add-suc, mul-le-mul_right, mod-eq_of_lt, pow-suc, add-one, arith, pow_pos, pow-add}
use native.Mathlib.Nat.{eq_of_mul-eq-mul_right}
use Rattle.integers.specs.Numbers.{odd_z, half_z}
use Rattle.integers.proofs.Sizes.{odd_lt}
use Rattle.integers.proofs.Parts.{up, down, eq_of, parts-+, parts--, parts-*pos, parts_half}
use Rattle.integers.proofs.Modulo.{key-of, inverse}
use Rattle.fractions.specs.Expansion.{next_num, iter_num, digit_at, digits_to}

pub odd_is : (z : ℤ) → odd_z z ≡ (up z + down z) % 2
odd_is (pos n) = omega arith
odd_is (negsuc n) = omega arith

odd_cases : (z : ℤ) → (odd_z z ≡ 0) ⊎ (odd_z z ≡ 1)
odd_cases z = go (odd_z z) (odd_lt z)
  where
    go : (a : ℕ) → a < 2 → (a ≡ 0) ⊎ (a ≡ 1)
    go zero h = inl refl
    go (suc a) h = inr (omega arith)

-- what a step is, in ℕ: by the parity of p
pub record EvenStep (q : ℕ) (p r : ℤ) : Type 0 where
  pub par : (up p + down p) % 2 ≡ 0
  pub is : up p + 2 * down r ≡ 2 * up r + down p

pub record OddStep (q : ℕ) (p r : ℤ) : Type 0 where
  pub par : (up p + down p) % 2 ≡ 1
  pub is : up p + 2 * down r ≡ q + 2 * up r + down p

step_of : (q : ℕ) (p : ℤ) (a : ℕ) → (up p + down p + a * q) % 2 ≡ 0
    → up p + 2 * down (half_z (p -ℤ pos (a * q))) ≡ a * q + 2 * up (half_z (p -ℤ pos (a * q))) + down p
step_of q p a h = omega (arith, parts-- p (pos (a * q)), parts_half (p -ℤ pos (a * q)), odd_is (p -ℤ pos (a * q)))

pub step_cases : (q : ℕ) (p : ℤ) → q % 2 ≡ 1 → EvenStep q p (next_num q p) ⊎ OddStep q p (next_num q p)
unfolding next_num
step_cases q p o = go (odd_cases p)
  where
    go : (odd_z p ≡ 0) ⊎ (odd_z p ≡ 1) → EvenStep q p (half_z (p -ℤ pos (odd_z p * q))) ⊎ OddStep q p (half_z (p -ℤ pos (odd_z p * q)))
    go (inl e) =
        let h : odd_z p * q ≡ 0 = rw e (omega arith) in
        let b : (up p + down p) % 2 ≡ 0 = omega (arith, odd_is p) in
        inl (record { par = b; is = omega (arith, step_of q p (odd_z p) (omega arith)) })
    go (inr e) =
        let h : odd_z p * q ≡ q = rw e (omega arith) in
        let b : (up p + down p) % 2 ≡ 1 = omega (arith, odd_is p) in
        inr (record { par = b; is = omega (arith, step_of q p (odd_z p) (omega arith)) })

-- p and a digit determine the step: p = a q + 2 r has one answer
pub step_unique : (q : ℕ) (p : ℤ) (a : ℕ) (r : ℤ) → q % 2 ≡ 1 → a < 2 → up p + 2 * down r ≡ a * q + 2 * up r + down p
    → (a ≡ (up p + down p) % 2) × (r ≡ next_num q p)
step_unique q p zero r o l e = elim (step_cases q p o) [
  | inl s ↦ (omega (arith, s.par), eq_of _ _ (omega (arith, s.is)))
  | inr s ↦ let f : ⊥ = omega (arith, s.par) in absurd f
]
step_unique q p (suc zero) r o l e = elim (step_cases q p o) [
  | inl s ↦ let f : ⊥ = omega (arith, s.par) in absurd f
  | inr s ↦ (omega (arith, s.par), eq_of _ _ (omega (arith, s.is)))
]
step_unique q p (suc (suc a)) r o l e = let f : ⊥ = omega arith in absurd f

-- ---- n digits at once
-- p = u q + W p', in ℕ
pub record Splits (W q : ℕ) (p : ℤ) (u : ℕ) (p' : ℤ) : Type 0 where
  pub low : u < W
  pub is : up p + W * down p' ≡ u * q + W * up p' + down p

-- the same in ℤ
pub split_eq : (W q : ℕ) (p : ℤ) (u : ℕ) (p' : ℤ) → Splits W q p u p' → p ≡ pos (u * q) +ℤ p' *ℤ pos W
split_eq W q p u p' s = eq_of p (pos (u * q) +ℤ p' *ℤ pos W) (omega (arith, s.is, parts-+ (pos (u * q)) (p' *ℤ pos W), parts-*pos p' W))

pub split_of : (W q : ℕ) (p : ℤ) (u : ℕ) (p' : ℤ) → u < W → p ≡ pos (u * q) +ℤ p' *ℤ pos W → Splits W q p u p'
split_of W q p u p' l e = record { low = l; is = omega (arith, ap up e, ap down e, parts-+ (pos (u * q)) (p' *ℤ pos W), parts-*pos p' W) }

pub iter_add : (q n m : ℕ) (p : ℤ) → iter_num q (n + m) p ≡ iter_num q m (iter_num q n p)
unfolding iter_num
iter_add q n zero p = rw (add-zero n)
iter_add q n (suc m) p = rw (add-suc n m) (ap (next_num q) (iter_add q n m p))

pub digits_add : (q n m : ℕ) (p : ℤ) → digits_to q (n + m) p ≡ digits_to q n p + 2 ^ n * digits_to q m (iter_num q n p)
unfolding digits_to
digits_add q n zero p = rw (add-zero n) (omega arith)
digits_add q n (suc m) p = rw (add-suc n m, iter_add q n m p, pow-add 2 n m) (omega (arith, digits_add q n m p))

pub digits_lt : (q n : ℕ) (p : ℤ) → digits_to q n p < 2 ^ n
unfolding digits_to
digits_lt q zero p = omega arith
digits_lt q (suc n) p =
    let b : digit_at q p n * 2 ^ n ≤ 1 * 2 ^ n = mul-le-mul_right (2 ^ n) (omega (arith, odd_lt (iter_num q n p))) in
    rw (pow-suc 2 n) (omega (arith, digits_lt q n p))

-- one step, as a split
step_is : (q : ℕ) (p : ℤ) → q % 2 ≡ 1 → up p + 2 * down (next_num q p) ≡ odd_z p * q + 2 * up (next_num q p) + down p
step_is q p o = elim (step_cases q p o) [
  | inl s ↦ (let e : odd_z p * q ≡ 0 * q = ap (λ (a : ℕ). a * q) (odd_is p ∙ s.par) in omega (arith, s.is))
  | inr s ↦ (let e : odd_z p * q ≡ 1 * q = ap (λ (a : ℕ). a * q) (odd_is p ∙ s.par) in omega (arith, s.is))
]

pub expansion_splits : (q n : ℕ) (p : ℤ) → q % 2 ≡ 1 → Splits (2 ^ n) q p (digits_to q n p) (iter_num q n p)
unfolding iter_num digits_to
expansion_splits q n p o = record { low = digits_lt q n p; is = go n }
  where
    more : (P⁺ P⁻ z⁺ z⁻ y⁺ y⁻ u d W : ℕ) → P⁺ + W * z⁻ ≡ u * q + W * z⁺ + P⁻ → z⁺ + 2 * y⁻ ≡ d * q + 2 * y⁺ + z⁻
        → P⁺ + W * 2 * y⁻ ≡ (u + d * W) * q + W * 2 * y⁺ + P⁻
    more P⁺ P⁻ z⁺ z⁻ y⁺ y⁻ u d W e f = omega (arith, ap (λ (n : ℕ). W * n) f)

    go : (n : ℕ) → up p + 2 ^ n * down (iter_num q n p) ≡ digits_to q n p * q + 2 ^ n * up (iter_num q n p) + down p
    go zero = omega arith
    go (suc n) = rw (pow-suc 2 n)
        (more (up p) (down p) (up (iter_num q n p)) (down (iter_num q n p)) (up (next_num q (iter_num q n p))) (down (next_num q (iter_num q n p))) (digits_to q n p) (digit_at q p n) (2 ^ n)
        (go n) (step_is q (iter_num q n p) o))

-- and only these u and p' do it
pub splits_unique : (n q : ℕ) (p : ℤ) (u₁ u₂ : ℕ) (p₁ p₂ : ℤ) → q % 2 ≡ 1 → Splits (2 ^ n) q p u₁ p₁ → Splits (2 ^ n) q p u₂ p₂ → (u₁ ≡ u₂) × (p₁ ≡ p₂)
splits_unique zero q p u₁ u₂ p₁ p₂ o s t =
    let a : u₁ ≡ 0 = omega (arith, s.low) in
    let b : u₂ ≡ 0 = omega (arith, t.low) in
    let f : u₁ * q ≡ u₂ * q = ap (λ (n : ℕ). n * q) (a ∙ sym b) in
    (a ∙ sym b, eq_of p₁ p₂ (omega (arith, s.is, t.is)))
splits_unique (suc k) q p u₁ u₂ p₁ p₂ o s t =
    let W = 2 ^ suc k in
    let v = inverse q k o in
    let one : 1 < W = omega (arith, pow_pos k) in
    let i : q * v.0 % W ≡ 1 % W = v.1 ∙ sym (mod-eq_of_lt one) in
    let P = up p + (W - 1) * down p in
    let d : (W - 1 + 1) * down p ≡ W * down p = ap (λ (n : ℕ). n * down p) (omega arith) in
    let a = key-of W q v.0 u₁ P (down p₁) (up p₁ + down p) s.low i (omega (arith, s.is)) in
    let b = key-of W q v.0 u₂ P (down p₂) (up p₂ + down p) t.low i (omega (arith, t.is)) in
    let e : u₁ ≡ u₂ = sym a ∙ b in
    let f : u₁ * q ≡ u₂ * q = ap (λ (n : ℕ). n * q) e in
    (e, eq_of p₁ p₂ (eq_of_mul-eq-mul_right W (omega arith) (up p₁ + down p₂) (up p₂ + down p₁) (omega (arith, s.is, t.is))))

-- ---- one digit more, as loops count
pub digits_more : (q n : ℕ) (p : ℤ) → digits_to q (n + 1) p ≡ digits_to q n p + odd_z (iter_num q n p) * 2 ^ n
unfolding digits_to
digits_more q n p = rw (add-one n)

pub numerators_more : (q n : ℕ) (p : ℤ) → iter_num q (n + 1) p ≡ next_num q (iter_num q n p)
unfolding iter_num
numerators_more q n p = rw (add-one n)
