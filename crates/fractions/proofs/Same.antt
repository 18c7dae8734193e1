-- Divisibility by a power of two, and two pairs that fit the same bits.
--
--   cancel          a factor that is not 0 cancels
--   odd_cancel      an odd factor does not help a power of two
--   fits_same       fitting depends on the fraction alone
--   same_fraction   two pairs that fit n bits, with |p| and q at most X and 2 X² < 2^n, are the same fraction
use Rattle.std.proofs.Common.{◌≡◌, ℕ, zero, suc, ◌+◌, ◌*◌, ◌%◌, ◌^◌, ◌<◌, ◌≤◌, ◌⊎◌, [], ◌∷◌, ℤ, pos, negsuc, ◌+ℤ◌, ◌-ℤ◌, ◌*ℤ◌, neg_ℤ, nat_abs, sym, ap, ◌∙◌, subst, inl, inr, mul-le-mul_left, arith, pow_pos}
use native.Mathlib.Nat.{pow-succ'}
use Rattle.integers.specs.Numbers.{Odd, Even}
use Rattle.integers.proofs.Parts.{nat_abs-*, eq_of_sub}
use Rattle.integers.proofs.Equations.{eq_by, z-+, z_sub, z-*, mul_zero_cases}
use Rattle.integers.proofs.Parity.{even_form, odd_or_even, od, ev, ◌⇒◌, par1, par2}
use Rattle.integers.proofs.Sizes.{abs--, abs-*}
use Rattle.integers.proofs.Ring.{#, neg, ◌⊕◌, ◌⊗◌, ◌⊖◌, var, ring, ring1, ring2, ring3, ring6, ◌≔◌}
use Rattle.fractions.specs.Pairs.{Fits, SameFraction}

pub cancel : (T : ℕ) (x y : ℤ) → 0 < T → pos T *ℤ x ≡ pos T *ℤ y → x ≡ y
cancel zero x y l h = absurd (omega arith)
cancel (suc T) x y l h = go (mul_zero_cases (pos (suc T)) (x -ℤ y) (ring3 (λ T x y. T ⊗ (x ⊖ y) ≔ T ⊗ x ⊖ T ⊗ y) tt (pos (suc T)) x y ∙ z_sub h))
  where
    go : (pos (suc T) ≡ pos 0) ⊎ (x -ℤ y ≡ pos 0) → x ≡ y
    go (inl e) = absurd (omega (arith, ap nat_abs e))
    go (inr e) = eq_of_sub x y e

-- one more factor 2
twice : (n : ℕ) (t : ℤ) → pos (2 ^ suc n) *ℤ t ≡ pos (2 ^ n) *ℤ (pos 2 *ℤ t)
twice n t = ap (λ (m : ℕ). pos m *ℤ t) (pow-succ' 2 n) ∙ ring2 (λ T t. # 2 ⊗ T ⊗ t ≔ T ⊗ (# 2 ⊗ t)) tt (pos (2 ^ n)) t

odd_step : (n : ℕ) (q x t s : ℤ) → Odd q → q *ℤ x ≡ pos (2 ^ suc n) *ℤ t → x ≡ pos (2 ^ n) *ℤ s → (u : ℤ) × (x ≡ pos (2 ^ suc n) *ℤ u)
odd_step n q x t s o h c = go (odd_or_even s)
  where
    half : q *ℤ s ≡ pos 2 *ℤ t
    half = cancel (2 ^ n) (q *ℤ s) (pos 2 *ℤ t) (pow_pos n)
        (ring3 (λ T q s. T ⊗ (q ⊗ s) ≔ q ⊗ (T ⊗ s)) tt (pos (2 ^ n)) q s ∙ ap (λ (x : ℤ). q *ℤ x) (sym c) ∙ h ∙ twice n t)

    never : Odd (pos 2 *ℤ t) → ⊥
    never k = omega (arith, par1 (λ t. ev (# 2 ⊗ t)) tt t)

    go : Even s ⊎ Odd s → (u : ℤ) × (x ≡ pos (2 ^ suc n) *ℤ u)
    go (inl e) = let k = even_form s e in (k.0, c ∙ ap (λ (s : ℤ). pos (2 ^ n) *ℤ s) k.1 ∙ sym (twice n k.0))
    go (inr e) = absurd (never (subst Odd half (par2 (λ q s. od q ⇒ od s ⇒ od (q ⊗ s)) tt q s o e)))

-- an odd factor does not help a power of two
pub odd_cancel : (n : ℕ) (q x t : ℤ) → Odd q → q *ℤ x ≡ pos (2 ^ n) *ℤ t → (s : ℤ) × (x ≡ pos (2 ^ n) *ℤ s)
odd_cancel zero q x t o h = (x, ring1 (λ x. x ≔ # 1 ⊗ x) tt x)
odd_cancel (suc n) q x t o h = let c = odd_cancel n q x (pos 2 *ℤ t) o (h ∙ twice n t) in odd_step n q x t c.0 o h c.1

-- ---- fitting depends on the fraction alone: q (A q' - p') = q' (A q - p)
pub fits_same : (n A : ℕ) (p : ℤ) (q : ℕ) (p' : ℤ) (q' : ℕ) → q % 2 ≡ 1 → SameFraction p q p' q' → Fits n A p q → Fits n A p' q'
fits_same n A p q p' q' o s f = odd_cancel n (pos q) (pos A *ℤ pos q' -ℤ p') (pos q' *ℤ f.0) o
    (over ∙ ring3 (λ q T t. q ⊗ (T ⊗ t) ≔ T ⊗ (q ⊗ t)) tt (pos q') (pos (2 ^ n)) f.0)
  where
    over : pos q *ℤ (pos A *ℤ pos q' -ℤ p') ≡ pos q' *ℤ (pos (2 ^ n) *ℤ f.0)
    over = eq_by (z-+ (z-* (pos q') (z_sub f.1)) (z_sub s))
        (ring6 (λ A p q p' q' T. q ⊗ (A ⊗ q' ⊖ p') ≔ q' ⊗ T ⊕ (q' ⊗ (A ⊗ q ⊖ p ⊖ T) ⊕ (p ⊗ q' ⊖ p' ⊗ q))) tt (pos A) p (pos q) p' (pos q') (pos (2 ^ n) *ℤ f.0))

-- ---- the same fraction
zero_of : (z : ℤ) → nat_abs z < 1 → z ≡ pos 0
zero_of (pos n) h = ap pos (omega arith)
zero_of (negsuc n) h = absurd (omega arith)

pub same_fraction : (n A X : ℕ) (p : ℤ) (q : ℕ) (p' : ℤ) (q' : ℕ) → Fits n A p q → Fits n A p' q'
    → nat_abs p ≤ X → q ≤ X → nat_abs p' ≤ X → q' ≤ X → 2 * (X * X) < 2 ^ n → SameFraction p q p' q'
same_fraction n A X p q p' q' f g hp hq hp' hq' h = eq_of_sub (p *ℤ pos q') (p' *ℤ pos q) (zero_of x (small (nat_abs d) (ap nat_abs e ∙ nat_abs-* (pos (2 ^ n)) d)))
  where
    x : ℤ
    x = p *ℤ pos q' -ℤ p' *ℤ pos q

    d : ℤ
    d = g.0 *ℤ pos q -ℤ f.0 *ℤ pos q'

    e : x ≡ pos (2 ^ n) *ℤ d
    e = eq_by (z-+ (z-* (neg_ℤ (pos q')) (z_sub f.1)) (z-* (pos q) (z_sub g.1))) (cross (pos A) p (pos q) p' (pos q') (pos (2 ^ n)) f.0 g.0)
      where
        cross : (A p q p' q' T s t : ℤ) → p *ℤ q' -ℤ p' *ℤ q ≡ T *ℤ (t *ℤ q -ℤ s *ℤ q') +ℤ (neg_ℤ q' *ℤ (A *ℤ q -ℤ p -ℤ T *ℤ s) +ℤ q *ℤ (A *ℤ q' -ℤ p' -ℤ T *ℤ t))
        cross A p q p' q' T s t = ring (var 1 ⊗ var 4 ⊖ var 3 ⊗ var 2)
            (var 5 ⊗ (var 7 ⊗ var 2 ⊖ var 6 ⊗ var 4) ⊕ (neg (var 4) ⊗ (var 0 ⊗ var 2 ⊖ var 1 ⊖ var 5 ⊗ var 6) ⊕ var 2 ⊗ (var 0 ⊗ var 4 ⊖ var 3 ⊖ var 5 ⊗ var 7)))
            (A ∷ p ∷ q ∷ p' ∷ q' ∷ T ∷ s ∷ t ∷ []) tt

    bound : nat_abs x ≤ X * X + X * X
    bound = abs-- (p *ℤ pos q') (p' *ℤ pos q) (abs-* p (pos q') hp hq') (abs-* p' (pos q) hp' hq)

    small : (m : ℕ) → nat_abs x ≡ 2 ^ n * m → nat_abs x < 1
    small zero k = omega arith
    small (suc m) k = absurd (omega (arith, bound, mul-le-mul_left (2 ^ n) (one_le m)))
      where
        one_le : (m : ℕ) → 1 ≤ suc m
        one_le m = omega arith
