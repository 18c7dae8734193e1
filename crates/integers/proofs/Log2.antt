-- floor(log2 n): 2 ^ log2 n ≤ n < 2 ^ (log2 n + 1), and what the machine counts.
use Rattle.std.proofs.Common.{◌≡◌, ℕ, zero, suc, ◌+◌, ◌-◌, ◌*◌, ◌/◌, ◌^◌, ◌<◌, ◌≤◌, ltb, refl, ap, ◌∙◌, subst, inl, inr, ⊎_elim, le_trans, le_refl, not-suc-le-zero, not-le_of_lt, arith, pow_mono, le-ltb, lt-ltb}
use native.Mathlib.Decide.{le_ind}
use lib.Count.{count_leading_zeros, leading_top, leading_length}
use lib.Arith.{bin_ind, half_le}
use Rattle.integers.specs.Numbers.{pick_n, log_in, log2, Least}
use Rattle.integers.proofs.Finite.{lt_or_ge}

more : (f n : ℕ) → n ≤ f → log_in (suc f) n ≡ log_in f n
unfolding log_in
more zero zero h = refl
more zero (suc n) h = absurd (not-suc-le-zero h)
more (suc f) n h = ap (λ (x : ℕ). pick_n (ltb n 2) 0 (suc x)) (more f (n / 2) (half_le h))

enough : (f n : ℕ) → n ≤ f → log_in f n ≡ log_in n n
enough f n h = le_ind (λ (m : ℕ). log_in m n ≡ log_in n n) refl (λ m k e. more m n k ∙ e) f h

pub log2_small : (n : ℕ) → n < 2 → log2 n ≡ 0
unfolding log2 log_in
log2_small zero h = refl
log2_small (suc n) h = rw (lt-ltb (suc n) 2 h)

pub log2_step : (n : ℕ) → 2 ≤ n → log2 n ≡ suc (log2 (n / 2))
unfolding log2 log_in
log2_step zero h = absurd (not-suc-le-zero h)
log2_step (suc n) h = rw (le-ltb (suc n) 2 h) (ap suc (enough n (suc n / 2) (half_le (le_refl (suc n)))))

pub log2_lower : (n : ℕ) → 1 ≤ n → 2 ^ log2 n ≤ n
log2_lower = bin_ind (λ (n : ℕ). 1 ≤ n → 2 ^ log2 n ≤ n) (λ h. absurd (not-suc-le-zero h)) step
  where
    step : (n : ℕ) → (1 ≤ n / 2 → 2 ^ log2 (n / 2) ≤ n / 2) → 1 ≤ n → 2 ^ log2 n ≤ n
    step n ih h =
        ⊎_elim (λ l. rw (log2_small n l) h)
        (λ (g : 2 ≤ n). rw (log2_step n g) (omega (arith, ih (omega arith)))) (lt_or_ge n 2)

pub log2_upper : (n : ℕ) → n < 2 ^ suc (log2 n)
log2_upper = bin_ind (λ (n : ℕ). n < 2 ^ suc (log2 n)) (rw (log2_small 0 (omega arith)) (omega arith)) step
  where
    step : (n : ℕ) → n / 2 < 2 ^ suc (log2 (n / 2)) → n < 2 ^ suc (log2 n)
    step n ih =
        ⊎_elim (λ l. rw (log2_small n l) l) (λ (g : 2 ≤ n). rw (log2_step n g) (omega arith)) (lt_or_ge n 2)

-- below 2 ^ k the count is below k
pub log2-below : (k n : ℕ) → 1 ≤ n → n < 2 ^ k → log2 n < k
log2-below k n h l =
    ⊎_elim (λ p. p) (λ g. absurd (not-le_of_lt l (le_trans (pow_mono g) (log2_lower n h)))) (lt_or_ge (log2 n) k)

-- the machine counts the zeros above: 31 less those of a number of 32 digits
pub log2_leading : (n : ℕ) → 1 ≤ n → n < 2 ^ 32 → count_leading_zeros 32 n + log2 n ≡ 31
log2_leading n h l =
    let t = leading_top 32 n h l in
    let j = t.0 in
    let a : log2 n < suc t.0 = log2-below (suc t.0) n h t.3 in
    let b : t.0 ≤ log2 n = ⊎_elim (λ p. absurd (not-le_of_lt (log2_upper n) (le_trans (pow_mono p) t.2))) (λ p. p) (lt_or_ge (log2 n) t.0) in
    omega (arith, t.1)

-- ---- the length of a number in bits, by the zeros that the machine counts above its highest one
pub length_leading : (n : ℕ) → n < 2 ^ 32 → Least (λ k. n < 2 ^ k) (32 - count_leading_zeros 32 n)
length_leading n h = go (leading_length 32 n h)
  where
    go : (m : ℕ) × (count_leading_zeros 32 n + m ≡ 32) × (n < 2 ^ m) × (2 ^ m ≤ 2 * n + 1) → Least (λ k. n < 2 ^ k) (32 - count_leading_zeros 32 n)
    go (m, e, l, u) = subst (λ (x : ℕ). Least (λ k. n < 2 ^ k) x) is (record { holds = l; first = λ k f. first k f })
      where
        is : m ≡ 32 - count_leading_zeros 32 n
        is = omega arith

        first : (k : ℕ) → n < 2 ^ k → m ≤ k
        first k f = elim (lt_or_ge k m) [
          | inl s ↦ (let p : 2 ^ suc k ≤ 2 ^ m = pow_mono {i = suc k} {j = m} s in absurd (omega arith))
          | inr s ↦ s
        ]
