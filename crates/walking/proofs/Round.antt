-- Inside -q .. 0 a numerator comes round: after t steps exactly where 2^t leaves 1 on division by the denominator in lowest terms.
--
--   ends_still      0 and -q stand still
--   back_iff        inside, t steps come back to r exactly where q divides (2^t - 1) r
--   shift_iff       q divides m p exactly where it divides m times a later numerator
--   lowest_iff      q divides n p exactly where the denominator of p/q in lowest terms divides n
--   round_iff       so, once inside, t steps come back exactly where 2^t = 1 modulo that denominator
use mathlib.Core.Path.{◌≡◌, refl, sym, ap, ◌∙◌}
use mathlib.Core.Logic.{◌⊎◌, inl, inr, ◌↔◌}
use Prim.Native.Nat.{ℕ, zero, suc, ◌+◌, ◌-◌, ◌*◌, ◌/◌, ◌%◌, ◌^◌, ◌≤◌, ◌<◌}
use native.Mathlib.Omega.{arith}
use native.Mathlib.Nat.{zero-mod, mod-eq_of_lt, mul-mod_right, eq_of_mul-eq-mul_left}
use lib.Pow.{pow_pos}
use lib.IntN.{ℤ, pos, nat_abs, ◌+ℤ◌, ◌-ℤ◌, ◌*ℤ◌}
use Rattle.integers.proofs.Finite.{le_or_gt}
use Rattle.integers.proofs.Parts.{up, down, eq_of, nat_abs_is, nat_abs-*, pos-*, parts}
use Rattle.integers.proofs.Coprime.{quot, euclid, two_cancel}
use Rattle.integers.proofs.Modulo.{cong_of}
use Rattle.integers.proofs.Equations.{eq_by, z-*, z_sub}
use Rattle.integers.proofs.Ring.{◌⊕◌, ◌⊗◌, ◌⊖◌, ring6, ◌≔◌}
use Rattle.fractions.specs.Pairs.{Lowest}
use Rattle.fractions.specs.Expansion.{next_num, iter_num, digits_to}
use Rattle.fractions.proofs.Numerators.{step_cases, iter_add, expansion_splits, split_eq}
use Rattle.fractions.proofs.Lowest.{part, lowest_multiple, some_factor}
use Rattle.periods.proofs.Orders.{power_one_iff}
use Rattle.walking.specs.Inner.{dist}
use Rattle.walking.proofs.LeadIn.{inside_parts, inside_stays}

-- ---- 0 and -q stand still
iter_still : (q i : ℕ) (p : ℤ) → next_num q p ≡ p → iter_num q i p ≡ p
unfolding iter_num
iter_still q zero p e = refl
iter_still q (suc i) p e = ap (next_num q) (iter_still q i p e) ∙ e

ends_next : (q : ℕ) (p : ℤ) → q % 2 ≡ 1 → up p ≡ 0 → (down p ≡ 0) ⊎ (down p ≡ q) → next_num q p ≡ p
ends_next q p o u (inl d) = eq_of _ _ (elim (step_cases q p o) [
  | inl s ↦ omega (arith, s.is, s.par, parts (next_num q p))
  | inr s ↦ omega (arith, s.is, s.par, parts (next_num q p))
])
ends_next q p o u (inr d) = eq_of _ _ (elim (step_cases q p o) [
  | inl s ↦ (let f : ⊥ = omega (arith, s.par, ap (λ n. n % 2) whole) in absurd f)
  | inr s ↦ omega (arith, s.is, parts (next_num q p))
])
  where
    whole : up p + down p ≡ q
    whole = omega arith

pub ends_still : (q i : ℕ) (p : ℤ) → q % 2 ≡ 1 → up p ≡ 0 → (down p ≡ 0) ⊎ (down p ≡ q) → iter_num q i p ≡ p
ends_still q i p o u d = iter_still q i p (ends_next q p o u d)

-- ---- W y = u q + x with x, y from 0 to q: y is x exactly where q divides (W - 1) x, but for 0 and q
back_alg : (W x q u m : ℕ) → W ≡ suc m → W * x ≡ u * q + x → m * x ≡ q * u
back_alg W x q u m h e = omega (arith, ap (λ (n : ℕ). n * x) h)

up_alg : (W x y z q u m k : ℕ) → W ≡ suc m → W * y ≡ u * q + x → m * x ≡ q * k → y ≡ x + z → z * W + q * k ≡ 0 + q * u
up_alg W x y z q u m k h e f g = omega (arith, ap (λ (n : ℕ). n * x) h, ap (λ (n : ℕ). W * n) g)

down_alg : (W x y z q u m k : ℕ) → W ≡ suc m → W * y ≡ u * q + x → m * x ≡ q * k → x ≡ y + z → z * W + q * u ≡ 0 + q * k
down_alg W x y z q u m k h e f g = omega (arith, ap (λ (n : ℕ). n * x) h, ap (λ (n : ℕ). W * n) g)

in_range : (q z : ℕ) → z % q ≡ 0 → z ≤ q → (z ≡ 0) ⊎ (z ≡ q)
in_range q z h l = elim (le_or_gt q z) [ inl k ↦ inr (omega arith) | inr k ↦ inl (sym (mod-eq_of_lt k) ∙ h) ]

-- inside, t steps come back exactly where q divides (2^t - 1) r
module _ (q t : ℕ) (r : ℤ) (o : q % 2 ≡ 1) (i : dist q r ≡ 0) where
  suc_m : 2 ^ t ≡ suc (2 ^ t - 1)
  suc_m = omega (arith, pow_pos t)

  size : nat_abs r ≡ down r
  size = omega (arith, nat_abs_is r, inside_parts q r i)

  split : 2 ^ t * down (iter_num q t r) ≡ digits_to q t r * q + down r
  split =
      let z : 2 ^ t * up (iter_num q t r) ≡ 2 ^ t * 0 = ap (λ (n : ℕ). 2 ^ t * n) (inside_parts q (iter_num q t r) (inside_stays q r t o i)).0 in
      omega (arith, (expansion_splits q t r o).is, (inside_parts q r i).0)

  back_to : iter_num q t r ≡ r → ((2 ^ t - 1) * nat_abs r) % q ≡ 0
  back_to e =
      ap (λ (n : ℕ). ((2 ^ t - 1) * n) % q) size
      ∙ ap (λ (n : ℕ). n % q) (back_alg (2 ^ t) (down r) q (digits_to q t r) (2 ^ t - 1) suc_m (ap (λ z. 2 ^ t * down z) (sym e) ∙ split))
      ∙ mul-mod_right q (digits_to q t r)

  -- the two ends stand still, and nothing else in -q .. 0 is a multiple of q apart
  back_of : ((2 ^ t - 1) * nat_abs r) % q ≡ 0 → iter_num q t r ≡ r
  back_of h = elim (le_or_gt x y) [ inl l ↦ rise l | inr l ↦ fall l ]
    where
      x : ℕ
      x = down r

      y : ℕ
      y = down (iter_num q t r)

      k : ℕ
      k = (2 ^ t - 1) * x / q

      whole : (2 ^ t - 1) * x ≡ q * ((2 ^ t - 1) * x / q)
      whole = quot q ((2 ^ t - 1) * x) (ap (λ (n : ℕ). ((2 ^ t - 1) * n) % q) (sym size) ∙ h)

      same : down (iter_num q t r) ≡ down r → iter_num q t r ≡ r
      same e = eq_of _ _ (omega (arith, (inside_parts q r i).0, (inside_parts q (iter_num q t r) (inside_stays q r t o i)).0))

      still : (down r ≡ 0) ⊎ (down r ≡ q) → iter_num q t r ≡ r
      still e = ends_still q t r o (inside_parts q r i).0 e

      rise : x ≤ y → iter_num q t r ≡ r
      rise l = elim (in_range q (y - x) (two_cancel q t (y - x) o (cong_of q ((y - x) * 2 ^ t) 0 k (digits_to q t r)
          (up_alg (2 ^ t) x y (y - x) q (digits_to q t r) (2 ^ t - 1) k suc_m split whole (omega arith)) ∙ zero-mod q))
          (omega (arith, (inside_parts q (iter_num q t r) (inside_stays q r t o i)).1))) [
            | inl e ↦ same (omega arith)
            | inr e ↦ still (inl (omega (arith, (inside_parts q (iter_num q t r) (inside_stays q r t o i)).1)))
          ]

      fall : y < x → iter_num q t r ≡ r
      fall l = elim (in_range q (x - y) (two_cancel q t (x - y) o (cong_of q ((x - y) * 2 ^ t) 0 (digits_to q t r) k
          (down_alg (2 ^ t) x y (x - y) q (digits_to q t r) (2 ^ t - 1) k suc_m split whole (omega arith)) ∙ zero-mod q))
          (omega (arith, (inside_parts q r i).1))) [
            | inl e ↦ same (omega arith)
            | inr e ↦ still (inr (omega (arith, (inside_parts q r i).1)))
          ]

  pub back_iff : (iter_num q t r ≡ r) ↔ (((2 ^ t - 1) * nat_abs r) % q ≡ 0)
  back_iff = (back_to, back_of)

-- ---- q divides m p exactly where it divides m r, r a later numerator: p = u q + 2^L r
shift_on : (m W u q r t : ℤ) → m *ℤ (u *ℤ q +ℤ r *ℤ W) ≡ q *ℤ t → m *ℤ r *ℤ W ≡ q *ℤ (t -ℤ m *ℤ u)
shift_on m W u q r t e =
    eq_by (z_sub e) (ring6 (λ m W u q r t. m ⊗ r ⊗ W ≔ q ⊗ (t ⊖ m ⊗ u) ⊕ (m ⊗ (u ⊗ q ⊕ r ⊗ W) ⊖ q ⊗ t)) tt m W u q r t)

shift_back : (m W u q r t : ℤ) → m *ℤ r ≡ q *ℤ t → m *ℤ (u *ℤ q +ℤ r *ℤ W) ≡ q *ℤ (m *ℤ u +ℤ t *ℤ W)
shift_back m W u q r t e =
    eq_by (z-* W (z_sub e)) (ring6 (λ m W u q r t. m ⊗ (u ⊗ q ⊕ r ⊗ W) ≔ q ⊗ (m ⊗ u ⊕ t ⊗ W) ⊕ W ⊗ (m ⊗ r ⊖ q ⊗ t)) tt m W u q r t)

pub shift_iff : (q m L : ℕ) (p : ℤ) → q % 2 ≡ 1 → ((m * nat_abs p) % q ≡ 0) ↔ ((m * nat_abs (iter_num q L p)) % q ≡ 0)
shift_iff q m L p o = (there, back)
  where
    r : ℤ
    r = iter_num q L p

    u : ℤ
    u = pos (digits_to q L p)

    W : ℤ
    W = pos (2 ^ L)

    is : p ≡ u *ℤ pos q +ℤ r *ℤ W
    is = split_eq (2 ^ L) q p (digits_to q L p) r (expansion_splits q L p o) ∙ ap (λ z. z +ℤ r *ℤ W) (pos-* (digits_to q L p) q)

    there : (m * nat_abs p) % q ≡ 0 → (m * nat_abs r) % q ≡ 0
    there h =
        let f = part q (pos m *ℤ p) (ap (λ n. n % q) (nat_abs-* (pos m) p) ∙ h) in
        let g = shift_on (pos m) W u (pos q) r f.0 (ap (λ z. pos m *ℤ z) (sym is) ∙ f.1.0) in
        let n : m * nat_abs r * 2 ^ L ≡ q * nat_abs (f.0 -ℤ pos m *ℤ u) =
        ap (λ (n : ℕ). n * 2 ^ L) (sym (nat_abs-* (pos m) r)) ∙ sym (nat_abs-* (pos m *ℤ r) W) ∙ ap nat_abs g ∙ nat_abs-* (pos q) (f.0 -ℤ pos m *ℤ u) in
        two_cancel q L (m * nat_abs r) o (ap (λ n. n % q) n ∙ mul-mod_right q (nat_abs (f.0 -ℤ pos m *ℤ u)))

    back : (m * nat_abs r) % q ≡ 0 → (m * nat_abs p) % q ≡ 0
    back h =
        let f = part q (pos m *ℤ r) (ap (λ n. n % q) (nat_abs-* (pos m) r) ∙ h) in
        let t = pos m *ℤ u +ℤ f.0 *ℤ W in
        let g : pos m *ℤ p ≡ pos q *ℤ t = ap (λ z. pos m *ℤ z) is ∙ shift_back (pos m) W u (pos q) r f.0 f.1.0 in
        ap (λ n. n % q) (sym (nat_abs-* (pos m) p) ∙ ap nat_abs g ∙ nat_abs-* (pos q) t) ∙ mul-mod_right q (nat_abs t)

-- ---- q divides n p exactly where the denominator in lowest terms divides n
pub lowest_iff : {p : ℤ} {q : ℕ} {p' : ℤ} {q' : ℕ} (n : ℕ) → 1 ≤ q → Lowest p q p' q' → ((n * nat_abs p) % q ≡ 0) ↔ (n % q' ≡ 0)
lowest_iff {p} {q} {p'} {q'} n s w = (there, back)
  where
    m : ℕ
    m = (lowest_multiple w).m

    q_is : q ≡ q' * m
    q_is = (lowest_multiple w).q_is

    p_is : nat_abs p ≡ nat_abs p' * m
    p_is = (lowest_multiple w).p_is

    there : (n * nat_abs p) % q ≡ 0 → n % q' ≡ 0
    there h =
        euclid q' (nat_abs p') n w.some w.lowest
        (ap (λ x. x % q')
        (eq_of_mul-eq-mul_left m (some_factor q q' m s q_is) (n * nat_abs p') (q' * j) (alg (nat_abs p) (nat_abs p') m j (quot q (n * nat_abs p) h) q_is p_is))
        ∙ mul-mod_right q' j)
      where
        j : ℕ
        j = n * nat_abs p / q

        alg : (a b m j : ℕ) → n * a ≡ q * j → q ≡ q' * m → a ≡ b * m → m * (n * b) ≡ m * (q' * j)
        alg a b m j e f g = omega (arith, ap (λ (x : ℕ). n * x) g, ap (λ (x : ℕ). x * j) f)

    back : n % q' ≡ 0 → (n * nat_abs p) % q ≡ 0
    back h = ap (λ x. x % q) (alg (nat_abs p) (nat_abs p') m (n / q') (quot q' n h) q_is p_is) ∙ mul-mod_right q (n / q' * nat_abs p')
      where
        alg : (a b m j : ℕ) → n ≡ q' * j → q ≡ q' * m → a ≡ b * m → n * a ≡ q * (j * b)
        alg a b m j e f g = omega (arith, ap (λ (x : ℕ). n * x) g, ap (λ (x : ℕ). x * (b * m)) e, ap (λ (x : ℕ). x * (j * b)) f)

-- ---- together: from l on inside, t steps come round exactly where 2^t = 1 modulo the denominator in lowest terms
pub round_iff : (q l t : ℕ) (p : ℤ) {p' : ℤ} {q' : ℕ} → q % 2 ≡ 1 → Lowest p q p' q' → dist q (iter_num q l p) ≡ 0
    → (iter_num q (l + t) p ≡ iter_num q l p) ↔ (2 ^ t % q' ≡ 1 % q')
round_iff q l t p {p'} {q'} o w i = (
  (λ h. (power_one_iff q' t).1 ((lowest_iff (2 ^ t - 1) some w).0 ((shift_iff q (2 ^ t - 1) l p o).1 ((back_iff q t r o i).0 (sym (iter_add q l t p) ∙ h))))),
  (λ h. iter_add q l t p ∙ (back_iff q t r o i).1 ((shift_iff q (2 ^ t - 1) l p o).0 ((lowest_iff (2 ^ t - 1) some w).1 ((power_one_iff q' t).0 h)))),
)
  where
    r : ℤ
    r = iter_num q l p

    some : 1 ≤ q
    some = omega arith
