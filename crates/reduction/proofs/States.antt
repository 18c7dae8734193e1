-- The state after k bits: the start, one bit more, how large it is, and that g is the least pair with q odd that fits.
use mathlib.Core.Path.{◌≡◌, refl, sym, ap, subst, subst₂}
use mathlib.Core.List.{List}
use Prim.Native.Nat.{ℕ, zero, suc, ◌+◌, ◌*◌, ◌/◌, ◌^◌, ◌≤◌, ◌<◌, max}
use native.Mathlib.Omega.{arith}
use native.Mathlib.Nat.{pow-succ', le_of_mul-le-mul_left}
use lib.Pow.{pow_mono}
use lib.IntN.{ℤ, pos, negsuc, neg_ℤ, nat_abs, ◌-ℤ◌, ◌*ℤ◌}
use Rattle.integers.specs.Numbers.{Odd, Even, half_z}
use Rattle.integers.proofs.Parts.{zarith, parts-*, nat_abs-*}
use Rattle.integers.proofs.Equations.{eq_by, z_sub, z-*}
use Rattle.integers.proofs.Sizes.{abs--, abs-*}
use Rattle.integers.proofs.Ring.{#, lit, ◌⊕◌, ◌⊗◌, ◌⊖◌, ring2, ring5, ◌≔◌}
use Rattle.bits.specs.Bits.{bit_at, value}
use Rattle.reduction.specs.Vectors.{Vect, K, Fit, off, twice, rest, norm, Within}
use Rattle.reduction.specs.Reduced.{Reduced, big, Turned}
use Rattle.reduction.proofs.Vectors.{fit_of}
use Rattle.reduction.proofs.Keys.{Before, before_of, no_larger}
use Rattle.reduction.proofs.Turns.{extend_reduced, side_even}
use Rattle.bits.proofs.Values.{value_lt}

-- ---- g is least
module _ {M : ℕ} {A T : ℤ} {f g : Vect} (R : Reduced M A T f g) (p q t : ℤ) (odd : Odd q) (fits : A *ℤ q -ℤ p ≡ T *ℤ t) where
  pub least : K M g ≤ norm M p q
  least = R.least_g (record { p = p; q = q; r = neg_ℤ t }) (fit_of A T p q t fits) odd

  pub least_before : nat_abs p < M → nat_abs q < M → Before g.p g.q p q
  least_before h k = before_of M g.p g.q p q h k least

-- ---- how large the state is: no larger than the pairs (T, 0) and (A, 1)
abbrev pub size : Vect → ℕ
size v = max (nat_abs v.p) (nat_abs v.q)

module _ {M t : ℕ} {A : ℤ} {f g : Vect} (R : Reduced M A (pos t) f g) where
  pub f_small : t < M → size f ≤ t
  f_small h = omega (arith, no_larger M f.p f.q (pos t) (pos 0) h (omega arith) (R.least_f (record { p = pos t; q = pos 0; r = pos 1 }) (ring2 (λ A T. T ≔ A ⊗ # 0 ⊕ T ⊗ # 1) tt A (pos t)) refl refl))

  pub g_small : nat_abs A < M → 1 < M → size g ≤ max (nat_abs A) 1
  g_small h k = no_larger M g.p g.q A (pos 1) h k (R.least_g (record { p = A; q = pos 1; r = pos 0 }) (ring2 (λ A T. A ≔ A ⊗ # 1 ⊕ T ⊗ # 0) tt A (pos t)) refl)

-- ---- after k bits
abbrev pub At : List ℕ → ℕ → Vect → Vect → Type 0
At bytes k f g = Reduced big (pos (value bytes k)) (pos (2 ^ k)) f g

pub at_none : (bytes : List ℕ) {f g : Vect} → Reduced big (pos 0) (pos 1) f g → At bytes 0 f g
unfolding value
at_none bytes R = R

half_even : (z : ℤ) → Even z → z ≡ pos 2 *ℤ half_z z
half_even (pos n) h = ap pos (omega arith)
half_even (negsuc n) h = omega (zarith, parts-* (pos 2) (negsuc (n / 2)))

pub at_more : (bytes : List ℕ) (k : ℕ) {f g f' g' : Vect} → At bytes k f g → Turned (pos (bit_at bytes k)) f g f' g' → At bytes (suc k) f' g'
unfolding value
at_more bytes k R t = subst₂ (λ (f g : Vect). At bytes (suc k) f g) (sym t.f_is) (sym t.g_is)
    (subst (λ (T : ℕ). Reduced big (pos (value bytes k + bit_at bytes k * 2 ^ k)) (pos T) (twice (pos (bit_at bytes k)) t.m) (rest t.w (half_z (off (pos (bit_at bytes k)) t.w)))) (sym (pow-succ' 2 k))
    (extend_reduced R (pos (bit_at bytes k)) (half_z (off (pos (bit_at bytes k)) t.w)) t.third t.sides t.mid
    (half_even (off (pos (bit_at bytes k)) t.w) (side_even R (pos (bit_at bytes k)) t.third t.sides))))

-- ---- bounds
-- the rest is no larger than 2 ^ k where p and q are not
rest_small : (A T : ℕ) (v : Vect) → A < T → Fit (pos A) (pos T) v → nat_abs v.p ≤ T → nat_abs v.q ≤ T → nat_abs v.r ≤ T
rest_small zero zero v l h hp hq = absurd (omega arith)
rest_small (suc A) zero v l h hp hq = absurd (omega arith)
rest_small A (suc T) v l h hp hq = le_of_mul-le-mul_left {k = suc T} (omega (arith, nat_abs-* (pos (suc T)) v.r, ap nat_abs e, abs-- v.p (pos A *ℤ v.q) hp (abs-* (pos A) v.q (below l) hq))) (omega arith)
  where
    e : pos (suc T) *ℤ v.r ≡ v.p -ℤ pos A *ℤ v.q
    e = eq_by (z-* (negsuc 0) (z_sub h)) (ring5 (λ A T p q r. T ⊗ r ≔ p ⊖ A ⊗ q ⊕ lit (negsuc 0) ⊗ (p ⊖ (A ⊗ q ⊕ T ⊗ r))) tt (pos A) (pos (suc T)) v.p v.q v.r)

    below : A < suc T → A ≤ T
    below h = omega arith

pub record Both (k : ℕ) (f g : Vect) : Type 0 where
  pub in_f : Within (2 ^ k) f
  pub in_g : Within (2 ^ k) g

pub at_small : (bytes : List ℕ) (k : ℕ) {f g : Vect} → k ≤ 61 → At bytes k f g → Both k f g
at_small bytes k {f} {g} h R = record { in_f = within f (f_small R t) R.base.fit_f; in_g = within g (omega (arith, s, g_small R u one)) R.base.fit_g }
  where
    t : 2 ^ k < big
    t = omega (arith, pow_mono {j = 61} h)

    s : value bytes k < 2 ^ k
    s = value_lt bytes k

    u : value bytes k < big
    u = omega (arith, s, t)

    one : 1 < big
    one = omega arith

    within : (v : Vect) → max (nat_abs v.p) (nat_abs v.q) ≤ 2 ^ k → Fit (pos (value bytes k)) (pos (2 ^ k)) v → Within (2 ^ k) v
    within v l e = record { p_in = omega arith; q_in = omega arith; r_in = rest_small (value bytes k) (2 ^ k) v s e (omega arith) (omega arith) }

pub within_le : {m n : ℕ} {v : Vect} → m ≤ n → Within m v → Within n v
within_le l h = record { p_in = omega arith; q_in = omega arith; r_in = omega arith }
