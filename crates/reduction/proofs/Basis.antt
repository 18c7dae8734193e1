-- A reduced basis spans all that fits, and g + f or g − f is the shortest of the third kind. T is 2 ^ k and A the value of the first k bits; nothing here needs that.
use mathlib.Core.Path.{◌≡◌, refl, sym, subst}
use mathlib.Core.Logic.{◌⊎◌, ◌↔◌}
use Prim.Native.Nat.{ℕ, ◌*◌, ◌≤◌, max}
use native.Mathlib.Omega.{arith}
use native.Mathlib.Nat.{mul-le-mul_right}
use lib.IntN.{ℤ, pos, ◌+ℤ◌, ◌-ℤ◌, ◌*ℤ◌, nat_abs}
use Rattle.integers.specs.Numbers.{Odd, Even}
use Rattle.integers.proofs.Ring.{#, ◌⊕◌, ◌⊗◌, ◌⊖◌}
use Rattle.integers.proofs.Parity.{od, ev, ◌⇒◌, par3, par4}
use Rattle.reduction.specs.Vectors.{Vect, norm, size, K, Fit, plus, minus}
use Rattle.reduction.specs.Reduced.{Basis, Reduced}
use Rattle.reduction.proofs.Norm.{shortest}
use Rattle.reduction.proofs.Keys.{norm_is}
use Rattle.reduction.proofs.Vectors.{comb, fit_comb, fac_f, fac_g, basis, basis_q, basis_r}

-- ---- the start
abbrev pub start_f : Vect
start_f = record { p = pos 1; q = pos 0; r = pos 1 }

abbrev pub start_g : Vect
start_g = record { p = pos 0; q = pos 1; r = pos 0 }

size_grows : (M a b c d : ℕ) → a ≤ c → b ≤ d → size M a b ≤ size M c d
unfolding size
size_grows M a b c d h k = let l : max a b ≤ max c d = omega arith in omega (arith, mul-le-mul_right (M * M) l, mul-le-mul_right M h)

pub start_reduced : (M : ℕ) → Reduced M (pos 0) (pos 1) start_f start_g
unfolding norm
start_reduced M = record {
  base = record { fit_f = refl; fit_g = refl; unit = refl; even_f = refl; odd_r = refl; odd_g = refl };
  least_g = λ v h o. size_grows M 0 1 (nat_abs v.p) (nat_abs v.q) (omega arith) (omega arith);
  least_f = λ v h e o. size_grows M 1 0 (nat_abs v.p) (nat_abs v.q) (p_odd v.p v.q v.r h e o) (omega arith);
}
  where
    p_odd : (p q r : ℤ) → p ≡ pos 0 *ℤ q +ℤ pos 1 *ℤ r → Even q → Odd r → 1 ≤ nat_abs p
    p_odd p q r h e o = let k : Odd p = subst Odd (sym h) (par3 (λ p q r. ev q ⇒ od r ⇒ od (# 0 ⊗ q ⊕ # 1 ⊗ r)) tt p q r e o) in omega arith

-- ---- the combinations c f + d g: their parities, and that every pair that fits is one
module _ {A T : ℤ} {f g : Vect} (B : Basis A T f g) (c d : ℤ) where
  odd_q : Odd d → Odd (comb c d f g).q
  odd_q h = par4 (λ c d fq gq. ev fq ⇒ od gq ⇒ od d ⇒ od (c ⊗ fq ⊕ d ⊗ gq)) tt c d f.q g.q B.even_f B.odd_g h

  odd_d : Odd (comb c d f g).q → Odd d
  odd_d h = par4 (λ c d fq gq. ev fq ⇒ od gq ⇒ od (c ⊗ fq ⊕ d ⊗ gq) ⇒ od d) tt c d f.q g.q B.even_f B.odd_g h

  even_q : Even d → Even (comb c d f g).q
  even_q h = par4 (λ c d fq gq. ev fq ⇒ od gq ⇒ ev d ⇒ ev (c ⊗ fq ⊕ d ⊗ gq)) tt c d f.q g.q B.even_f B.odd_g h

  odd_rest : Odd c → Even d → Odd (comb c d f g).r
  odd_rest h k = par4 (λ c d fr gr. od fr ⇒ od c ⇒ ev d ⇒ od (c ⊗ fr ⊕ d ⊗ gr)) tt c d f.r g.r B.odd_r h k

  odd_c : Even d → Odd (comb c d f g).r → Odd c
  odd_c h k = par4 (λ c d fr gr. od fr ⇒ ev d ⇒ od (c ⊗ fr ⊕ d ⊗ gr) ⇒ od c) tt c d f.r g.r B.odd_r h k

  odd_both : Odd d → Odd ((comb c d f g).r -ℤ g.r) → Odd c
  odd_both h k = par4 (λ c d fr gr. od fr ⇒ od d ⇒ od (c ⊗ fr ⊕ d ⊗ gr ⊖ gr) ⇒ od c) tt c d f.r g.r B.odd_r h k

  fits : Fit A T (comb c d f g)
  fits = fit_comb A T c d f g B.fit_f B.fit_g

module _ {A T : ℤ} {f g : Vect} (B : Basis A T f g) (v : Vect) where
  -- every pair that fits is a combination, by the factors of `Vec`
  pub spans : Fit A T v → v ≡ comb (fac_f f g v) (fac_g f g v) f g
  spans h = basis A T f g v B.fit_f B.fit_g B.unit h

  -- its q is odd iff its factor of g is
  pub spans_odd : Odd v.q ↔ Odd (fac_g f g v)
  spans_odd = (
    (λ h. odd_d B (fac_f f g v) (fac_g f g v) (subst Odd (basis_q f g v B.unit) h)),
    (λ h. subst Odd (sym (basis_q f g v B.unit)) (odd_q B (fac_f f g v) (fac_g f g v) h)),
  )

-- H1 and H2 over the factors, from the state
module _ {M : ℕ} {A T : ℤ} {f g : Vect} (R : Reduced M A T f g) where
  pub h1 : (c d : ℤ) → Odd d → K M g ≤ K M (comb c d f g)
  h1 c d h = R.least_g (comb c d f g) (fits R.base c d) (odd_q R.base c d h)

  pub h2 : (c d : ℤ) → Odd c → Even d → K M f ≤ K M (comb c d f g)
  h2 c d h k = R.least_f (comb c d f g) (fits R.base c d) (even_q R.base c d k) (odd_rest R.base c d h k)

  -- g + f or g − f is least among the odd-odd combinations
  pub third_least : (v : Vect) → Fit A T v → Odd v.q → Odd (v.r -ℤ g.r) → (K M (plus g f) ≤ K M v) ⊎ (K M (minus g f) ≤ K M v)
  third_least v h o e = let d = (spans_odd R.base v).0 o in
      subst (λ (v : Vect). (K M (plus g f) ≤ K M v) ⊎ (K M (minus g f) ≤ K M v)) (sym (spans R.base v h))
      (shortest (norm M) (norm_is M) f.p f.q g.p g.q h1 h2 (fac_f f g v) (fac_g f g v)
      (odd_both R.base (fac_f f g v) (fac_g f g v) d (subst (λ (r : ℤ). Odd (r -ℤ g.r)) (basis_r f g v R.base.unit) e)) d)
