-- The algebra of pairs with their rest: what fits is closed under combinations, and two pairs of determinant 1 or −1 span all that fits.
use mathlib.Core.Path.{◌≡◌, sym, ◌∙◌, ap, ap₂}
use lib.IntN.{ℤ, negsuc, neg_ℤ, ◌+ℤ◌, ◌-ℤ◌, ◌*ℤ◌}
use Rattle.integers.proofs.Equations.{eq_by, z_sub, z-*}
use Rattle.integers.proofs.Ring.{#, lit, neg, ◌⊕◌, ◌⊗◌, ◌⊖◌, ring4, ring5, ring6, ◌≔◌}
use Rattle.reduction.specs.Vectors.{Vect, Fit, plus, minus}
use Rattle.reduction.specs.Reduced.{det, Unit2}

-- c v, c f + d g
abbrev pub scale : ℤ → Vect → Vect
scale c v = record { p = c *ℤ v.p; q = c *ℤ v.q; r = c *ℤ v.r }

abbrev pub comb : ℤ → ℤ → Vect → Vect → Vect
comb c d f g = plus (scale c f) (scale d g)

pub unit_swap : (f g : Vect) → Unit2 f g → Unit2 g f
unit_swap f g u = ring4 (λ fq fr gq gr. (gr ⊗ fq ⊖ gq ⊗ fr) ⊗ (gr ⊗ fq ⊖ gq ⊗ fr) ≔ (fr ⊗ gq ⊖ fq ⊗ gr) ⊗ (fr ⊗ gq ⊖ fq ⊗ gr)) tt f.q f.r g.q g.r ∙ u

-- ---- what fits is closed under combinations
pub fit_plus : (A T : ℤ) (f g : Vect) → Fit A T f → Fit A T g → Fit A T (plus g f)
fit_plus A T f g hf hg = ap₂ (λ (x y : ℤ). x +ℤ y) hg hf
    ∙ ring6 (λ A T x y z w. (A ⊗ x ⊕ T ⊗ y) ⊕ (A ⊗ z ⊕ T ⊗ w) ≔ A ⊗ (x ⊕ z) ⊕ T ⊗ (y ⊕ w)) tt A T g.q g.r f.q f.r

pub fit_minus : (A T : ℤ) (f g : Vect) → Fit A T f → Fit A T g → Fit A T (minus g f)
fit_minus A T f g hf hg = ap₂ (λ (x y : ℤ). x -ℤ y) hg hf
    ∙ ring6 (λ A T x y z w. (A ⊗ x ⊕ T ⊗ y) ⊖ (A ⊗ z ⊕ T ⊗ w) ≔ A ⊗ (x ⊖ z) ⊕ T ⊗ (y ⊖ w)) tt A T g.q g.r f.q f.r

pub fit_scale : (A T c : ℤ) (v : Vect) → Fit A T v → Fit A T (scale c v)
fit_scale A T c v h = ap (λ (x : ℤ). c *ℤ x) h ∙ ring5 (λ A T c x y. c ⊗ (A ⊗ x ⊕ T ⊗ y) ≔ A ⊗ (c ⊗ x) ⊕ T ⊗ (c ⊗ y)) tt A T c v.q v.r

pub fit_comb : (A T c d : ℤ) (f g : Vect) → Fit A T f → Fit A T g → Fit A T (comb c d f g)
fit_comb A T c d f g hf hg = fit_plus A T (scale d g) (scale c f) (fit_scale A T d g hg) (fit_scale A T c f hf)

-- ---- the basis: the factors of v
abbrev pub fac_f : Vect → Vect → Vect → ℤ
fac_f f g v = det f g *ℤ det v g

abbrev pub fac_g : Vect → Vect → Vect → ℤ
fac_g f g v = det f g *ℤ det f v

pub basis_q : (f g v : Vect) → Unit2 f g → v.q ≡ (comb (fac_f f g v) (fac_g f g v) f g).q
basis_q f g v u = sym (eq_by (z-* v.q (z_sub u))
    (ring6 (λ fq fr gq gr q r. (fr ⊗ gq ⊖ fq ⊗ gr) ⊗ (r ⊗ gq ⊖ q ⊗ gr) ⊗ fq ⊕ (fr ⊗ gq ⊖ fq ⊗ gr) ⊗ (fr ⊗ q ⊖ fq ⊗ r) ⊗ gq
    ≔ q ⊕ q ⊗ ((fr ⊗ gq ⊖ fq ⊗ gr) ⊗ (fr ⊗ gq ⊖ fq ⊗ gr) ⊖ # 1)) tt f.q f.r g.q g.r v.q v.r))

pub basis_r : (f g v : Vect) → Unit2 f g → v.r ≡ (comb (fac_f f g v) (fac_g f g v) f g).r
basis_r f g v u = sym (eq_by (z-* v.r (z_sub u))
    (ring6 (λ fq fr gq gr q r. (fr ⊗ gq ⊖ fq ⊗ gr) ⊗ (r ⊗ gq ⊖ q ⊗ gr) ⊗ fr ⊕ (fr ⊗ gq ⊖ fq ⊗ gr) ⊗ (fr ⊗ q ⊖ fq ⊗ r) ⊗ gr
    ≔ r ⊕ r ⊗ ((fr ⊗ gq ⊖ fq ⊗ gr) ⊗ (fr ⊗ gq ⊖ fq ⊗ gr) ⊖ # 1)) tt f.q f.r g.q g.r v.q v.r))

fit_path : (A T : ℤ) (u v : Vect) → Fit A T u → Fit A T v → u.q ≡ v.q → u.r ≡ v.r → u ≡ v
fit_path A T u v hu hv eq er = λ i. record { p = ep i; q = eq i; r = er i }
  where
    ep : u.p ≡ v.p
    ep = hu ∙ ap₂ (λ (x y : ℤ). A *ℤ x +ℤ T *ℤ y) eq er ∙ sym hv

-- every pair that fits is c f + d g
pub basis : (A T : ℤ) (f g v : Vect) → Fit A T f → Fit A T g → Unit2 f g → Fit A T v → v ≡ comb (fac_f f g v) (fac_g f g v) f g
basis A T f g v hf hg u hv = fit_path A T v (comb (fac_f f g v) (fac_g f g v) f g) hv (fit_comb A T (fac_f f g v) (fac_g f g v) f g hf hg) (basis_q f g v u) (basis_r f g v u)

-- a pair fits where T divides A q − p: the rest is the quotient's negative
pub fit_of : (A T p q t : ℤ) → A *ℤ q -ℤ p ≡ T *ℤ t → Fit A T (record { p = p; q = q; r = neg_ℤ t })
fit_of A T p q t h = eq_by (z-* (negsuc 0) (z_sub h)) (ring5 (λ A T p q t. p ≔ A ⊗ q ⊕ T ⊗ neg t ⊕ lit (negsuc 0) ⊗ (A ⊗ q ⊖ p ⊖ T ⊗ t)) tt A T p q t)

pub fit_to : (A T : ℤ) (v : Vect) → Fit A T v → A *ℤ v.q -ℤ v.p ≡ T *ℤ neg_ℤ v.r
fit_to A T v h = ap (λ (p : ℤ). A *ℤ v.q -ℤ p) h ∙ ring4 (λ A T q r. A ⊗ q ⊖ (A ⊗ q ⊕ T ⊗ r) ≔ T ⊗ neg r) tt A T v.q v.r
