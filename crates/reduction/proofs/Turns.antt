-- One more bit `a` takes a reduced state to a reduced one. `a` is any integer here.
use mathlib.Core.Path.{◌≡◌, refl, sym, ◌∙◌, ap, ap₂, subst}
use mathlib.Core.Logic.{◌⊎◌, inl, inr}
use Prim.Native.Nat.{ℕ, ◌≤◌}
use native.Mathlib.Omega.{arith}
use lib.IntN.{ℤ, pos, ◌+ℤ◌, ◌-ℤ◌, ◌*ℤ◌}
use Rattle.integers.specs.Numbers.{Odd, Even}
use Rattle.integers.proofs.Parity.{even_form, odd_or_even}
use Rattle.integers.proofs.Equations.{eq_by, z_sub, z-*}
use Rattle.integers.proofs.Ring.{#, ◌⊕◌, ◌⊗◌, ◌⊖◌, ring4, ring5, ring6, ◌≔◌}
use Rattle.integers.proofs.Parity.{od, ev, ◌⇒◌, par1, par2, par3, par5}
use Rattle.reduction.specs.Vectors.{Vect, norm, K, Fit, plus, minus, off, twice, rest}
use Rattle.reduction.specs.Reduced.{det, Unit2, Reduced, Pick, fst, snd, Sides, stay, turn}
use Rattle.reduction.proofs.Keys.{norm_is}
use Rattle.reduction.proofs.Vectors.{unit_swap, fit_plus, fit_minus}
use Rattle.reduction.proofs.Basis.{third_least}

-- the third vector's class: q odd, and a rest whose parity is not g's
record Third (M : ℕ) (A T : ℤ) (f g s : Vect) : Type 0 where
  fit : Fit A T s
  odd : Odd s.q
  other : Odd (s.r -ℤ g.r)
  unit_f : Unit2 f s
  unit_g : Unit2 s g
  least : (v : Vect) → Fit A T v → Odd v.q → Odd (v.r -ℤ g.r) → K M s ≤ K M v

module _ {M : ℕ} {A T : ℤ} {f g : Vect} (R : Reduced M A T f g) where
  third : {s : Vect} → Pick M (plus g f) (minus g f) s → Third M A T f g s
  third (fst h) = record {
    fit = fit_plus A T f g R.base.fit_f R.base.fit_g;
    odd = par2 (λ x y. od x ⇒ ev y ⇒ od (x ⊕ y)) tt g.q f.q R.base.odd_g R.base.even_f;
    other = par2 (λ x y. od y ⇒ od (x ⊕ y ⊖ x)) tt g.r f.r R.base.odd_r;
    unit_f = ring4 (λ fq fr gq gr. (fr ⊗ (gq ⊕ fq) ⊖ fq ⊗ (gr ⊕ fr)) ⊗ (fr ⊗ (gq ⊕ fq) ⊖ fq ⊗ (gr ⊕ fr)) ≔ (fr ⊗ gq ⊖ fq ⊗ gr) ⊗ (fr ⊗ gq ⊖ fq ⊗ gr)) tt f.q f.r g.q g.r ∙ R.base.unit;
    unit_g = ring4 (λ fq fr gq gr. ((gr ⊕ fr) ⊗ gq ⊖ (gq ⊕ fq) ⊗ gr) ⊗ ((gr ⊕ fr) ⊗ gq ⊖ (gq ⊕ fq) ⊗ gr) ≔ (fr ⊗ gq ⊖ fq ⊗ gr) ⊗ (fr ⊗ gq ⊖ fq ⊗ gr)) tt f.q f.r g.q g.r ∙ R.base.unit;
    least = λ v k o e. elim (third_least R v k o e) [ inl l ↦ l | inr l ↦ omega arith ];
  }
  third (snd h) = record {
    fit = fit_minus A T f g R.base.fit_f R.base.fit_g;
    odd = par2 (λ x y. od x ⇒ ev y ⇒ od (x ⊖ y)) tt g.q f.q R.base.odd_g R.base.even_f;
    other = par2 (λ x y. od y ⇒ od (x ⊖ y ⊖ x)) tt g.r f.r R.base.odd_r;
    unit_f = ring4 (λ fq fr gq gr. (fr ⊗ (gq ⊖ fq) ⊖ fq ⊗ (gr ⊖ fr)) ⊗ (fr ⊗ (gq ⊖ fq) ⊖ fq ⊗ (gr ⊖ fr)) ≔ (fr ⊗ gq ⊖ fq ⊗ gr) ⊗ (fr ⊗ gq ⊖ fq ⊗ gr)) tt f.q f.r g.q g.r ∙ R.base.unit;
    unit_g = ring4 (λ fq fr gq gr. ((gr ⊖ fr) ⊗ gq ⊖ (gq ⊖ fq) ⊗ gr) ⊗ ((gr ⊖ fr) ⊗ gq ⊖ (gq ⊖ fq) ⊗ gr) ≔ (fr ⊗ gq ⊖ fq ⊗ gr) ⊗ (fr ⊗ gq ⊖ fq ⊗ gr)) tt f.q f.r g.q g.r ∙ R.base.unit;
    least = λ v k o e. elim (third_least R v k o e) [ inl l ↦ omega arith | inr l ↦ l ];
  }

-- a state from two vectors: w, the least that fits one bit more with q odd, and m, the least of those that do not fit one bit more
module _ (M : ℕ) (A T a h : ℤ) (m w : Vect) (fit-m : Fit A T m) (fit-w : Fit A T w) (u : Unit2 m w) (odd-w : Odd w.q) (odd-m : Odd (off a m)) (half : off a w ≡ pos 2 *ℤ h)
    (least-w : (v : Vect) → Fit A T v → Odd v.q → Even (off a v) → K M w ≤ K M v)
    (least-m : (v : Vect) → Fit A T v → Odd (off a v) → K M m ≤ K M v) where
  det_same : det (twice a m) (rest w h) ≡ det m w
  det_same = eq_by (z-* m.q (z_sub half))
      (ring6 (λ a h mq mr wq wr. (mr ⊖ a ⊗ mq) ⊗ wq ⊖ # 2 ⊗ mq ⊗ h ≔ mr ⊗ wq ⊖ mq ⊗ wr ⊕ mq ⊗ ((wr ⊖ a ⊗ wq) ⊖ # 2 ⊗ h)) tt a h m.q m.r w.q w.r)

  -- 2 u with q even fits where u fits, one bit less
  least_twice : (v : Vect) → Fit (A +ℤ a *ℤ T) (pos 2 *ℤ T) v → Odd v.r → (k : ℤ) → v.q ≡ pos 2 *ℤ k → K M (twice a m) ≤ K M v
  least_twice v hv o k e = omega (
    arith,
    (norm_is M).hom (pos 2) m.p m.q,
    (norm_is M).hom (pos 2) c.p c.q,
    ap₂ (norm M) ep e,
    least-m c refl (par3 (λ a k r. od r ⇒ od (r ⊕ a ⊗ k ⊖ a ⊗ k)) tt a k v.r o),
  )
    where
      c : Vect
      c = record { p = A *ℤ k +ℤ T *ℤ (v.r +ℤ a *ℤ k); q = k; r = v.r +ℤ a *ℤ k }

      ep : v.p ≡ pos 2 *ℤ c.p
      ep = hv ∙ eq_by (z-* (A +ℤ a *ℤ T) (z_sub e))
          (ring6 (λ A T a q r k. (A ⊕ a ⊗ T) ⊗ q ⊕ # 2 ⊗ T ⊗ r ≔ # 2 ⊗ (A ⊗ k ⊕ T ⊗ (r ⊕ a ⊗ k)) ⊕ (A ⊕ a ⊗ T) ⊗ (q ⊖ # 2 ⊗ k)) tt A T a v.q v.r k)

  next : Reduced M (A +ℤ a *ℤ T) (pos 2 *ℤ T) (twice a m) (rest w h)
  next = record {
    base = record {
      fit_f = ap (λ (x : ℤ). pos 2 *ℤ x) fit-m ∙ ring5 (λ A T a q r. # 2 ⊗ (A ⊗ q ⊕ T ⊗ r) ≔ (A ⊕ a ⊗ T) ⊗ (# 2 ⊗ q) ⊕ # 2 ⊗ T ⊗ (r ⊖ a ⊗ q)) tt A T a m.q m.r;
      fit_g = fit-w ∙ eq_by (z-* T (z_sub half)) (ring6 (λ A T a h q r. A ⊗ q ⊕ T ⊗ r ≔ (A ⊕ a ⊗ T) ⊗ q ⊕ # 2 ⊗ T ⊗ h ⊕ T ⊗ ((r ⊖ a ⊗ q) ⊖ # 2 ⊗ h)) tt A T a h w.q w.r);
      unit = subst (λ (z : ℤ). z *ℤ z ≡ pos 1) (sym det_same) u;
      even_f = par1 (λ q. ev (# 2 ⊗ q)) tt m.q;
      odd_r = odd-m;
      odd_g = odd-w;
    };
    least_g = λ v hv o. least-w (record { p = v.p; q = v.q; r = pos 2 *ℤ v.r +ℤ a *ℤ v.q })
        (hv ∙ ring5 (λ A T a q r. (A ⊕ a ⊗ T) ⊗ q ⊕ # 2 ⊗ T ⊗ r ≔ A ⊗ q ⊕ T ⊗ (# 2 ⊗ r ⊕ a ⊗ q)) tt A T a v.q v.r) o
        (par3 (λ a q r. ev (# 2 ⊗ r ⊕ a ⊗ q ⊖ a ⊗ q)) tt a v.q v.r);
    least_f = λ v hv e o. let k = even_form v.q e in least_twice v hv o k.0 k.1;
  }

-- ---- one bit more
module _ {M : ℕ} {A T : ℤ} {f g : Vect} (R : Reduced M A T f g) (a h : ℤ) where
  off_f : Odd (off a f)
  off_f = par3 (λ a q r. ev q ⇒ od r ⇒ od (r ⊖ a ⊗ q)) tt a f.q f.r R.base.even_f R.base.odd_r

  -- what f and o are least of: together, all that does not fit one bit more
  least_two : (o : Vect) → ((v : Vect) → Fit A T v → Odd v.q → Odd (off a v) → K M o ≤ K M v) → (v : Vect) → Fit A T v → Odd (off a v) → (K M f ≤ K M v) ⊎ (K M o ≤ K M v)
  least_two o least-o v hv k = elim (odd_or_even v.q) [
    | inl e ↦ inl (R.least_f v hv e (par3 (λ a q r. ev q ⇒ od (r ⊖ a ⊗ q) ⇒ od r) tt a v.q v.r e k))
    | inr e ↦ inr (least-o v hv e k)
  ]

  finish : (w o : Vect) {m : Vect} → Fit A T w → Fit A T o → Unit2 f w → Unit2 o w → Odd w.q → Odd (off a o) → off a w ≡ pos 2 *ℤ h
      → ((v : Vect) → Fit A T v → Odd v.q → Even (off a v) → K M w ≤ K M v)
      → ((v : Vect) → Fit A T v → Odd v.q → Odd (off a v) → K M o ≤ K M v)
      → Pick M f o m → Reduced M (A +ℤ a *ℤ T) (pos 2 *ℤ T) (twice a m) (rest w h)
  finish w o fw fo uf uo ow oo half lw lo (fst l) = next M A T a h f w R.base.fit_f fw uf ow off_f half lw (λ v hv k. elim (least_two o lo v hv k) [ inl e ↦ e | inr e ↦ omega arith ])
  finish w o fw fo uf uo ow oo half lw lo (snd l) = next M A T a h o w fo fw uo ow oo half lw (λ v hv k. elim (least_two o lo v hv k) [ inl e ↦ omega arith | inr e ↦ e ])

  pub extend_reduced : {s w o m : Vect} → Pick M (plus g f) (minus g f) s → Sides a g s w o → Pick M f o m → off a w ≡ pos 2 *ℤ h
      → Reduced M (A +ℤ a *ℤ T) (pos 2 *ℤ T) (twice a m) (rest w h)
  extend_reduced {s} ps (stay e) pm half = let t = third R ps in
      finish g s R.base.fit_g t.fit R.base.unit t.unit_g R.base.odd_g
      (par5 (λ a gq gr sq sr. od gq ⇒ od sq ⇒ od (sr ⊖ gr) ⇒ ev (gr ⊖ a ⊗ gq) ⇒ od (sr ⊖ a ⊗ sq)) tt a g.q g.r s.q s.r R.base.odd_g t.odd t.other e) half
      (λ v hv o k. R.least_g v hv o)
      (λ v hv o k. t.least v hv o (par5 (λ a gq gr vq vr. od gq ⇒ od vq ⇒ ev (gr ⊖ a ⊗ gq) ⇒ od (vr ⊖ a ⊗ vq) ⇒ od (vr ⊖ gr)) tt a g.q g.r v.q v.r R.base.odd_g o e k)) pm
  extend_reduced {s} ps (turn e) pm half = let t = third R ps in
      finish s g t.fit R.base.fit_g t.unit_f (unit_swap s g t.unit_g) t.odd e half
      (λ v hv o k. t.least v hv o (par5 (λ a gq gr vq vr. od gq ⇒ od vq ⇒ od (gr ⊖ a ⊗ gq) ⇒ ev (vr ⊖ a ⊗ vq) ⇒ od (vr ⊖ gr)) tt a g.q g.r v.q v.r R.base.odd_g o e k))
      (λ v hv o k. R.least_g v hv o) pm

-- the vector that stays in the state fits one bit more
module _ {M : ℕ} {A T : ℤ} {f g : Vect} (R : Reduced M A T f g) (a : ℤ) where
  pub side_even : {s w o : Vect} → Pick M (plus g f) (minus g f) s → Sides a g s w o → Even (off a w)
  side_even ps (stay e) = e
  side_even {s} ps (turn e) = let t = third R ps in
      par5 (λ a gq gr sq sr. od gq ⇒ od sq ⇒ od (sr ⊖ gr) ⇒ od (gr ⊖ a ⊗ gq) ⇒ ev (sr ⊖ a ⊗ sq)) tt a g.q g.r s.q s.r R.base.odd_g t.odd t.other e
