-- From the reduced state to the answer: which pair is smallest, and when there is none.
use mathlib.Core.Path.{◌≡◌, refl, sym, ap, ap₂, ◌∙◌, subst, subst₂}
use mathlib.Core.Logic.{◌⊎◌, inl, inr}
use mathlib.Core.Bool.{true, false}
use mathlib.Core.List.{List}
use Prim.Native.Nat.{ℕ, zero, suc, ◌+◌, ◌*◌, ◌%◌, ◌^◌, ◌≤◌, ◌<◌}
use native.Mathlib.Omega.{arith}
use native.Mathlib.Nat.{mul-mod_right}
use native.Mathlib.Decide.{dec_le}
use lib.Dec.{T}
use lib.IntN.{ℤ, pos, negsuc, neg_ℤ, nat_abs, ◌-ℤ◌, ◌*ℤ◌}
use lib.Pow.{pow_mono}
use lib.Signed.{lt_z}
use mir.Syntax.{w64}
use mir.Val.{to_z, of_z}
use borrow.Author.Tests.{ltb-true}
use Rattle.integers.proofs.Parts.{nat_abs_neg, nat_abs-*}
use Rattle.integers.proofs.Sizes.{back64, abs--}
use Rattle.integers.proofs.Equations.{eq_by, z_sub, z-*, z-+}
use Rattle.integers.proofs.Ring.{lit, #, neg, ◌⊕◌, ◌⊗◌, ◌⊖◌, ring1, ring4, ring6, ◌≔◌}
use Rattle.bits.specs.Bits.{value}
use Rattle.fractions.specs.Pairs.{limit, Inside, Fits, below, NotAfter, Smallest, NoneFits}
use Rattle.std.specs.Prelude.{Option, Some, None, MatchOption}
use Rattle.fractions.specs.declared.Fraction.{Fraction}
use Rattle.fractions.proofs.Lowest.{part}
use Rattle.reduction.specs.Vectors.{Vect, Fit, Lex, Within}
use Rattle.reduction.specs.Reduced.{big}
use Rattle.reduction.proofs.Vectors.{fit_to}
use Rattle.reduction.proofs.Keys.{no_larger}
use Rattle.reduction.proofs.States.{At, least, least_before}
use Rattle.learning.specs.Steps.{flip, Finished}

-- ---- what the end asks
-- 1 << n
power_read : (n : ℕ) → n < 61 → 1 * 2 ^ n % 2 ^ 64 ≡ 2 ^ n
power_read n h = omega (arith, pow_mono {i = n} {j = 60} (omega arith))

abs_flip : (p q : ℤ) → nat_abs (flip p q) ≡ nat_abs p
abs_flip p (pos n) = refl
abs_flip p (negsuc n) = nat_abs_neg p

flip_neg : (p q : ℤ) → lt_z q (pos 0) ≡ true → pos 0 -ℤ p ≡ flip p q
flip_neg p (pos n) e = absurd (let k : n < 0 = ltb-true n 0 e in omega arith)
flip_neg p (negsuc n) e = ring1 (λ p. # 0 ⊖ p ≔ neg p) tt p

flip-pos : (p q : ℤ) → lt_z q (pos 0) ≡ false → p ≡ flip p q
flip-pos p (pos n) e = refl
flip-pos p (negsuc n) e = absurd (subst T e tt)

module _ {n : ℕ} {g : Vect} (h : (n < 61) × Within (2 ^ 61) g) {a b : ℕ} (ea : a ≡ nat_abs (to_z w64 (of_z w64 g.p))) (eb : b ≡ nat_abs (to_z w64 (of_z w64 g.q))) where
  p_back : to_z w64 (of_z w64 g.p) ≡ g.p
  p_back = back64 g.p (omega arith)

  q_back : to_z w64 (of_z w64 g.q) ≡ g.q
  q_back = back64 g.q (omega arith)

  -- the test, without what the machine makes of it
  tested : 2 * a % (1 * 2 ^ n % 2 ^ 64) ≡ (2 * nat_abs g.p) % 2 ^ n
  tested = ap₂ (λ (x y : ℕ). 2 * x % y) (ea ∙ ap nat_abs p_back) (power_read n h.0)

  pub finished_whole : 2 * a % (1 * 2 ^ n % 2 ^ 64) ≡ 0 → {x p' : ℤ} → p' ≡ to_z w64 (of_z w64 x) → x ≡ pos (nat_abs (to_z w64 (of_z w64 g.p))) → Finished n g.p g.q p' b
  finished_whole d {x} {p'} ep ex = record { q_is = eb ∙ ap nat_abs q_back; p_is = ap nat_abs p_is; side = inr (sym tested ∙ d); sign = inl (ap below p_is) }
    where
      size : x ≡ pos (nat_abs g.p)
      size = ex ∙ ap (λ (z : ℤ). pos (nat_abs z)) p_back

      p_is : p' ≡ pos (nat_abs g.p)
      p_is = ep ∙ back64 x (omega (arith, ap nat_abs size)) ∙ size

  finished_flip : (2 * a % (1 * 2 ^ n % 2 ^ 64) ≡ 0 → ⊥) → {p' : ℤ} → p' ≡ flip g.p g.q → Finished n g.p g.q p' b
  finished_flip d e = record { q_is = eb ∙ ap nat_abs q_back; p_is = ap nat_abs e ∙ abs_flip g.p g.q; side = inl e; sign = inr (λ k. d (tested ∙ k)) }

  pub finished_turned : (2 * a % (1 * 2 ^ n % 2 ^ 64) ≡ 0 → ⊥) → lt_z (to_z w64 (of_z w64 g.q)) (pos 0) ≡ true
      → {p' : ℤ} → p' ≡ to_z w64 (of_z w64 (pos 0 -ℤ to_z w64 (of_z w64 g.p))) → Finished n g.p g.q p' b
  finished_turned d l {p'} e = finished_flip d (rw p_back at e ∙ back64 (pos 0 -ℤ g.p) (omega (arith, abs-- (pos 0) g.p {a = 0} {b = 2 ^ 61} (omega arith) (omega arith))) ∙ flip_neg g.p g.q (rw q_back at l))

  pub finished_kept : (2 * a % (1 * 2 ^ n % 2 ^ 64) ≡ 0 → ⊥) → lt_z (to_z w64 (of_z w64 g.q)) (pos 0) ≡ false → {p' : ℤ} → p' ≡ to_z w64 (of_z w64 g.p) → Finished n g.p g.q p' b
  finished_kept d l e = finished_flip d (e ∙ p_back ∙ flip-pos g.p g.q (rw q_back at l))

-- a finished pair is inside the limits where the least vector is
module _ (bytes : List ℕ) (n : ℕ) {f g : Vect} (R : At bytes n f g) {p : ℤ} {q : ℕ} (F : Finished n g.p g.q p q) where
  finished_odd : q % 2 ≡ 1
  finished_odd = ap (λ (m : ℕ). m % 2) F.q_is ∙ R.base.odd_g

  finished_inside : nat_abs g.p ≤ limit → nat_abs g.q ≤ limit → Inside p q
  finished_inside hp hq = record { odd = finished_odd; some = omega (arith, finished_odd); q_most = omega (arith, F.q_is); p_most = omega (arith, F.p_is) }

-- ---- none inside: the least is too large
pub none_large : (bytes : List ℕ) (n : ℕ) {f g : Vect} → At bytes n f g → {p' : ℤ} {q' : ℕ} → Finished n g.p g.q p' q' → (Inside p' q' → ⊥) → NoneFits n (value bytes n)
none_large bytes n {f} {g} R F h p q i e =
    let hp : nat_abs p < big = omega arith in
    let hq : q < big = omega arith in
    let s = no_larger big g.p g.q p (pos q) hp hq (least R p (pos q) e.0 i.odd e.1) in
    h (finished_inside bytes n R F (omega arith) (omega arith))

-- ---- the smallest: the least vector, with its sign
fit_flip : (A T p q r : ℤ) → Fit A T (record { p = p; q = q; r = r }) → (s : ℤ) × Fit A T (record { p = flip p q; q = pos (nat_abs q); r = s })
fit_flip A T p (pos n) r h = (r, h)
fit_flip A T p (negsuc n) r h = (neg_ℤ r, ap neg_ℤ h ∙ ring4 (λ A T q r. neg (A ⊗ q ⊕ T ⊗ r) ≔ A ⊗ neg q ⊕ T ⊗ neg r) tt A T (negsuc n) r)

abs_cases : (x y : ℤ) → nat_abs x ≡ nat_abs y → (x ≡ y) ⊎ (x ≡ neg_ℤ y)
abs_cases (pos a) (pos b) h = inl (ap pos h)
abs_cases (pos a) (negsuc b) h = inr (ap pos h)
abs_cases (negsuc a) (pos zero) h = absurd (omega arith)
abs_cases (negsuc a) (pos (suc b)) h = inr (ap negsuc (omega arith))
abs_cases (negsuc a) (negsuc b) h = inl (ap negsuc (omega arith))

-- where 2^n divides 2 |p|, the other sign fits too
fit_other : (A p q r : ℤ) (T : ℕ) → (2 * nat_abs p) % T ≡ 0 → Fit A (pos T) (record { p = p; q = q; r = r }) → (s : ℤ) × Fit A (pos T) (record { p = neg_ℤ p; q = q; r = s })
fit_other A p q r T d h =
    let m = part T (pos 2 *ℤ p) (ap (λ (n : ℕ). n % T) (nat_abs-* (pos 2) p) ∙ d) in (
      r -ℤ m.0,
      eq_by (z-+ (z_sub h) (z-* (negsuc 0) (z_sub m.1.0)))
          (ring6 (λ A T p q r m. neg p ≔ A ⊗ q ⊕ T ⊗ (r ⊖ m) ⊕ ((p ⊖ (A ⊗ q ⊕ T ⊗ r)) ⊕ lit (negsuc 0) ⊗ (# 2 ⊗ p ⊖ T ⊗ m))) tt A (pos T) p q r m.0),
    )

-- the order, from the key's
to_order : (p : ℤ) (q : ℕ) (p' : ℤ) (q' : ℕ) → Lex (nat_abs p) q (nat_abs p') q' → (nat_abs p ≡ nat_abs p' → q ≡ q' → below p ≤ below p') → NotAfter p q p' q'
to_order p q p' q' (inl l) s = inl l
to_order p q p' q' (inr (e, inl l)) s = inr (e, inl l)
to_order p q p' q' (inr (e, inr (k, l))) s = inr (e, inr (k, elim (dec_le (suc q) q') [ yes m ↦ inl m | no m ↦ last (omega arith) ]))
  where
    last : q ≡ q' → (q < q') ⊎ ((q ≡ q') × (below p ≤ below p'))
    last h = inr (h, s k h)

-- two pairs that differ in p's sign both fit only where 2^n divides 2 |p|
both_signs : (D x y t s : ℤ) (T : ℕ) → D -ℤ x ≡ pos T *ℤ t → D -ℤ y ≡ pos T *ℤ s → nat_abs (y -ℤ x) % T ≡ 0
both_signs D x y t s T h k = ap (λ (n : ℕ). n % T) (ap nat_abs e ∙ nat_abs-* (pos T) (t -ℤ s)) ∙ mul-mod_right T (nat_abs (t -ℤ s))
  where
    e : y -ℤ x ≡ pos T *ℤ (t -ℤ s)
    e = eq_by (z-+ (z_sub h) (z-* (negsuc 0) (z_sub k))) (ring6 (λ D x y t s T. y ⊖ x ≔ T ⊗ (t ⊖ s) ⊕ ((D ⊖ x ⊖ T ⊗ t) ⊕ lit (negsuc 0) ⊗ (D ⊖ y ⊖ T ⊗ s))) tt D x y t s (pos T))

signs : (D : ℤ) (T a : ℕ) (x y t s : ℤ) → D -ℤ x ≡ pos T *ℤ t → D -ℤ y ≡ pos T *ℤ s → nat_abs x ≡ a → nat_abs x ≡ nat_abs y → (below x ≡ 0) ⊎ ((2 * a) % T ≡ 0 → ⊥) → below x ≤ below y
signs D T a x y t s h k ea e (inl z) = omega arith
signs D T a (pos b) y t s h k ea e (inr never) = omega arith
signs D T a (negsuc b) (negsuc d) t s h k ea e (inr never) = omega arith
signs D T a (negsuc b) (pos d) t s h k ea e (inr never) = absurd (never (ap (λ (n : ℕ). n % T) two ∙ both_signs D (negsuc b) (pos d) t s T h k))
  where
    two : 2 * a ≡ d + suc b
    two = omega arith

pub smallest : (bytes : List ℕ) (n : ℕ) {f g : Vect} → At bytes n f g → (p : ℤ) (q : ℕ) → Finished n g.p g.q p q → Inside p q → Smallest n (value bytes n) p q
smallest bytes n {f} {g} R p q F i = record { inside = i; fits = fit; first = first }
  where
    Fitted : ℤ → ℕ → ℤ → Type 0
    Fitted x m s = Fit (pos (value bytes n)) (pos (2 ^ n)) (record { p = x; q = pos m; r = s })

    turned : (s : ℤ) × Fitted (flip g.p g.q) (nat_abs g.q) s
    turned = fit_flip (pos (value bytes n)) (pos (2 ^ n)) g.p g.q g.r R.base.fit_g

    at_p : (x : ℤ) (s : ℤ) → p ≡ x → Fitted x (nat_abs g.q) s → Fits n (value bytes n) p q
    at_p x s e h = (neg_ℤ s, fit_to (pos (value bytes n)) (pos (2 ^ n)) (record { p = p; q = pos q; r = s }) (subst₂ (λ (x : ℤ) (m : ℕ). Fitted x m s) (sym e) (sym F.q_is) h))

    fit : Fits n (value bytes n) p q
    fit = go F.side
      where
        other : (2 * nat_abs g.p) % 2 ^ n ≡ 0 → (p ≡ flip g.p g.q) ⊎ (p ≡ neg_ℤ (flip g.p g.q)) → Fits n (value bytes n) p q
        other d (inl e) = at_p (flip g.p g.q) turned.0 e turned.1
        other d (inr e) =
            let s = fit_other (pos (value bytes n)) (flip g.p g.q) (pos (nat_abs g.q)) turned.0 (2 ^ n) (ap (λ (m : ℕ). (2 * m) % 2 ^ n) (abs_flip g.p g.q) ∙ d) turned.1 in
            at_p (neg_ℤ (flip g.p g.q)) s.0 e s.1

        go : (p ≡ flip g.p g.q) ⊎ ((2 * nat_abs g.p) % 2 ^ n ≡ 0) → Fits n (value bytes n) p q
        go (inl e) = at_p (flip g.p g.q) turned.0 e turned.1
        go (inr d) = other d (abs_cases p (flip g.p g.q) (F.p_is ∙ sym (abs_flip g.p g.q)))

    first : (p' : ℤ) (q' : ℕ) → Inside p' q' → Fits n (value bytes n) p' q' → NotAfter p q p' q'
    first p' q' i e =
        let up : nat_abs p' < big = omega arith in
        let uq : q' < big = omega arith in
        let b : Lex (nat_abs g.p) (nat_abs g.q) (nat_abs p') q' = least_before R p' (pos q') e.0 i.odd e.1 up uq in
        to_order p q p' q' (subst₂ (λ (a b : ℕ). Lex a b (nat_abs p') q') (sym F.p_is) (sym F.q_is) b)
        (λ ep eq. signs (pos (value bytes n) *ℤ pos q) (2 ^ n) (nat_abs g.p) p p' fit.0 e.0 fit.1
        (subst (λ (m : ℕ). pos (value bytes n) *ℤ pos m -ℤ p' ≡ pos (2 ^ n) *ℤ e.0) (sym eq) e.1) F.p_is ep F.sign)

-- the least vector's pair, tested, is the answer
pub searched : (bytes : List ℕ) (n : ℕ) {f g : Vect} → At bytes n f g → {p : ℤ} {q : ℕ} → Finished n g.p g.q p q
    → (r : Option Fraction) → MatchOption r (Inside p q → ⊥) (λ y. (y.p ≡ p) × (y.q ≡ q) × Inside y.p y.q) → MatchOption r (NoneFits n (value bytes n)) (λ y. Smallest n (value bytes n) y.p y.q)
searched bytes n R F None h = none_large bytes n R F h
searched bytes n {g = g} R F (Some y) h = smallest bytes n R y.p y.q (subst₂ (λ (p : ℤ) (q : ℕ). Finished n g.p g.q p q) (sym h.0) (sym h.1) F) h.2
