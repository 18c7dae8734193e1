-- Why the guess decides: each turn of Euclid's algorithm keeps a basis of all pairs that fit the first 61 bits, and at its stop a pair inside the limits can only be
-- a multiple of its second vector: a share of the first, whose remainder is above the limit, would push p or q out.
--
--   traced_start, traced_step   what a turn of the loop keeps
--   guess_only                  a pair inside the limits that fits the first 61 bits is the guess, as a fraction; the guess is inside, and its q is odd
--   guess_smallest              a guess that fits all n bits is the answer
--   guess_none                  otherwise no pair inside fits
use mathlib.Core.Path.{◌≡◌, refl, sym, ap, ◌∙◌, subst, subst₂}
use mathlib.Core.Bool.{not-not, Bool, true, false, not}
use mathlib.Core.List.{List, [], ◌∷◌}
use Prim.Native.Nat.{ℕ, zero, suc, ◌+◌, ◌*◌, ◌/◌, ◌%◌, ◌^◌, ◌≤◌, ◌<◌}
use native.Mathlib.Omega.{arith}
use native.Mathlib.Nat.{div-add-mod', mul-le-mul_left}
use mir.Syntax.{w64}
use mir.Val.{to_z, of_z}
use Rattle.std.proofs.lemmas.Int.{to_z_pos}
use lib.Dec.{T}
use lib.Pow.{pow_pos}
use lib.IntN.{neg_ℤ-neg_ℤ, ℤ, pos, negsuc, neg_ℤ, nat_abs, ◌+ℤ◌, ◌-ℤ◌, ◌*ℤ◌}
use Rattle.std.specs.Prelude.{MatchOption}
use Rattle.std.specs.Bool.{then_some}
use Rattle.fractions.specs.declared.Fraction.{Fraction}
use Rattle.integers.specs.Numbers.{Coprime, Decides, signed_by}
use Rattle.integers.proofs.Parts.{eq_to, parts-+, parts--, parts-*, nat_abs_is, nat_abs-*, nat_abs_neg, eq_of_sub}
use Rattle.integers.proofs.Equations.{eq_by, z_sub, z-*, z-+}
use Rattle.integers.proofs.Sizes.{back64, abs--, abs-*, signed_size}
use Rattle.integers.proofs.Ring.{var, lit, #, neg, ◌⊕◌, ◌⊗◌, ◌⊖◌, ring, ring1, ring2, ring3, ring4, ring6, ◌≔◌, ring11}
use Rattle.bits.specs.Bits.{value}
use Rattle.fractions.specs.Pairs.{limit, Inside, Fits, Smallest, NoneFits, SameFraction}
use Rattle.fractions.proofs.Same.{cancel, fits_same}
use Rattle.fractions.proofs.Lowest.{odd_left, power_coprime}
use Rattle.fractions.proofs.Order.{smallest_certified}
use Rattle.fractions.proofs.Expansion.{fits_digits}
use Rattle.learning.specs.Steps.{Traced, Guess, Guessed}

-- ---- a turn of Euclid's algorithm
pub traced_start : (A : ℕ) → Traced A (2 ^ 61) A 0 1 false
traced_start A = record {
  sum = omega arith;
  last = (pos 1, ring2 (λ A T. A ⊗ # 0 ⊖ neg T ≔ T ⊗ # 1) tt (pos A) (pos (2 ^ 61)));
  fits = (pos 0, ring2 (λ A T. A ⊗ # 1 ⊖ A ≔ T ⊗ # 0) tt (pos A) (pos (2 ^ 61)));
  large = omega arith;
}

-- r₀ = z r₁ + r: what fits with the remainder
fits_step : (A T P₀ P₁ P t₀ t₁ z s₀ s₁ : ℤ) → A *ℤ t₀ -ℤ P₀ ≡ T *ℤ s₀ → A *ℤ t₁ -ℤ P₁ ≡ T *ℤ s₁ → P ≡ P₀ +ℤ z *ℤ P₁
    → A *ℤ (t₀ +ℤ z *ℤ t₁) -ℤ P ≡ T *ℤ (s₀ +ℤ z *ℤ s₁)
fits_step A T P₀ P₁ P t₀ t₁ z s₀ s₁ h₀ h₁ e = eq_by (z-+ (z_sub h₀) (z-+ (z-* z (z_sub h₁)) (z-* (negsuc 0) (z_sub e))))
    (ring (var 0 ⊗ (var 5 ⊕ var 7 ⊗ var 6) ⊖ var 4)
    (var 1 ⊗ (var 8 ⊕ var 7 ⊗ var 9) ⊕ ((var 0 ⊗ var 5 ⊖ var 2 ⊖ var 1 ⊗ var 8) ⊕ (var 7 ⊗ (var 0 ⊗ var 6 ⊖ var 3 ⊖ var 1 ⊗ var 9) ⊕ lit (negsuc 0) ⊗ (var 4 ⊖ (var 2 ⊕ var 7 ⊗ var 3)))))
    (A ∷ T ∷ P₀ ∷ P₁ ∷ P ∷ t₀ ∷ t₁ ∷ z ∷ s₀ ∷ s₁ ∷ []) tt)

-- the remainder, with its sign
signed_step : (minus : Bool) (r₀ r₁ z r : ℕ) → z * r₁ + r ≡ r₀ → signed_by (not minus) r ≡ signed_by (not minus) r₀ +ℤ pos z *ℤ signed_by minus r₁
signed_step true r₀ r₁ z r e = eq_by (z_sub (ap pos e)) (ring4 (λ r₀ r₁ z r. r ≔ r₀ ⊕ z ⊗ neg r₁ ⊕ (z ⊗ r₁ ⊕ r ⊖ r₀)) tt (pos r₀) (pos r₁) (pos z) (pos r))
signed_step false r₀ r₁ z r e = eq_by (z-* (negsuc 0) (z_sub (ap pos e))) (ring4 (λ r₀ r₁ z r. neg r ≔ neg r₀ ⊕ z ⊗ r₁ ⊕ lit (negsuc 0) ⊗ (z ⊗ r₁ ⊕ r ⊖ r₀)) tt (pos r₀) (pos r₁) (pos z) (pos r))

sum_step : (r₀ r₁ t₀ t₁ z r D : ℕ) → z * r₁ + r ≡ r₀ → t₁ * r₀ + t₀ * r₁ ≡ D → (t₀ + z * t₁) * r₁ + t₁ * r ≡ D
sum_step r₀ r₁ t₀ t₁ z r D e h = omega (arith, ap (λ (n : ℕ). t₁ * n) e)

pub traced_step : {A r₀ r₁ t₀ t₁ : ℕ} {minus : Bool} → Traced A r₀ r₁ t₀ t₁ minus → limit < r₁ → Traced A r₁ (r₀ % r₁) t₁ (t₀ + r₀ / r₁ * t₁) (not minus)
traced_step {A} {r₀} {r₁} {t₀} {t₁} {minus} h l = record {
  sum = sum_step r₀ r₁ t₀ t₁ (r₀ / r₁) (r₀ % r₁) (2 ^ 61) (div-add-mod' r₀ r₁) h.sum;
  last = subst (λ (b : Bool). Fits 61 A (signed_by b r₁) t₁) (sym (not-not minus)) h.fits;
  fits = (
    h.last.0 +ℤ pos (r₀ / r₁) *ℤ h.fits.0,
    fits_step (pos A) (pos (2 ^ 61)) (signed_by (not minus) r₀) (signed_by minus r₁) (signed_by (not minus) (r₀ % r₁)) (pos t₀) (pos t₁) (pos (r₀ / r₁)) h.last.0 h.fits.0
        h.last.1 h.fits.1 (signed_step minus r₀ r₁ (r₀ / r₁) (r₀ % r₁) (div-add-mod' r₀ r₁)),
  );
  large = l;
}

-- the next cofactor fits 64 bits
pub traced_room : {A r₀ r₁ t₀ t₁ : ℕ} {minus : Bool} → Traced A r₀ r₁ t₀ t₁ minus → 1 ≤ r₁ → t₀ + r₀ / r₁ * t₁ ≤ 2 ^ 61
traced_room {A} {r₀} {r₁} {t₀} {t₁} h s = go (t₀ + r₀ / r₁ * t₁) (t₁ * (r₀ % r₁)) (sum_step r₀ r₁ t₀ t₁ (r₀ / r₁) (r₀ % r₁) (2 ^ 61) (div-add-mod' r₀ r₁) h.sum)
  where
    go : (t m : ℕ) → t * r₁ + m ≡ 2 ^ 61 → t ≤ 2 ^ 61
    go t m h = omega (arith, mul-le-mul_left t s)

-- a turn that stops at a remainder with the other sign
pub guessed_minus : {A r₀ r t₀ t : ℕ} → Traced A r₀ r t₀ t true → r ≤ limit → Guessed A (to_z w64 (of_z w64 (pos 0 -ℤ to_z w64 r))) t
guessed_minus {A} {r₀} {r} {t₀} {t} h l = record { r = r; minus = true; p_is = read; guess = record { r₀ = r₀; t₀ = t₀; traced = h; small = l } }
  where
    value_is : pos 0 -ℤ to_z w64 r ≡ neg_ℤ (pos r)
    value_is = rw (to_z_pos w64 r (omega arith)) (ring1 (λ x. # 0 ⊖ x ≔ neg x) tt (pos r))

    read : to_z w64 (of_z w64 (pos 0 -ℤ to_z w64 r)) ≡ neg_ℤ (pos r)
    read = back64 _ (omega (arith, ap nat_abs value_is, nat_abs_neg (pos r))) ∙ value_is

-- ---- the stop
-- a pair that fits, by the two vectors (-r₀, t₀) and (r₁, t₁), which span all that fits
record Spanned (T p q r₀ r₁ t₀ t₁ : ℤ) : Type 0 where
  c : ℤ
  d : ℤ
  p_is : p ≡ r₁ *ℤ c +ℤ r₀ *ℤ d
  q_is : q ≡ t₁ *ℤ c -ℤ t₀ *ℤ d
  cross : p *ℤ t₁ -ℤ r₁ *ℤ q ≡ T *ℤ d

spans : (T : ℕ) (A p q r₀ r₁ t₀ t₁ s s₀ s₁ : ℤ) → 0 < T → A *ℤ q -ℤ p ≡ pos T *ℤ s → A *ℤ t₀ -ℤ neg_ℤ r₀ ≡ pos T *ℤ s₀ → A *ℤ t₁ -ℤ r₁ ≡ pos T *ℤ s₁
    → t₁ *ℤ r₀ +ℤ t₀ *ℤ r₁ ≡ pos T → Spanned (pos T) p q r₀ r₁ t₀ t₁
spans T A p q r₀ r₁ t₀ t₁ s s₀ s₁ l h h₀ h₁ sum = record {
  c = s₀ *ℤ q -ℤ s *ℤ t₀;
  d = s₁ *ℤ q -ℤ s *ℤ t₁;
  p_is = eq_by (z-+ (z-* (negsuc 0) (z_sub h)) (z-+ (z-* (neg_ℤ q) (z_sub a_is)) (z-* s (z_sub sum))))
      (ring11 (λ A T p q r₀ r₁ t₀ t₁ s s₀ s₁. p ≔ r₁ ⊗ (s₀ ⊗ q ⊖ s ⊗ t₀) ⊕ r₀ ⊗ (s₁ ⊗ q ⊖ s ⊗ t₁) ⊕ (lit (negsuc 0) ⊗ (A ⊗ q ⊖ p ⊖ T ⊗ s) ⊕ (neg q ⊗ (r₁ ⊗ s₀ ⊕ r₀ ⊗ s₁ ⊖ A) ⊕ s ⊗ (t₁ ⊗ r₀ ⊕ t₀ ⊗ r₁ ⊖ T)))) tt A (pos T) p q r₀ r₁ t₀ t₁ s s₀ s₁);
  q_is = eq_by (z-* (neg_ℤ q) (z_sub one_is)) (ring11 (λ A T p q r₀ r₁ t₀ t₁ s s₀ s₁. q ≔ t₁ ⊗ (s₀ ⊗ q ⊖ s ⊗ t₀) ⊖ t₀ ⊗ (s₁ ⊗ q ⊖ s ⊗ t₁) ⊕ neg q ⊗ (t₁ ⊗ s₀ ⊖ t₀ ⊗ s₁ ⊖ # 1)) tt A (pos T) p q r₀ r₁ t₀ t₁ s s₀ s₁);
  cross = eq_by (z-+ (z-* (neg_ℤ t₁) (z_sub h)) (z-* q (z_sub h₁)))
      (ring11 (λ A T p q r₀ r₁ t₀ t₁ s s₀ s₁. (p ⊗ t₁ ⊖ r₁ ⊗ q) ≔ T ⊗ (s₁ ⊗ q ⊖ s ⊗ t₁) ⊕ (neg t₁ ⊗ (A ⊗ q ⊖ p ⊖ T ⊗ s) ⊕ q ⊗ (A ⊗ t₁ ⊖ r₁ ⊖ T ⊗ s₁))) tt A (pos T) p q r₀ r₁ t₀ t₁ s s₀ s₁);
}
  where
    a_is : r₁ *ℤ s₀ +ℤ r₀ *ℤ s₁ ≡ A
    a_is = cancel T (r₁ *ℤ s₀ +ℤ r₀ *ℤ s₁) A l
        (eq_by (z-+ (z-* (neg_ℤ r₁) (z_sub h₀)) (z-+ (z-* (neg_ℤ r₀) (z_sub h₁)) (z-* A (z_sub sum))))
        (ring11 (λ A T p q r₀ r₁ t₀ t₁ s s₀ s₁. (T ⊗ (r₁ ⊗ s₀ ⊕ r₀ ⊗ s₁)) ≔ T ⊗ A ⊕ (neg r₁ ⊗ (A ⊗ t₀ ⊖ neg r₀ ⊖ T ⊗ s₀) ⊕ (neg r₀ ⊗ (A ⊗ t₁ ⊖ r₁ ⊖ T ⊗ s₁) ⊕ A ⊗ (t₁ ⊗ r₀ ⊕ t₀ ⊗ r₁ ⊖ T)))) tt A (pos T) p q r₀ r₁ t₀ t₁ s s₀ s₁))

    one_is : t₁ *ℤ s₀ -ℤ t₀ *ℤ s₁ ≡ pos 1
    one_is = cancel T (t₁ *ℤ s₀ -ℤ t₀ *ℤ s₁) (pos 1) l
        (eq_by (z-+ (z-* (neg_ℤ t₁) (z_sub h₀)) (z-+ (z-* t₀ (z_sub h₁)) (z_sub sum)))
        (ring11 (λ A T p q r₀ r₁ t₀ t₁ s s₀ s₁. (T ⊗ (t₁ ⊗ s₀ ⊖ t₀ ⊗ s₁)) ≔ T ⊗ # 1 ⊕ (neg t₁ ⊗ (A ⊗ t₀ ⊖ neg r₀ ⊖ T ⊗ s₀) ⊕ (t₀ ⊗ (A ⊗ t₁ ⊖ r₁ ⊖ T ⊗ s₁) ⊕ (t₁ ⊗ r₀ ⊕ t₀ ⊗ r₁ ⊖ T)))) tt A (pos T) p q r₀ r₁ t₀ t₁ s s₀ s₁))

-- the share d of the first vector is 0, by the signs of c and d: p would be too large, or q not positive, or 2^61 at most 2 limit²
module _ (p : ℤ) (q r₀ r₁ t₀ t₁ : ℕ) (large : limit < r₀) (small : r₁ ≤ limit) (some : 1 ≤ q) (q_most : q ≤ limit) (p_most : nat_abs p ≤ limit) where
  share : (c d : ℤ) → p ≡ pos r₁ *ℤ c +ℤ pos r₀ *ℤ d → pos q ≡ pos t₁ *ℤ c -ℤ pos t₀ *ℤ d → p *ℤ pos t₁ -ℤ pos r₁ *ℤ pos q ≡ pos (2 ^ 61) *ℤ d → d ≡ pos 0
  share c (pos zero) ep eq x = refl
  share (pos a) (pos (suc k)) ep eq x = absurd (omega (arith, ap nat_abs ep))
  share (negsuc a) (pos (suc k)) ep eq x =
      absurd (omega (arith, eq_to eq, parts-- (pos t₁ *ℤ negsuc a) (pos t₀ *ℤ pos (suc k)), parts-* (pos t₁) (negsuc a)))
  share (negsuc a) (negsuc k) ep eq x =
      absurd (omega (arith, eq_to ep, nat_abs_is p, parts-+ (pos r₁ *ℤ negsuc a) (pos r₀ *ℤ negsuc k), parts-* (pos r₁) (negsuc a), parts-* (pos r₀) (negsuc k)))
  share (pos zero) (negsuc k) ep eq x =
      absurd (omega (arith, eq_to ep, nat_abs_is p, parts-+ (pos r₁ *ℤ pos zero) (pos r₀ *ℤ negsuc k), parts-* (pos r₀) (negsuc k)))
  share (pos (suc a)) (negsuc k) ep eq x = absurd (omega (arith, bound, ap nat_abs x, nat_abs-* (pos (2 ^ 61)) (negsuc k)))
    where
      t_most : t₁ ≤ limit
      t_most = omega (arith, eq_to eq, parts-- (pos t₁ *ℤ pos (suc a)) (pos t₀ *ℤ negsuc k), parts-* (pos t₀) (negsuc k))

      bound : nat_abs (p *ℤ pos t₁ -ℤ pos r₁ *ℤ pos q) ≤ limit * limit + limit * limit
      bound = abs-- (p *ℤ pos t₁) (pos r₁ *ℤ pos q) (abs-* p (pos t₁) p_most t_most) (abs-* (pos r₁) (pos q) small q_most)

-- what a pair inside that fits says of the guess
pub record Only (p : ℤ) (q : ℕ) (p' : ℤ) (t : ℕ) : Type 0 where
  pub odd : t % 2 ≡ 1
  pub most : t ≤ limit
  pub same : SameFraction p q p' t

only_plus : (A p : ℤ) (q r₀ r₁ t₀ t₁ : ℕ) (s s₀ s₁ : ℤ) → A *ℤ pos q -ℤ p ≡ pos (2 ^ 61) *ℤ s → A *ℤ pos t₀ -ℤ neg_ℤ (pos r₀) ≡ pos (2 ^ 61) *ℤ s₀
    → A *ℤ pos t₁ -ℤ pos r₁ ≡ pos (2 ^ 61) *ℤ s₁ → t₁ * r₀ + t₀ * r₁ ≡ 2 ^ 61 → limit < r₀ → r₁ ≤ limit → Inside p q → Only p q (pos r₁) t₁
only_plus A p q r₀ r₁ t₀ t₁ s s₀ s₁ h h₀ h₁ sum large small i = go sp.c sp.d sp.q_is sp.cross none
  where
    sp : Spanned (pos (2 ^ 61)) p (pos q) (pos r₀) (pos r₁) (pos t₀) (pos t₁)
    sp = spans (2 ^ 61) A p (pos q) (pos r₀) (pos r₁) (pos t₀) (pos t₁) s s₀ s₁ (pow_pos 61) h h₀ h₁ (ap pos sum)

    none : sp.d ≡ pos 0
    none = share p q r₀ r₁ t₀ t₁ large small i.some i.q_most i.p_most sp.c sp.d sp.p_is sp.q_is sp.cross

    go : (c d : ℤ) → pos q ≡ pos t₁ *ℤ c -ℤ pos t₀ *ℤ d → p *ℤ pos t₁ -ℤ pos r₁ *ℤ pos q ≡ pos (2 ^ 61) *ℤ d → d ≡ pos 0 → Only p q (pos r₁) t₁
    go c d eq x e = record { odd = odd_left t₁ (nat_abs c) (ap (λ (n : ℕ). n % 2) (sym times) ∙ i.odd); most = most (nat_abs c) times; same = eq_of_sub (p *ℤ pos t₁) (pos r₁ *ℤ pos q) (x ∙ ap (λ (z : ℤ). pos (2 ^ 61) *ℤ z) e) }
      where
        times : q ≡ t₁ * nat_abs c
        times = ap nat_abs (eq ∙ ap (λ (z : ℤ). pos t₁ *ℤ c -ℤ pos t₀ *ℤ z) e ∙ ring3 (λ t c u. t ⊗ c ⊖ u ⊗ # 0 ≔ t ⊗ c) tt (pos t₁) c (pos t₀)) ∙ nat_abs-* (pos t₁) c

        most : (m : ℕ) → q ≡ t₁ * m → t₁ ≤ limit
        most zero e = absurd (omega (arith, i.some))
        most (suc m) e = omega (arith, i.q_most)

-- all signs turned
turned : (A T x y y' s : ℤ) → A *ℤ x -ℤ y ≡ T *ℤ s → y' ≡ neg_ℤ y → neg_ℤ A *ℤ x -ℤ y' ≡ T *ℤ neg_ℤ s
turned A T x y y' s h e = eq_by (z-+ (z-* (negsuc 0) (z_sub h)) (z-* (negsuc 0) (z_sub e)))
    (ring6 (λ A T x y y' s. neg A ⊗ x ⊖ y' ≔ T ⊗ neg s ⊕ (lit (negsuc 0) ⊗ (A ⊗ x ⊖ y ⊖ T ⊗ s) ⊕ lit (negsuc 0) ⊗ (y' ⊖ neg y))) tt A T x y y' s)

pub guess_only : (A r t : ℕ) (minus : Bool) → Guess A r t minus → (p : ℤ) (q : ℕ) → Inside p q → Fits 61 A p q → Only p q (signed_by minus r) t
guess_only A r t false g p q i f =
    only_plus (pos A) p q g.r₀ r g.t₀ t f.0 g.traced.last.0 g.traced.fits.0 f.1 g.traced.last.1 g.traced.fits.1 g.traced.sum g.traced.large g.small i
guess_only A r t true g p q i f = record { odd = o.odd; most = o.most; same = back }
  where
    T : ℤ
    T = pos (2 ^ 61)

    o : Only (neg_ℤ p) q (pos r) t
    o = only_plus (neg_ℤ (pos A)) (neg_ℤ p) q g.r₀ r g.t₀ t (neg_ℤ f.0) (neg_ℤ g.traced.last.0) (neg_ℤ g.traced.fits.0)
        (turned (pos A) (pos (2 ^ 61)) (pos q) p (neg_ℤ p) f.0 f.1 refl)
        (turned (pos A) (pos (2 ^ 61)) (pos g.t₀) (pos g.r₀) (neg_ℤ (pos g.r₀)) g.traced.last.0 g.traced.last.1 refl)
        (turned (pos A) (pos (2 ^ 61)) (pos t) (neg_ℤ (pos r)) (pos r) g.traced.fits.0 g.traced.fits.1 (sym (neg_ℤ-neg_ℤ (pos r))))
        g.traced.sum g.traced.large g.small
        (record { odd = i.odd; some = i.some; q_most = i.q_most; p_most = omega (arith, nat_abs_neg p, i.p_most) })

    back : p *ℤ pos t ≡ neg_ℤ (pos r) *ℤ pos q
    back = eq_by (z-* (negsuc 0) (z_sub o.same)) (ring4 (λ p t r q. p ⊗ t ≔ neg r ⊗ q ⊕ lit (negsuc 0) ⊗ (neg p ⊗ t ⊖ r ⊗ q)) tt p (pos t) (pos r) (pos q))

-- ---- the two ends
pub fits_fewer : (bytes : List ℕ) (k n : ℕ) (p : ℤ) (q : ℕ) → q % 2 ≡ 1 → k ≤ n → Fits n (value bytes n) p q → Fits k (value bytes k) p q
fits_fewer bytes k n p q o l f = (fits_digits k bytes p q o).1 (λ i h. (fits_digits n bytes p q o).0 f i (omega arith))

module _ (bytes : List ℕ) (n r t : ℕ) (minus : Bool) (g : Guess (value bytes 61) r t minus) (l : 61 ≤ n) where
  pub guess_inside : t % 2 ≡ 1 → t ≤ limit → Inside (signed_by minus r) t
  guess_inside o m = record { odd = o; some = omega arith; q_most = m; p_most = omega (arith, signed_size minus r, g.small) }

  pub guess_smallest : t % 2 ≡ 1 → t ≤ limit → Fits n (value bytes n) (signed_by minus r) t → Smallest n (value bytes n) (signed_by minus r) t
  guess_smallest o m f = smallest_certified n (value bytes n) (signed_by minus r) t l (guess_inside o m) f
      (subst (Coprime t) (sym (signed_size minus r)) (power_coprime 61 t r g.r₀ g.t₀ o g.traced.sum))

  pub guess_none : (t % 2 ≡ 1 → t ≤ limit → Fits n (value bytes n) (signed_by minus r) t → ⊥) → NoneFits n (value bytes n)
  guess_none never p q i f =
      let o = guess_only (value bytes 61) r t minus g p q i (fits_fewer bytes 61 n p q i.odd l f) in
      never o.odd o.most (fits_same n (value bytes n) p q (signed_by minus r) t i.odd o.same f)

-- the guess as a pair: none where it is outside the limits, or does not fit
module _ (bytes : List ℕ) (n : ℕ) (l : 61 ≤ n) {a : ℕ} (ea : a ≡ value bytes 61) {p : ℤ} {q : ℕ} (G : Guessed a p q) where
  guess : Guess (value bytes 61) G.r q G.minus
  guess = subst (λ (a : ℕ). Guess a G.r q G.minus) ea G.guess

  pub guessed_none : (Inside p q → ⊥) → NoneFits n (value bytes n)
  guessed_none h = guess_none bytes n G.r q G.minus guess l (λ o m f. h (subst (λ (p : ℤ). Inside p q) (sym G.p_is) (guess_inside bytes n G.r q G.minus guess l o m)))

  pub guessed : {y : Fraction} → (y.p ≡ p) × (y.q ≡ q) × Inside y.p y.q → (b : Bool) → Decides (Fits n (value bytes n) y.p y.q) b
      → MatchOption (then_some b y) (NoneFits n (value bytes n)) (λ x. Smallest n (value bytes n) x.p x.q)
  guessed {y} h true f = go (h.0 ∙ G.p_is) h.1 f
    where
      go : y.p ≡ signed_by G.minus G.r → y.q ≡ q → Fits n (value bytes n) y.p y.q → Smallest n (value bytes n) y.p y.q
      go ep eq f = subst₂ (λ (p : ℤ) (q : ℕ). Smallest n (value bytes n) p q) (sym ep) (sym eq)
          (guess_smallest bytes n G.r q G.minus guess l (omega (arith, h.2.odd)) (omega (arith, h.2.q_most)) (subst₂ (λ (p : ℤ) (q : ℕ). Fits n (value bytes n) p q) ep eq f))
  guessed {y} h false never =
      guess_none bytes n G.r q G.minus guess l (λ o m f. never (subst₂ (λ (p : ℤ) (q : ℕ). Fits n (value bytes n) p q) (sym (h.0 ∙ G.p_is)) (sym h.1) f))
