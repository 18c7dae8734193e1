-- The lemma that carries the search, for any norm N on pairs: where g is shortest among the combinations c f + d g with d odd, and f among those with
-- c odd and d even, the shorter of g + f, g − f is shortest among those with c and d odd. Nothing here knows of bits.
use mathlib.Core.Path.{◌≡◌, refl, sym, ◌∙◌, ap, ap₂, subst}
use mathlib.Core.Logic.{◌⊎◌, inl, inr}
use Prim.Native.Nat.{ℕ, suc, ◌+◌, ◌*◌, ◌-◌, ◌<◌, ◌≤◌}
use native.Mathlib.Omega.{arith}
use native.Mathlib.Nat.{mul-le-mul_left, mul-le-mul_right, le_of_mul-le-mul_left, le_dest}
use native.Mathlib.Decide.{dec_le}
use lib.IntN.{ℤ, pos, negsuc, neg_ℤ, ◌+ℤ◌, ◌-ℤ◌, ◌*ℤ◌, nat_abs}
use Rattle.integers.specs.Numbers.{Odd, Even}
use Rattle.integers.proofs.Ring.{lit, ◌⊕◌, ◌⊗◌, neg, ring1, ring2, ring4, ring5, ◌≔◌}
use Rattle.integers.proofs.Parts.{from_eq}

pub record Norm (N : ℤ → ℤ → ℕ) : Type 0 where
  pub tri : (x1 x2 y1 y2 : ℤ) → N (x1 +ℤ y1) (x2 +ℤ y2) ≤ N x1 x2 + N y1 y2
  pub hom : (c x1 x2 : ℤ) → N (c *ℤ x1) (c *ℤ x2) ≡ nat_abs c * N x1 x2

-- c f + d g
abbrev pub lc : ℤ → ℤ → ℤ → ℤ → ℤ
lc c d f g = c *ℤ f +ℤ d *ℤ g

-- the four identities of the paper proof
i1 : (n t f g : ℤ) → (n +ℤ t) *ℤ (g +ℤ f) ≡ pos 1 *ℤ lc (n +ℤ t) n f g +ℤ t *ℤ g
i1 = ring4 (λ n t f g. (n ⊕ t) ⊗ (g ⊕ f) ≔ lit (pos 1) ⊗ ((n ⊕ t) ⊗ f ⊕ n ⊗ g) ⊕ t ⊗ g) tt

i2 : (f g : ℤ) → pos 2 *ℤ (g +ℤ f) ≡ pos 1 *ℤ lc (pos 1) (pos 2) f g +ℤ pos 1 *ℤ f
i2 = ring2 (λ f g. lit (pos 2) ⊗ (g ⊕ f) ≔ lit (pos 1) ⊗ (lit (pos 1) ⊗ f ⊕ lit (pos 2) ⊗ g) ⊕ lit (pos 1) ⊗ f) tt

i3 : (m n t f g : ℤ) → pos 2 *ℤ m ≡ n +ℤ t → m *ℤ lc (pos 1) (pos 2) f g ≡ pos 1 *ℤ lc m n f g +ℤ t *ℤ g
i3 m n t f g h = from_eq g h (ring5 (λ m n t f g. m ⊗ (lit (pos 1) ⊗ f ⊕ lit (pos 2) ⊗ g) ⊕ g ⊗ (n ⊕ t) ≔ lit (pos 1) ⊗ (m ⊗ f ⊕ n ⊗ g) ⊕ t ⊗ g ⊕ g ⊗ (lit (pos 2) ⊗ m)) tt m n t f g)

i4 : (m t f g : ℤ) → (pos 2 *ℤ m +ℤ t) *ℤ lc (pos 1) (pos 2) f g ≡ pos 2 *ℤ lc m (pos 2 *ℤ m +ℤ t) f g +ℤ t *ℤ f
i4 = ring4 (λ m t f g. (lit (pos 2) ⊗ m ⊕ t) ⊗ (lit (pos 1) ⊗ f ⊕ lit (pos 2) ⊗ g) ≔ lit (pos 2) ⊗ (m ⊗ f ⊕ (lit (pos 2) ⊗ m ⊕ t) ⊗ g) ⊕ t ⊗ f) tt

module _ (N : ℤ → ℤ → ℕ) (L : Norm N) where
  comb : (a b t : ℕ) (u1 u2 v1 v2 w1 w2 : ℤ) → pos a *ℤ u1 ≡ pos b *ℤ v1 +ℤ pos t *ℤ w1 → pos a *ℤ u2 ≡ pos b *ℤ v2 +ℤ pos t *ℤ w2
      → a * N u1 u2 ≤ b * N v1 v2 + t * N w1 w2
  comb a b t u1 u2 v1 v2 w1 w2 e1 e2 = omega (arith, L.hom (pos a) u1 u2, ap₂ N e1 e2, L.tri (pos b *ℤ v1) (pos b *ℤ v2) (pos t *ℤ w1) (pos t *ℤ w2), L.hom (pos b) v1 v2, L.hom (pos t) w1 w2)

  N_neg : (x y : ℤ) → N (neg_ℤ x) (neg_ℤ y) ≡ N x y
  N_neg x y = omega (arith, L.hom (negsuc 0) x y, ap₂ N (neg_one x) (neg_one y))
    where
      neg_one : (z : ℤ) → neg_ℤ z ≡ negsuc 0 *ℤ z
      neg_one = ring1 (λ z. neg z ≔ lit (negsuc 0) ⊗ z) tt

  module _ (f1 f2 g1 g2 : ℤ) where
    abbrev Y : ℕ → ℕ → ℕ
    Y m n = N (lc (pos m) (pos n) f1 g1) (lc (pos m) (pos n) f2 g2)

    A : ℕ
    A = N (g1 +ℤ f1) (g2 +ℤ f2)

    B : ℕ
    B = N (lc (pos 1) (pos 2) f1 g1) (lc (pos 1) (pos 2) f2 g2)

    -- n ≤ m
    case1 : (n t : ℕ) → 1 ≤ n → N g1 g2 ≤ Y (n + t) n → A ≤ Y (n + t) n
    unfolding A
    case1 n t p h1 = le_of_mul-le-mul_left {k = n + t} (omega (
      arith,
      mul-le-mul_left t h1,
      mul-le-mul_right (Y (n + t) n) p,
      comb (n + t) 1 t (g1 +ℤ f1) (g2 +ℤ f2) (lc (pos (n + t)) (pos n) f1 g1) (lc (pos (n + t)) (pos n) f2 g2) g1 g2 (i1 (pos n) (pos t) f1 g1) (i1 (pos n) (pos t) f2 g2),
    )) (omega arith)

    step : N f1 f2 ≤ B → A ≤ B
    unfolding A B
    step h2 = omega (arith, comb 2 1 1 (g1 +ℤ f1) (g2 +ℤ f2) (lc (pos 1) (pos 2) f1 g1) (lc (pos 1) (pos 2) f2 g2) f1 f2 (i2 f1 g1) (i2 f2 g2))

    case2 : (m n t : ℕ) → m < n → 2 * m ≡ n + t → N g1 g2 ≤ Y m n → B ≤ Y m n
    unfolding B
    case2 m n t p e h1 = let q : suc t ≤ m = omega arith in le_of_mul-le-mul_left {k = m} (omega (
      arith,
      mul-le-mul_left t h1,
      mul-le-mul_right (Y m n) q,
      comb m 1 t (lc (pos 1) (pos 2) f1 g1) (lc (pos 1) (pos 2) f2 g2) (lc (pos m) (pos n) f1 g1) (lc (pos m) (pos n) f2 g2) g1 g2 (i3 (pos m) (pos n) (pos t) f1 g1 (ap pos e)) (i3 (pos m) (pos n) (pos t) f2 g2 (ap pos e)),
    )) (omega arith)

    case3 : (m t : ℕ) → 1 ≤ m → N f1 f2 ≤ B → B ≤ Y m (2 * m + t)
    unfolding B
    case3 m t p h2 = omega (
      arith,
      mul-le-mul_left t h2,
      mul-le-mul_right B p,
      comb (2 * m + t) 2 t (lc (pos 1) (pos 2) f1 g1) (lc (pos 1) (pos 2) f2 g2) (lc (pos m) (pos (2 * m + t)) f1 g1) (lc (pos m) (pos (2 * m + t)) f2 g2) f1 f2
          (i4 (pos m) (pos t) f1 g1) (i4 (pos m) (pos t) f2 g2),
    )

    core : (m n : ℕ) → 1 ≤ m → 1 ≤ n → N g1 g2 ≤ Y m n → N f1 f2 ≤ B → A ≤ Y m n
    core m n p q h1 h2 = elim (dec_le n m) [ yes l ↦ at_least (le_dest l) | no l ↦ below (omega arith) (dec_le n (2 * m)) ]
      where
        at_least : (t : ℕ) × (n + t ≡ m) → A ≤ Y m n
        at_least w = subst (λ (m : ℕ). N g1 g2 ≤ Y m n → A ≤ Y m n) w.1 (case1 n w.0 q) h1

        below : m < n → Dec (n ≤ 2 * m) → A ≤ Y m n
        below r (yes l) = let t = le_dest l in omega (arith, step h2, case2 m n t.0 r (sym t.1) h1)
        below r (no l) = omega (arith, step h2, subst (λ (n : ℕ). B ≤ Y m n) (sub_eq n m (omega arith)) (case3 m (n - 2 * m) p h2))
          where
            sub_eq : (n m : ℕ) → 2 * m < n → 2 * m + (n - 2 * m) ≡ n
            sub_eq n m h = omega arith

-- the shorter of g + f, g − f
module _ (N : ℤ → ℤ → ℕ) (L : Norm N) (f1 f2 g1 g2 : ℤ)
    (H1 : (c d : ℤ) → Odd d → N g1 g2 ≤ N (lc c d f1 g1) (lc c d f2 g2))
    (H2 : (c d : ℤ) → Odd c → Even d → N f1 f2 ≤ N (lc c d f1 g1) (lc c d f2 g2)) where
  abbrev pub Goal : ℤ → ℤ → Type 0
  Goal c d = (N (g1 +ℤ f1) (g2 +ℤ f2) ≤ N (lc c d f1 g1) (lc c d f2 g2)) ⊎ (N (g1 -ℤ f1) (g2 -ℤ f2) ≤ N (lc c d f1 g1) (lc c d f2 g2))

  -- the signs: a combination of f and g is, up to its sign, one of f or −f and g with factors not negative
  s1 : (c d f g : ℤ) → lc (neg_ℤ c) (neg_ℤ d) f g ≡ neg_ℤ (lc c d f g)
  s1 = ring4 (λ c d f g. neg c ⊗ f ⊕ neg d ⊗ g ≔ neg (c ⊗ f ⊕ d ⊗ g)) tt

  s2 : (c d f g : ℤ) → lc (neg_ℤ c) d f g ≡ lc c d (neg_ℤ f) g
  s2 = ring4 (λ c d f g. neg c ⊗ f ⊕ d ⊗ g ≔ c ⊗ neg f ⊕ d ⊗ g) tt

  s3 : (c d f g : ℤ) → lc c (neg_ℤ d) f g ≡ neg_ℤ (lc c d (neg_ℤ f) g)
  s3 = ring4 (λ c d f g. c ⊗ f ⊕ neg d ⊗ g ≔ neg (c ⊗ neg f ⊕ d ⊗ g)) tt

  plus : (m n : ℕ) → 1 ≤ m → 1 ≤ n → N g1 g2 ≤ N (lc (pos m) (pos n) f1 g1) (lc (pos m) (pos n) f2 g2)
      → N (g1 +ℤ f1) (g2 +ℤ f2) ≤ N (lc (pos m) (pos n) f1 g1) (lc (pos m) (pos n) f2 g2)
  unfolding A B
  plus m n p q h = core N L f1 f2 g1 g2 m n p q h (H2 (pos 1) (pos 2) refl refl)

  minus : (m n : ℕ) → 1 ≤ m → 1 ≤ n → N g1 g2 ≤ N (lc (pos m) (pos n) (neg_ℤ f1) g1) (lc (pos m) (pos n) (neg_ℤ f2) g2)
      → N (g1 -ℤ f1) (g2 -ℤ f2) ≤ N (lc (pos m) (pos n) (neg_ℤ f1) g1) (lc (pos m) (pos n) (neg_ℤ f2) g2)
  unfolding A B
  minus m n p q h = core N L (neg_ℤ f1) (neg_ℤ f2) g1 g2 m n p q h
      (omega (arith, N_neg N L f1 f2, H2 (negsuc 0) (pos 2) refl refl, ap₂ N (s2 (pos 1) (pos 2) f1 g1) (s2 (pos 1) (pos 2) f2 g2)))

  pub shortest : (c d : ℤ) → Odd c → Odd d → Goal c d
  shortest (pos m) (pos n) p q = inl (plus m n (omega arith) (omega arith) (H1 (pos m) (pos n) q))
  shortest (negsuc m) (negsuc n) p q = inl (rw e (plus (suc m) (suc n) (omega arith) (omega arith) (rw e at (H1 (negsuc m) (negsuc n) q))))
    where
      e : N (lc (negsuc m) (negsuc n) f1 g1) (lc (negsuc m) (negsuc n) f2 g2) ≡ N (lc (pos (suc m)) (pos (suc n)) f1 g1) (lc (pos (suc m)) (pos (suc n)) f2 g2)
      e = ap₂ N (s1 (pos (suc m)) (pos (suc n)) f1 g1) (s1 (pos (suc m)) (pos (suc n)) f2 g2) ∙ N_neg N L _ _
  shortest (negsuc m) (pos n) p q = inr (rw e (minus (suc m) n (omega arith) (omega arith) (rw e at (H1 (negsuc m) (pos n) q))))
    where
      e : N (lc (negsuc m) (pos n) f1 g1) (lc (negsuc m) (pos n) f2 g2) ≡ N (lc (pos (suc m)) (pos n) (neg_ℤ f1) g1) (lc (pos (suc m)) (pos n) (neg_ℤ f2) g2)
      e = ap₂ N (s2 (pos (suc m)) (pos n) f1 g1) (s2 (pos (suc m)) (pos n) f2 g2)
  shortest (pos m) (negsuc n) p q = inr (rw e (minus m (suc n) (omega arith) (omega arith) (rw e at (H1 (pos m) (negsuc n) q))))
    where
      e : N (lc (pos m) (negsuc n) f1 g1) (lc (pos m) (negsuc n) f2 g2) ≡ N (lc (pos m) (pos (suc n)) (neg_ℤ f1) g1) (lc (pos m) (pos (suc n)) (neg_ℤ f2) g2)
      e = ap₂ N (s3 (pos m) (pos (suc n)) f1 g1) (s3 (pos m) (pos (suc n)) f2 g2) ∙ N_neg N L _ _
