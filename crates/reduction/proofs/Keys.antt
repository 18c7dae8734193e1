-- The key max(|p|, |q|) M² + |p| M + |q|: a norm, and for pairs below M the order of the document up to the sign: size, then |p|, then |q|.
use mathlib.Core.Path.{◌≡◌, ◌∙◌, ap, ap₂}
use mathlib.Core.Logic.{◌⊎◌, inl, inr, ◌↔◌}
use Prim.Native.Nat.{ℕ, suc, ◌+◌, ◌*◌, ◌<◌, ◌≤◌, max}
use native.Mathlib.Omega.{arith}
use native.Mathlib.Nat.{mul-le-mul_left, mul-le-mul_right, max-eq_left, max-eq_right}
use native.Mathlib.Decide.{dec_le}
use lib.IntN.{ℤ, ◌+ℤ◌, nat_abs}
use Rattle.integers.proofs.Parts.{nat_abs-+, nat_abs-*}
use Rattle.reduction.specs.Vectors.{size, norm, Lex}
use Rattle.reduction.proofs.Norm.{Norm}

max_mul : (c a b : ℕ) → max (c * a) (c * b) ≡ c * max a b
max_mul c a b = elim (dec_le a b) [ yes h ↦ rw (max-eq_right h, max-eq_right (mul-le-mul_left c h)) | no h ↦ other (omega arith) ]
  where
    other : b ≤ a → max (c * a) (c * b) ≡ c * max a b
    other h = rw (max-eq_left h, max-eq_left (mul-le-mul_left c h))

size_mul : (M c a b : ℕ) → size M (c * a) (c * b) ≡ c * size M a b
unfolding size
size_mul M c a b = rw max_mul (omega arith)

size_le : (M a b c d e f : ℕ) → a ≤ c + e → b ≤ d + f → size M a b ≤ size M c d + size M e f
unfolding size
size_le M a b c d e f h k = let l : max a b ≤ max c d + max e f = omega arith in
    omega (arith, mul-le-mul_right (M * M) l, mul-le-mul_right M h)

pub norm_is : (M : ℕ) → Norm (norm M)
unfolding norm
norm_is M = record {
  tri = λ x1 x2 y1 y2. size_le M (nat_abs (x1 +ℤ y1)) (nat_abs (x2 +ℤ y2)) (nat_abs x1) (nat_abs x2) (nat_abs y1) (nat_abs y2) (nat_abs-+ x1 y1) (nat_abs-+ x2 y2);
  hom = λ c x1 x2. ap₂ (size M) (nat_abs-* c x1) (nat_abs-* c x2) ∙ size_mul M (nat_abs c) (nat_abs x1) (nat_abs x2);
}

abbrev pub Before : ℤ → ℤ → ℤ → ℤ → Type 0
Before p q p' q' = Lex (nat_abs p) (nat_abs q) (nat_abs p') (nat_abs q')

-- numbers x M + r with r below M go by x, then r
digits : (M x r y s : ℕ) → r < M → s < M → x * M + r ≤ y * M + s → (x < y) ⊎ ((x ≡ y) × (r ≤ s))
digits M x r y s hr hs h = elim (dec_le (suc x) y) [ yes l ↦ inl l | no l ↦ inr (same (elim (dec_le x y) [ yes k ↦ omega arith | no k ↦ absurd (over (omega arith)) ])) ]
  where
    over : y < x → ⊥
    over k = omega (arith, mul-le-mul_right M k)

    same : x ≡ y → (x ≡ y) × (r ≤ s)
    same e = (e, omega (arith, ap (λ (n : ℕ). n * M) e))

digits⁻ : (M x r y s : ℕ) → r < M → (x < y) ⊎ ((x ≡ y) × (r ≤ s)) → x * M + r ≤ y * M + s
digits⁻ M x r y s hr (inl l) = omega (arith, mul-le-mul_right M l)
digits⁻ M x r y s hr (inr e) = omega (arith, ap (λ (n : ℕ). n * M) e.0)

module _ (M a b c d : ℕ) (ha : a < M) (hb : b < M) (hc : c < M) (hd : d < M) where
  lex_of : size M a b ≤ size M c d → Lex a b c d
  unfolding size
  lex_of h = elim (digits M (max a b * M + a) b (max c d * M + c) d hb hd (omega arith)) [
    | inl l ↦ first (digits M (max a b) a (max c d) c ha hc (omega arith)) l
    | inr e ↦ second (digits M (max a b) a (max c d) c ha hc (omega arith)) e.0 e.1
  ]
    where
      first : (max a b < max c d) ⊎ ((max a b ≡ max c d) × (a ≤ c)) → max a b * M + a < max c d * M + c → Lex a b c d
      first (inl l) k = inl l
      first (inr e) k = inr (e.0, inl (omega (arith, ap (λ (n : ℕ). n * M) e.0)))

      second : (max a b < max c d) ⊎ ((max a b ≡ max c d) × (a ≤ c)) → max a b * M + a ≡ max c d * M + c → b ≤ d → Lex a b c d
      second (inl l) k h = inl l
      second (inr e) k h = inr (e.0, inr (omega (arith, ap (λ (n : ℕ). n * M) e.0), h))

  lex_to : Lex a b c d → size M a b ≤ size M c d
  unfolding size
  lex_to (inl l) = omega (arith, digits⁻ M (max a b * M + a) b (max c d * M + c) d hb (inl (omega (arith, mul-le-mul_right M l))))
  lex_to (inr e) = elim e.1 [
    | inl l ↦ omega (arith, digits⁻ M (max a b * M + a) b (max c d * M + c) d hb (inl (omega (arith, ap (λ (n : ℕ). n * M) e.0))))
    | inr k ↦ omega (arith, digits⁻ M (max a b * M + a) b (max c d * M + c) d hb (inr (omega (arith, ap (λ (n : ℕ). n * M) e.0), k.1)))
  ]

below : (M a b c d : ℕ) → c < M → d < M → size M a b ≤ size M c d → max a b ≤ max c d
unfolding size
below M a b c d hc hd h = elim (dec_le (max a b) (max c d)) [ yes l ↦ l | no l ↦ absurd (over (max a b) (max c d) (omega arith) h) ]
  where
    over : (x y : ℕ) → y < x → x * (M * M) + a * M + b ≤ y * (M * M) + c * M + d → ⊥
    over x y l h = omega (arith, mul-le-mul_right (M * M) l, mul-le-mul_right M hc)

-- the key's order is the document's, for pairs below M
pub before_iff : (M : ℕ) (p q p' q' : ℤ) → nat_abs p < M → nat_abs q < M → nat_abs p' < M → nat_abs q' < M → (norm M p q ≤ norm M p' q') ↔ Before p q p' q'
unfolding norm
before_iff M p q p' q' h k h' k' = (lex_of M (nat_abs p) (nat_abs q) (nat_abs p') (nat_abs q') h k h' k', lex_to M (nat_abs p) (nat_abs q) (nat_abs p') (nat_abs q') h k h' k')

-- what has a smaller key than a pair below M is no larger than it
pub no_larger : (M : ℕ) (p q p' q' : ℤ) → nat_abs p' < M → nat_abs q' < M → norm M p q ≤ norm M p' q' → max (nat_abs p) (nat_abs q) ≤ max (nat_abs p') (nat_abs q')
unfolding norm
no_larger M p q p' q' h' k' l = below M (nat_abs p) (nat_abs q) (nat_abs p') (nat_abs q') h' k' l

-- so only the second pair need be below M
pub before_of : (M : ℕ) (p q p' q' : ℤ) → nat_abs p' < M → nat_abs q' < M → norm M p q ≤ norm M p' q' → Before p q p' q'
before_of M p q p' q' h' k' l = let e = no_larger M p q p' q' h' k' l in (before_iff M p q p' q' (omega arith) (omega arith) h' k').0 l
