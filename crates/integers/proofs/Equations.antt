-- Equations over ℤ from equations, and products that are 0.
use Rattle.std.proofs.Common.{◌≡◌, zero, suc, ◌⊎◌, ℤ, pos, negsuc, ◌+ℤ◌, ◌-ℤ◌, ◌*ℤ◌, neg_ℤ, nat_abs, refl, ap, ◌∙◌, ap₂, inl, inr, arith}
use lib.IntN.{*ℤ-zero}
use Rattle.integers.proofs.Parts.{zarith, nat_abs-*, parts-+, up_neg, down_neg}

-- a ≡ b, where a = b + s and s is a combination of what is 0
pub z_sub : {l r : ℤ} → l ≡ r → l -ℤ r ≡ pos 0
z_sub {l} {r} h = omega (zarith, parts-+ l (neg_ℤ r), up_neg r, down_neg r)

pub z-+ : {x y : ℤ} → x ≡ pos 0 → y ≡ pos 0 → x +ℤ y ≡ pos 0
z-+ h k = ap₂ (λ (x y : ℤ). x +ℤ y) h k

pub z-* : (c : ℤ) {x : ℤ} → x ≡ pos 0 → c *ℤ x ≡ pos 0
z-* c h = ap (λ (x : ℤ). c *ℤ x) h ∙ *ℤ-zero c

pub eq_by : {a b s : ℤ} → s ≡ pos 0 → a ≡ b +ℤ s → a ≡ b
eq_by {a} {b} {s} h e = omega (zarith, parts-+ b s)

-- a product is 0 only where a factor is
pub mul_zero_cases : (x y : ℤ) → x *ℤ y ≡ pos 0 → (x ≡ pos 0) ⊎ (y ≡ pos 0)
mul_zero_cases (pos zero) y h = inl refl
mul_zero_cases (pos (suc a)) (pos zero) h = inr refl
mul_zero_cases (pos (suc a)) (pos (suc b)) h = absurd (omega (arith, ap nat_abs h))
mul_zero_cases (pos (suc a)) (negsuc b) h = absurd (omega (arith, ap nat_abs h, nat_abs-* (pos (suc a)) (negsuc b)))
mul_zero_cases (negsuc a) (pos zero) h = inr refl
mul_zero_cases (negsuc a) (pos (suc b)) h = absurd (omega (arith, ap nat_abs h, nat_abs-* (negsuc a) (pos (suc b))))
mul_zero_cases (negsuc a) (negsuc b) h = absurd (omega (arith, ap nat_abs h))
