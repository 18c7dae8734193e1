-- The output word by wrapping arithmetic: p's residue times the inverse of q.
use Rattle.std.proofs.Common.{FitsSigned, ◌≡◌, ℕ, ◌+◌, ◌*◌, ◌/◌, ◌%◌, ◌^◌, ℤ, pos, negsuc, ◌+ℤ◌, ◌-ℤ◌, ◌*ℤ◌, ap, ◌∙◌, mod-eq_of_lt, div-add-mod', mul-one, arith}
use Rattle.std.specs.Int.{w64, cast_unsigned}
use Rattle.integers.proofs.Modulo.{mul_mod_l, cong_r}
use Rattle.integers.proofs.Ring.{#, ◌⊕◌, ◌⊗◌, ◌⊖◌, ring2, ring3, ring4, ◌≔◌}
use Rattle.fractions.specs.Pairs.{Fits}
use Rattle.fractions.specs.Inner.{Residue}

-- the machine's 64 bits of p
pub residue_wraps : (p : ℤ) → FitsSigned w64 p → Residue p (cast_unsigned w64 p)
residue_wraps (pos n) h = record { low = omega (arith, h.sfits); times = pos 0; is = ring2 (λ n T. n ⊖ n ≔ T ⊗ # 0) tt (pos n) (pos (2 ^ 64)) }
residue_wraps (negsuc n) h = record { low = omega arith; times = pos 1; is = ap pos (omega (arith, h.sfits)) }

pub word_fits : (p : ℤ) (q r v u : ℕ) → Residue p r → q * v % 2 ^ 64 ≡ 1 → u ≡ r * v % 2 ^ 64 → Fits 64 u p q
word_fits p q r v u R i e = (pos (u * q / 2 ^ 64) +ℤ R.times, over)
  where
    swap : (r v q : ℕ) → r * v * q ≡ r * (q * v)
    swap r v q = omega arith

    low : u * q % 2 ^ 64 ≡ r
    low = ap (λ (n : ℕ). n * q % 2 ^ 64) e ∙ mul_mod_l (2 ^ 64) (r * v) q ∙ ap (λ (n : ℕ). n % 2 ^ 64) (swap r v q)
        ∙ cong_r (2 ^ 64) r (q * v) 1 i ∙ ap (λ (n : ℕ). n % 2 ^ 64) (mul-one r) ∙ mod-eq_of_lt R.low

    whole : u * q ≡ 2 ^ 64 * (u * q / 2 ^ 64) + r
    whole = omega (arith, div-add-mod' (u * q) (2 ^ 64), low)

    over : pos u *ℤ pos q -ℤ p ≡ pos (2 ^ 64) *ℤ (pos (u * q / 2 ^ 64) +ℤ R.times)
    over = ap (λ (n : ℕ). pos n -ℤ p) whole ∙ ring4 (λ T m r p. T ⊗ m ⊕ r ⊖ p ≔ T ⊗ m ⊕ (r ⊖ p)) tt (pos (2 ^ 64)) (pos (u * q / 2 ^ 64)) (pos r) p
        ∙ ap (λ (z : ℤ). pos (2 ^ 64) *ℤ pos (u * q / 2 ^ 64) +ℤ z) R.is
        ∙ ring3 (λ T m t. T ⊗ m ⊕ T ⊗ t ≔ T ⊗ (m ⊕ t)) tt (pos (2 ^ 64)) (pos (u * q / 2 ^ 64)) R.times
