-- Loading a pair inside the limits never gives a memory outside -2^30 to 2^30: y is at most r·2^r, and so m at most |p|/2^r + r.
use mathlib.Core.Path.{◌≡◌, sym, ap, ◌∙◌}
use mathlib.Core.Logic.{inl, inr}
use Prim.Native.Nat.{ℕ, zero, suc, ◌+◌, ◌-◌, ◌*◌, ◌^◌, ◌≤◌, ◌<◌}
use native.Mathlib.Omega.{arith}
use native.Mathlib.Nat.{pow-suc, mul-le-mul, mul-le-mul_right}
use lib.Pow.{pow_mono}
use lib.IntN.{ℤ, pos, neg_ℤ, nat_abs, ◌-ℤ◌, ◌*ℤ◌}
use Rattle.integers.proofs.Parts.{nat_abs-+, nat_abs-*, nat_abs_neg}
use Rattle.integers.proofs.Finite.{le_or_gt}
use Rattle.integers.proofs.Log2.{log2_step}
use Rattle.registers.proofs.Validity.{few}
use Rattle.fractions.specs.Pairs.{Inside}
use Rattle.registers.specs.Registers.{cell_count, tap, cell, sum_below, y_to, Load}
use Rattle.registers.specs.declared.Register.{Register}

-- sums of terms that are small, and of terms that double
sum_small : (n : ℕ) (f : ℕ → ℤ) (B : ℕ) → ((i : ℕ) → nat_abs (f i) ≤ B) → nat_abs (sum_below n f) ≤ n * B
unfolding sum_below
sum_small zero f B h = omega arith
sum_small (suc n) f B h = omega (arith, nat_abs-+ (sum_below n f) (f n), sum_small n f B h, h n)

sum_doubling : (n : ℕ) (f : ℕ → ℤ) (B : ℕ) → ((i : ℕ) → i < n → nat_abs (f i) ≤ B * 2 ^ i) → nat_abs (sum_below n f) ≤ B * 2 ^ n
unfolding sum_below
sum_doubling zero f B h = omega arith
sum_doubling (suc n) f B h =
    rw (pow-suc 2 n) (omega (arith, nat_abs-+ (sum_below n f) (f n), sum_doubling n f B (λ i l. h i (omega arith)), h n (omega arith)))

tap_small : (q k : ℕ) → nat_abs (tap q k) ≤ 1
tap_small q zero = omega arith
tap_small q (suc k) = omega arith

term_small : (q a j k W : ℕ) → nat_abs (tap q j *ℤ cell a k *ℤ pos W) ≤ W
term_small q a j k W =
    rw (nat_abs-* (tap q j *ℤ cell a k) (pos W), nat_abs-* (tap q j) (cell a k))
    (let h : nat_abs (tap q j) * nat_abs (cell a k) ≤ 1 = mul-le-mul {n₂ = 1} {m₂ = 1} (tap_small q j) (omega arith) in
    omega (arith, mul-le-mul_right W h))

y_small : (q a r : ℕ) → nat_abs (y_to q a r) ≤ r * 2 ^ r
unfolding y_to
y_small q a r =
    sum_doubling r (λ i. sum_below (suc i) (λ j. tap q j *ℤ cell a (i - j) *ℤ pos (2 ^ i))) r
    (λ i l. omega (arith, sum_small (suc i) (λ j. tap q j *ℤ cell a (i - j) *ℤ pos (2 ^ i)) (2 ^ i) (λ j. term_small q a j (i - j) (2 ^ i)), mul-le-mul_right (2 ^ i) l))

pub load_narrow : (p : ℤ) (q : ℕ) (g : Register) → Inside p q → Load p q g → nat_abs g.memory ≤ 2 ^ 30
load_narrow p q g i l =
    let r = cell_count q in
    let most = few q (omega (arith, i.q_most)) in
    let two : 2 ≤ 2 ^ r = pow_mono {i = 1} {j = r} (omega (arith, log2_step (q + 1) (omega (arith, i.some)))) in
    let y = y_to q g.cells r in
    let e : nat_abs g.memory * 2 ^ r ≡ nat_abs (y -ℤ p) = sym (nat_abs-* g.memory (pos (2 ^ r))) ∙ ap nat_abs l.memory in
    elim (le_or_gt (nat_abs g.memory) (2 ^ 30)) [
      | inl h ↦ h
      | inr h ↦ absurd (omega (arith, i.p_most, nat_abs-+ y (neg_ℤ p), nat_abs_neg p, y_small q g.cells r, mul-le-mul_right (2 ^ r) most, mul-le-mul_right (2 ^ r) h))
    ]
