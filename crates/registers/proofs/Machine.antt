-- The sums of a valid register as the machine makes them, in 64 bits: nothing wraps.
--
--   advanced   the parity and the half of the memory and the taps' sum give the register after a step
--   made       the numerator's sum, product and difference fit
--   rested     so do the sum and its opposite that loading takes for the memory
use Rattle.std.proofs.Common.{◌≡◌, ℕ, ◌+◌, ◌-◌, ◌*◌, ◌/◌, ◌%◌, ◌^◌, ◌<◌, ◌≤◌, refl, sym, ap, neg_ℤ, ◌∙◌, mul-le-mul, arith, pow_mono, ℤ, pos, ◌+ℤ◌, ◌-ℤ◌, ◌*ℤ◌, nat_abs, w32, w64, to_z, of_z, SFits, mul-le-mul_right, mod-eq_of_lt}
use Rattle.std.proofs.lemmas.Int.{ints}
use mir.ValLaws.{to_z_pos}
use lib.Bits.{bit_and}
use lib.Dec.{eqb}
use Rattle.std.specs.Int.{from_bool}
use Rattle.integers.specs.Numbers.{odd_z, half_z}
use Rattle.integers.proofs.Parts.{nat_abs-+, nat_abs-*}
use Rattle.integers.proofs.Sizes.{back32, back64, fits64, odd_lt, abs--}
use Rattle.fractions.specs.Expansion.{iter_num}
use Rattle.taps.specs.Sums.{taps_to, over_to}
use Rattle.taps.proofs.Adding.{taps_le, shifted as shifted64}
use Rattle.taps.proofs.Expanding.{digit_of, digit_le, iter_size}
use Rattle.registers.specs.Registers.{cell_count, Valid, sum_of, next_of}
use Rattle.registers.specs.declared.Register.{Register}
use Rattle.registers.proofs.Validity.{facts, sum_is, memory_next}
use Rattle.registers.proofs.Numerators.{over_le}

-- ---- the step
abbrev summed : ℤ → ℤ → ℤ
summed m t = to_z w64 (of_z w64 m) +ℤ to_z w64 (of_z w64 t)

step_sum : (g : Register) → Valid g → {r n : ℕ} {m t : ℤ} → r ≡ cell_count g.q → m ≡ to_z w32 (of_z w32 g.memory) → n ≡ taps_to g.q g.cells r r → t ≡ pos n
    → (summed m t ≡ sum_of g) × (nat_abs (sum_of g) ≤ 2 ^ 31)
step_sum g v e i j k =
    let sum = taps_to g.q g.cells (cell_count g.q) (cell_count g.q) in
    let memory = i ∙ back32 g.memory v.memory in
    let taps = k ∙ ap pos (rw e at j) in
    let small : sum ≤ 30 = omega (arith, taps_le g.q g.cells (cell_count g.q) (cell_count g.q), (facts g v).few) in (
      rw (memory, taps, back64 g.memory (omega (arith, v.memory)), back64 (pos sum) (omega (arith, small))) (sym (sum_is g)),
      rw (sum_is g) (omega (arith, nat_abs-+ g.memory (pos sum), v.memory, small)),
    )

pub advanced : (g : Register) → Valid g → {r n d : ℕ} {m t h : ℤ} → r ≡ cell_count g.q → m ≡ to_z w32 (of_z w32 g.memory) → n ≡ taps_to g.q g.cells r r → t ≡ pos n
    → d ≡ from_bool (eqb (bit_and (of_z w64 (summed m t)) 1) 1) → h ≡ half_z (to_z w64 (of_z w64 (summed m t)))
    → ◌≡◌ {A = Register} (record { q = g.q; cells = g.cells / 2 + d * 2 ^ (r - 1) % 2 ^ 32; memory = to_z w32 (of_z w32 (to_z w64 (of_z w64 h))) }) (next_of g)
advanced g v e i j k digit_is half_is =
    let z = sum_of g in
    let s = step_sum g v e i j k in
    let digit = digit_is ∙ ap (λ (s : ℤ). from_bool (eqb (bit_and (of_z w64 s) 1) 1)) s.0 ∙ digit_of z (omega (arith, s.1)) in
    let half = half_is ∙ ap (λ (s : ℤ). half_z (to_z w64 (of_z w64 s))) s.0 ∙ ap half_z (back64 z (omega (arith, s.1))) in
    let small = memory_next g v in
    let weight = 2 ^ (cell_count g.q - 1) in
    let most : weight ≤ 2 ^ 30 = pow_mono {j = 30} (omega (arith, (facts g v).few)) in
    let top : odd_z z * weight % 2 ^ 32 ≡ odd_z z * weight = mod-eq_of_lt (omega (arith, most, digit_le (odd_z z) weight (odd_lt z))) in
    rw (e, digit, half, top, back64 (half_z z) (omega (arith, small)), back32 (half_z z) small) refl

-- ---- the numerator
-- x, s and m are the product, the taps' part and the memory, 2^r the machine's power
pub record Made (g : Register) (r x s : ℕ) (m : ℤ) : Type 0 where
  pub product : to_z w64 x ≡ pos (g.cells * g.q)
  pub above : to_z w64 (of_z w64 (to_z w64 s +ℤ to_z w64 (of_z w64 m))) ≡ pos (over_to g.q g.cells (cell_count g.q) (cell_count g.q)) +ℤ g.memory
  pub power : to_z w64 (1 * 2 ^ r % 2 ^ 64) ≡ pos (2 ^ cell_count g.q)
  pub times_fits : SFits w64 ((pos (over_to g.q g.cells (cell_count g.q) (cell_count g.q)) +ℤ g.memory) *ℤ pos (2 ^ cell_count g.q))
  pub whole_fits : SFits w64 (pos (g.cells * g.q) -ℤ (pos (over_to g.q g.cells (cell_count g.q) (cell_count g.q)) +ℤ g.memory) *ℤ pos (2 ^ cell_count g.q))

pub made : (g : Register) → Valid g → {r a q s : ℕ} {m : ℤ} → r ≡ cell_count g.q → a ≡ g.cells → q ≡ g.q → s ≡ over_to g.q g.cells r r → s < 2 ^ 40
    → m ≡ to_z w32 (of_z w32 g.memory) → Made g r (a * q) s m
made g v {s} e cells_is q_is over_is few memory_is =
    let f = facts g v in
    let k = cell_count g.q in
    let o = over_to g.q g.cells (cell_count g.q) (cell_count g.q) in
    let w = 2 ^ cell_count g.q in
    let over : s ≡ o = rw e at over_is in
    let memory = memory_is ∙ back32 g.memory v.memory in
    let w_small : w ≤ 2 ^ 30 = pow_mono {j = 30} f.few in
    let x_small : g.cells * (g.q + 1) ≤ (2 ^ 30 - 1) * 2 ^ 30 = mul-le-mul {n₂ = 2 ^ 30 - 1} {m₂ = 2 ^ 30} (omega (arith, f.cells, w_small)) (omega (arith, f.small)) in
    let sum : nat_abs (pos o +ℤ g.memory) ≤ o + 2 ^ 30 = omega (arith, nat_abs-+ (pos o) g.memory, v.memory) in
    let times : nat_abs ((pos o +ℤ g.memory) *ℤ pos w) ≤ 2 ^ 62 =
    let b : nat_abs (pos o +ℤ g.memory) * w ≤ (o + 2 ^ 30) * w = mul-le-mul_right w sum in
    omega (arith, nat_abs-* (pos o +ℤ g.memory) (pos w), over_le g.q g.cells f.odd, x_small, w_small) in
    let z = (pos o +ℤ g.memory) *ℤ pos w in
    record {
      product = rw (cells_is, q_is) (to_z_pos w64 _ (omega (arith, x_small)));
      above =
          rw (over, memory, to_z_pos w64 o (omega (arith, over, few)), back64 g.memory (omega (arith, v.memory)))
          (back64 (pos o +ℤ g.memory) (omega (arith, sum, over, few)));
      power = rw (e, shifted64 (cell_count g.q) (omega (arith, f.few))) (to_z_pos w64 w (omega (arith, w_small)));
      times_fits = fits64 z (omega (arith, times));
      whole_fits =
          fits64 (pos (g.cells * g.q) -ℤ z) (omega (arith, abs-- (pos (g.cells * g.q)) z {a = 2 ^ 60} {b = 2 ^ 62} (omega (arith, x_small)) times));
    }

-- ---- the memory that loading gives, z being what is left of the numerator after r digits and s the taps' part
pub record Rested (p : ℤ) (q s : ℕ) (z : ℤ) : Type 0 where
  pub rest : z ≡ iter_num q (cell_count q) p
  pub sum : to_z w64 (of_z w64 z) +ℤ to_z w64 s ≡ z +ℤ pos s
  pub sum_fits : SFits w64 (z +ℤ pos s)
  pub minus_fits : SFits w64 (pos 0 -ℤ (z +ℤ pos s))
  pub minus : pos 0 -ℤ (z +ℤ pos s) ≡ neg_ℤ (z +ℤ pos s)

pub rested : (p : ℤ) (q : ℕ) {r s : ℕ} {z : ℤ} → nat_abs p ≤ 2 ^ 61 → q < 2 ^ 30 → r ≡ cell_count q → z ≡ iter_num q r p → s < 2 ^ 40 → Rested p q s z
rested p q {r} {s} {z} h l e rest_is few =
    let rest = rest_is ∙ ap (λ (n : ℕ). iter_num q n p) e in
    let small : nat_abs z ≤ 2 ^ 61 = rw rest (iter_size q (cell_count q) p h l) in
    let sum : nat_abs (z +ℤ pos s) ≤ 2 ^ 62 = omega (arith, nat_abs-+ z (pos s)) in
    record {
      rest = rest;
      sum = rw (back64 z (omega arith), to_z_pos w64 s (omega arith)) refl;
      sum_fits = fits64 (z +ℤ pos s) (omega arith);
      minus_fits = fits64 (pos 0 -ℤ (z +ℤ pos s)) (omega (arith, abs-- (pos 0) (z +ℤ pos s) {a = 0} {b = 2 ^ 62} (omega arith) sum));
      minus = omega (arith, ints);
    }
