-- The numerator of a register, and the step law: a step takes the low cell off it.
--
--   y_is            y in ℕ: the sum over j of q_j·2^j·(a mod 2^(r-j)), less a
--   y_over          y = a·q - 2^r·over_to: what code computes
--   step_numerator  num(S) = a_0·q + 2·num(S'), once over r
use mathlib.Core.Path.{◌≡◌, sym, ap, ◌∙◌}
use Prim.Native.Nat.{ℕ, zero, suc, ◌+◌, ◌-◌, ◌*◌, ◌/◌, ◌%◌, ◌^◌, ◌≤◌, ◌<◌}
use native.Mathlib.Omega.{arith}
use native.Mathlib.Nat.{pow-suc, add_comm, mul_assoc, add-mul-mod_self_right, mod-eq_of_lt, div-add-mod', mod-lt, mul-le-mul, sub-zero}
use native.Mathlib.Numerals.{add-one}
use lib.Pow.{pow-add, mod-pow-add, pow_pos}
use lib.IntN.{ℤ, pos, negsuc, ◌+ℤ◌, ◌-ℤ◌, ◌*ℤ◌}
use Rattle.integers.specs.Numbers.{odd_z}
use Rattle.integers.proofs.Sizes.{odd_lt}
use Rattle.integers.proofs.Parts.{up, down, eq_of, parts-+, parts--, parts-*pos, parts_half}
use Rattle.integers.proofs.Ring.{ring2, ring4, ring5, lit, #, ◌⊕◌, ◌⊖◌, ◌⊗◌, ◌≔◌}
use Rattle.integers.proofs.Log2.{log2_upper}
use Rattle.bits.specs.Bits.{bit_of}
use Rattle.taps.specs.Sums.{taps_to, over_to}
use Rattle.registers.specs.Registers.{cell_count, Valid, sum_below, tap, cell, sum_of, next_of, y_to, num_of}
use Rattle.registers.specs.declared.Register.{Register}
use Rattle.registers.proofs.Validity.{facts, cells_next, sum_is}

-- ---- the double sum, one i at a time: the j from 1 on are the taps' sum, and q_0 takes a_i off
row : (q a i P k : ℕ) → sum_below (suc k) (λ j. tap q j *ℤ cell a (i - j) *ℤ pos P) ≡ (pos (taps_to q a i k) -ℤ cell a i) *ℤ pos P
unfolding sum_below taps_to
row q a i P zero = rw (sub-zero i) (ring2 (λ c p. # 0 ⊕ lit (negsuc 0) ⊗ c ⊗ p ≔ (# 0 ⊖ c) ⊗ p) tt (cell a i) (pos P))
row q a i P (suc k) =
    ap (λ (z : ℤ). z +ℤ tap q (suc k) *ℤ cell a (i - suc k) *ℤ pos P) (row q a i P k)
    ∙ ring5 (λ t c p b x. (t ⊖ c) ⊗ p ⊕ b ⊗ x ⊗ p ≔ (t ⊕ b ⊗ x ⊖ c) ⊗ p) tt (pos (taps_to q a i k)) (cell a i) (pos P) (tap q (suc k)) (cell a (i - suc k))

y_more : (q a i : ℕ) → y_to q a (suc i) ≡ y_to q a i +ℤ (pos (taps_to q a i i) -ℤ cell a i) *ℤ pos (2 ^ i)
unfolding y_to sum_below
y_more q a i = ap (λ (z : ℤ). y_to q a i +ℤ z) (row q a i (2 ^ i) i)

-- ---- in ℕ
unfoldable pub part_to : ℕ → ℕ → ℕ → ℕ → ℕ
part_to q a r zero = 0
part_to q a r (suc k) = part_to q a r k + bit_of (q + 1) (suc k) * 2 ^ suc k * (a % 2 ^ (r - suc k))

unfoldable q_to : ℕ → ℕ → ℕ
q_to q zero = 0
q_to q (suc k) = q_to q k + bit_of (q + 1) (suc k) * 2 ^ suc k

-- one more digit, taken at the top or at the bottom
pub top_digit : (a i : ℕ) → a % 2 ^ suc i ≡ bit_of a i * 2 ^ i + a % 2 ^ i
top_digit a i = rw (sym (add-one i) ∙ add_comm i 1) (mod-pow-add a 1 i)

pub low_digit : (a i : ℕ) → a % 2 ^ suc i ≡ a / 2 % 2 ^ i * 2 + a % 2
low_digit a i = rw (sym (add-one i)) (mod-pow-add a i 1)

-- the new cell is above the low digits
pub next_low : (a o i d : ℕ) → (a / 2 + o * 2 ^ (d + i)) % 2 ^ i ≡ a / 2 % 2 ^ i
next_low a o i d = rw (pow-add 2 d i, sym (mul_assoc o (2 ^ d) (2 ^ i))) (add-mul-mod_self_right (a / 2) (o * 2 ^ d) (2 ^ i))

step_alg : (W σ c W' b P t I low low' R d : ℕ) → W + R * σ ≡ d * c + 2 * W' → R ≡ P * I → low + t * I ≡ d + 2 * low'
    → (W + b * P * low) + R * (σ + b * t) ≡ d * (c + b * P) + 2 * (W' + b * P * low')
step_alg W σ c W' b P t I low low' R d e₁ e₂ e₃ =
    let f : b * P * (low + t * I) ≡ b * P * (d + 2 * low') = ap (λ (x : ℕ). b * P * x) e₃ in
    let h : R * (b * t) ≡ P * I * (b * t) = ap (λ (x : ℕ). x * (b * t)) e₂ in
    omega arith

-- 2^r by the digits below and above place r - k - 1
pow-split : (r k : ℕ) → suc k ≤ r → 2 ^ r ≡ 2 ^ suc k * 2 ^ (r - suc k)
pow-split r k h =
    let e : suc k + (r - suc k) ≡ r = omega arith in ap (λ (x : ℕ). 2 ^ x) (sym e) ∙ pow-add 2 (suc k) (r - suc k)

sum_step : (q a r o k : ℕ) → k ≤ r → part_to q a r k + 2 ^ r * taps_to q a r k ≡ a % 2 * q_to q k + 2 * part_to q (a / 2 + o * 2 ^ (r - 1)) r k
unfolding part_to q_to taps_to
sum_step q a r o zero h = omega arith
sum_step q a r o (suc k) h =
    let i = r - suc k in
    let e : k + (r - suc k) ≡ r - 1 = omega arith in
    let n : (a / 2 + o * 2 ^ (r - 1)) % 2 ^ (r - suc k) ≡ a / 2 % 2 ^ (r - suc k) = rw (← e) (next_low a o (r - suc k) k) in
    step_alg (part_to q a r k) (taps_to q a r k) (q_to q k) (part_to q (a / 2 + o * 2 ^ (r - 1)) r k) (bit_of (q + 1) (suc k)) (2 ^ suc k) (bit_of a (r - suc k))
    (2 ^ (r - suc k)) (a % 2 ^ (r - suc k)) ((a / 2 + o * 2 ^ (r - 1)) % 2 ^ (r - suc k)) (2 ^ r) (a % 2)
    (sum_step q a r o k (omega arith)) (pow-split r k h)
    (omega (arith, top_digit a (r - suc k), low_digit a (r - suc k), n))

more_alg : (U W σ b P t I low hi R : ℕ) → U ≡ W + R * σ → R ≡ P * I → hi ≡ t * I + low → U + b * P * hi ≡ (W + b * P * low) + R * (σ + b * t)
more_alg U W σ b P t I low hi R e₁ e₂ e₃ =
    let f : b * P * hi ≡ b * P * (t * I + low) = ap (λ (x : ℕ). b * P * x) e₃ in
    let h : R * (b * t) ≡ P * I * (b * t) = ap (λ (x : ℕ). x * (b * t)) e₂ in
    omega arith

part_more : (q a r k : ℕ) → k ≤ r → part_to q a (suc r) k ≡ part_to q a r k + 2 ^ r * taps_to q a r k
unfolding part_to taps_to
part_more q a r zero h = omega arith
part_more q a r (suc k) h =
    let e : suc r - suc k ≡ suc (r - suc k) = omega arith in
    rw e
    (more_alg (part_to q a (suc r) k) (part_to q a r k) (taps_to q a r k) (bit_of (q + 1) (suc k)) (2 ^ suc k) (bit_of a (r - suc k)) (2 ^ (r - suc k)) (a % 2 ^ (r - suc k))
    (a % 2 ^ suc (r - suc k)) (2 ^ r) (part_more q a r k (omega arith)) (pow-split r k h) (top_digit a (r - suc k)))

part_suc : (q a i : ℕ) → part_to q a (suc i) (suc i) ≡ part_to q a i i + 2 ^ i * taps_to q a i i
unfolding part_to
part_suc q a i = last ∙ part_more q a i i (omega arith)
  where
    none : a % 2 ^ (suc i - suc i) ≡ 0
    none = let e : suc i - suc i ≡ 0 = omega arith in rw e (omega arith)

    last : part_to q a (suc i) (suc i) ≡ part_to q a (suc i) i
    last = rw none (omega arith)

y_none : (q a : ℕ) → up (y_to q a 0) + a % 2 ^ 0 ≡ part_to q a 0 0 + down (y_to q a 0)
unfolding y_to sum_below part_to
y_none q a = omega arith

pub y_is : (q a r : ℕ) → up (y_to q a r) + a % 2 ^ r ≡ part_to q a r r + down (y_to q a r)
y_is q a zero = y_none q a
y_is q a (suc i) =
    let x = pos (taps_to q a i i) -ℤ cell a i in
    let s = ap (λ (n : ℕ). n * 2 ^ i) (parts-- (pos (taps_to q a i i)) (cell a i)) in
    rw (y_more q a i)
    (omega (arith, y_is q a i, part_suc q a i, top_digit a i, parts-+ (y_to q a i) (x *ℤ pos (2 ^ i)), parts-*pos x (2 ^ i), s))

-- q + 1 is the sum of its taps
q_is : (q k : ℕ) → q_to q k + (q + 1) % 2 ≡ (q + 1) % 2 ^ suc k
unfolding q_to
q_is q zero = omega arith
q_is q (suc k) = omega (arith, q_is q k, top_digit (q + 1) (suc k))

q_whole : (q : ℕ) → q % 2 ≡ 1 → q_to q (cell_count q) ≡ q + 1
q_whole q o =
    let above : (q + 1) % 2 ^ suc (cell_count q) ≡ q + 1 = mod-eq_of_lt (log2_upper (q + 1)) in
    omega (arith, q_is q (cell_count q))

-- the algebra of the step law, in ℕ: each integer z is z⁺ - z⁻
num_alg : (N⁺ N⁻ Y⁺ Y⁻ p⁺ p⁻ m⁺ m⁻ N₁⁺ N₁⁻ Y₁⁺ Y₁⁻ p₁⁺ p₁⁻ m₁⁺ m₁⁻ s⁺ s⁻ D⁺ D⁻ E⁺ E⁻ W W₁ A A₁ R σ o d q : ℕ)
    → N⁺ + (Y⁻ + p⁺) ≡ Y⁺ + p⁻ + N⁻ → p⁺ + m⁻ * R ≡ m⁺ * R + p⁻ → Y⁺ + A ≡ W + Y⁻
    → N₁⁺ + (Y₁⁻ + p₁⁺) ≡ Y₁⁺ + p₁⁻ + N₁⁻ → p₁⁺ + m₁⁻ * R ≡ m₁⁺ * R + p₁⁻ → Y₁⁺ + A₁ ≡ W₁ + Y₁⁻
    → W + R * σ ≡ d * (q + 1) + 2 * W₁ → 2 * A₁ + d ≡ A + o * R
    → s⁺ + 2 * m₁⁻ ≡ 2 * m₁⁺ + o + s⁻ → s⁺ + (m⁻ + 0) ≡ m⁺ + σ + s⁻
    → D⁺ + N₁⁻ * 2 ≡ N₁⁺ * 2 + D⁻ → E⁺ + (0 + D⁻) ≡ d * q + D⁺ + E⁻
    → N⁺ + E⁻ ≡ E⁺ + N⁻
num_alg N⁺ N⁻ Y⁺ Y⁻ p⁺ p⁻ m⁺ m⁻ N₁⁺ N₁⁻ Y₁⁺ Y₁⁻ p₁⁺ p₁⁻ m₁⁺ m₁⁻ s⁺ s⁻ D⁺ D⁻ E⁺ E⁻ W W₁ A A₁ R σ o d q e₁ e₂ e₃ e₄ e₅ e₆ e₇ e₈ e₉ f₁ f₂ f₃ =
    let g₁ : (s⁺ + 2 * m₁⁻) * R ≡ (2 * m₁⁺ + o + s⁻) * R = ap (λ (x : ℕ). x * R) e₉ in
    let g₂ : (s⁺ + (m⁻ + 0)) * R ≡ (m⁺ + σ + s⁻) * R = ap (λ (x : ℕ). x * R) f₁ in
    omega arith

-- num(S) = a_0 q + 2 num(S')
pub step_numerator : (g : Register) → Valid g → num_of g ≡ pos (g.cells % 2 * g.q) +ℤ num_of (next_of g) *ℤ pos 2
step_numerator g v =
    let f = facts g v in
    let r = cell_count g.q in
    let R = 2 ^ cell_count g.q in
    let h = next_of g in
    let s = sum_of g in
    let o = odd_z (sum_of g) in
    let σ = taps_to g.q g.cells r r in
    let y = y_to g.q g.cells r in
    let y₁ = y_to g.q h.cells r in
    let whole : g.cells % R ≡ g.cells = mod-eq_of_lt f.cells in
    let whole₁ : h.cells % R ≡ h.cells = mod-eq_of_lt (cells_next g.cells o r f.some f.cells (odd_lt (sum_of g))) in
    let dc : g.cells % 2 * q_to g.q r ≡ g.cells % 2 * (g.q + 1) = ap (λ (x : ℕ). g.cells % 2 * x) (q_whole g.q f.odd) in
    let k : suc (r - 1) ≡ r = omega arith in
    let two : 2 ^ r ≡ 2 ^ (r - 1) * 2 = ap (λ (x : ℕ). 2 ^ x) (sym k) ∙ pow-suc 2 (r - 1) in
    let oR : o * R ≡ o * (2 ^ (r - 1) * 2) = ap (λ (x : ℕ). o * x) two in
    let s⁺ = ap up (sum_is g) in
    let s⁻ = ap down (sum_is g) in
    eq_of (num_of g) (pos (g.cells % 2 * g.q) +ℤ num_of h *ℤ pos 2)
    (num_alg (up (num_of g)) (down (num_of g)) (up y) (down y) (up (g.memory *ℤ pos R)) (down (g.memory *ℤ pos R)) (up g.memory) (down g.memory)
    (up (num_of h)) (down (num_of h)) (up y₁) (down y₁) (up (h.memory *ℤ pos R)) (down (h.memory *ℤ pos R)) (up h.memory) (down h.memory)
    (up s) (down s) (up (num_of h *ℤ pos 2)) (down (num_of h *ℤ pos 2))
    (up (pos (g.cells % 2 * g.q) +ℤ num_of h *ℤ pos 2)) (down (pos (g.cells % 2 * g.q) +ℤ num_of h *ℤ pos 2))
    (part_to g.q g.cells r r) (part_to g.q h.cells r r) g.cells h.cells R σ o (g.cells % 2) g.q
    (parts-- y (g.memory *ℤ pos R)) (parts-*pos g.memory R) (omega (arith, y_is g.q g.cells r))
    (parts-- y₁ (h.memory *ℤ pos R)) (parts-*pos h.memory R) (omega (arith, y_is g.q h.cells r))
    (sum_step g.q g.cells r o r (omega arith) ∙ ap (λ (x : ℕ). x + 2 * part_to g.q h.cells r r) dc)
    (omega arith) (parts_half s) (omega (arith, parts-+ g.memory (pos σ))) (parts-*pos (num_of h) 2) (parts-+ (pos (g.cells % 2 * g.q)) (num_of h *ℤ pos 2)))

-- ---- y without the double sum: y = a q - 2^r over_to
term_alg : (W S Q b P I hi low a R : ℕ) → W + R * S ≡ a * Q → R ≡ P * I → hi * I + low ≡ a
    → W + b * P * low + R * (S + b * hi) ≡ a * (Q + b * P)
term_alg W S Q b P I hi low a R e₁ e₂ e₃ =
    let f : b * P * (hi * I + low) ≡ b * P * a = ap (λ (x : ℕ). b * P * x) e₃ in
    let h : R * (b * hi) ≡ P * I * (b * hi) = ap (λ (x : ℕ). x * (b * hi)) e₂ in
    omega arith

over_law : (q a r k : ℕ) → k ≤ r → part_to q a r k + 2 ^ r * over_to q a r k ≡ a * q_to q k
unfolding part_to q_to over_to
over_law q a r zero h = omega arith
over_law q a r (suc k) h =
    term_alg (part_to q a r k) (over_to q a r k) (q_to q k) (bit_of (q + 1) (suc k)) (2 ^ suc k) (2 ^ (r - suc k)) (a / 2 ^ (r - suc k)) (a % 2 ^ (r - suc k)) a (2 ^ r)
    (over_law q a r k (omega arith)) (pow-split r k h) (div-add-mod' a (2 ^ (r - suc k)))

part_over : (q a : ℕ) → q % 2 ≡ 1 → part_to q a (cell_count q) (cell_count q) + 2 ^ cell_count q * over_to q a (cell_count q) (cell_count q) ≡ a * (q + 1)
part_over q a o = over_law q a (cell_count q) (cell_count q) (omega arith) ∙ ap (λ (x : ℕ). a * x) (q_whole q o)

pub y_over : (q a : ℕ) → q % 2 ≡ 1 → a < 2 ^ cell_count q → y_to q a (cell_count q) ≡ pos (a * q) -ℤ pos (2 ^ cell_count q * over_to q a (cell_count q) (cell_count q))
y_over q a o l =
    let r = cell_count q in
    let S = 2 ^ r * over_to q a r r in
    eq_of (y_to q a r) (pos (a * q) -ℤ pos S)
    (omega (arith, mod-eq_of_lt l, y_is q a r, part_over q a o, parts-- (pos (a * q)) (pos S)))

-- ---- how large y is
pub part_le : (q a r k : ℕ) → k ≤ r → part_to q a r k ≤ k * 2 ^ r
unfolding part_to
part_le q a r zero h = omega arith
part_le q a r (suc k) h =
    let i = r - suc k in
    let low : a % 2 ^ (r - suc k) < 2 ^ (r - suc k) = mod-lt a (pow_pos (r - suc k)) in
    let b : bit_of (q + 1) (suc k) * 2 ^ suc k ≤ 1 * 2 ^ suc k = mul-le-mul {n₂ = 1} {m₂ = 2 ^ suc k} (omega arith) (omega arith) in
    let t : bit_of (q + 1) (suc k) * 2 ^ suc k * (a % 2 ^ (r - suc k)) ≤ 1 * 2 ^ suc k * 2 ^ (r - suc k) = mul-le-mul {n₂ = 1 * 2 ^ suc k} {m₂ = 2 ^ (r - suc k)} b (omega arith) in
    omega (arith, part_le q a r k (omega arith), pow-split r k h)

-- the numerator, as code computes it
pub numerator_over : (g : Register) → Valid g
    → num_of g ≡ pos (g.cells * g.q) -ℤ (pos (over_to g.q g.cells (cell_count g.q) (cell_count g.q)) +ℤ g.memory) *ℤ pos (2 ^ cell_count g.q)
numerator_over g v =
    let r = cell_count g.q in
    ap (λ (y : ℤ). y -ℤ g.memory *ℤ pos (2 ^ r)) (y_over g.q g.cells v.odd v.cells)
    ∙ ring4 (λ x w s m. x ⊖ w ⊗ s ⊖ m ⊗ w ≔ x ⊖ (s ⊕ m) ⊗ w) tt (pos (g.cells * g.q)) (pos (2 ^ r)) (pos (over_to g.q g.cells r r)) g.memory

-- the part that is taken off is at most the product
pub over_le : (q a : ℕ) → q % 2 ≡ 1 → over_to q a (cell_count q) (cell_count q) * 2 ^ cell_count q ≤ a * (q + 1)
over_le q a o = omega (arith, part_over q a o)
