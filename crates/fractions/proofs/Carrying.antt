-- Digits of an expansion a word at a time: the numerator is carried as a natural number, and its next digits are its product with the inverse of q.
--
--   offset_is   an offset, in parts
--   word_law    the next k digits and the numerator after them, once over k: 32, 8 and r are instances
use Rattle.std.proofs.Common.{◌≡◌, ℕ, ◌+◌, ◌-◌, ◌*◌, ◌/◌, ◌%◌, ◌^◌, ◌<◌, ◌≤◌, ℤ, pos, ◌+ℤ◌, ◌-ℤ◌, nat_abs, sym, ap, ◌∙◌, mul-le-mul_right, mul_comm, div-add-mod', mul-div_cancel, arith, pow_pos, pow-add}
use native.Mathlib.Nat.{div-le_of_le-mul, eq_of_mul-eq-mul_right}
use Rattle.integers.proofs.Parts.{up, down, eq_of, parts-+, parts--, nat_abs_is}
use Rattle.integers.proofs.Modulo.{key-of, cong_of, mod_down, mul_mod_r}
use Rattle.fractions.specs.Expansion.{iter_num, digits_to}
use Rattle.fractions.proofs.Numerators.{Splits, expansion_splits}
use Rattle.fractions.specs.Inner.{Offset, Inverse}

pub offset_is : (P : ℕ) (p : ℤ) → Offset P p → P + down p ≡ 2 ^ 62 + up p
offset_is P p o = omega (arith, ap up o.is, ap down o.is, parts-+ p (pos (2 ^ 62)))

pub offset_of : (P : ℕ) (p : ℤ) → P + down p ≡ 2 ^ 62 + up p → Offset P p
offset_of P p e = record { is = eq_of (pos P) (p +ℤ pos (2 ^ 62)) (omega (arith, parts-+ p (pos (2 ^ 62)))) }

pub offset_small : (P : ℕ) (p : ℤ) → Offset P p → nat_abs p < 2 ^ 62 → P < 2 ^ 63
offset_small P p o h = omega (arith, offset_is P p o, nat_abs_is p)

pub offset_unique : {P : ℕ} {p p' : ℤ} → Offset P p → Offset P p' → p ≡ p'
offset_unique {P} {p} {p'} a b = eq_of p p' (omega (arith, offset_is P p a, offset_is P p' b))

-- ---- powers of two below 2^62 divide it
pow_parts : (k n : ℕ) → k ≤ n → 2 ^ n ≡ 2 ^ k * 2 ^ (n - k)
pow_parts k n h = let e : k + (n - k) ≡ n = omega arith in ap (λ (x : ℕ). 2 ^ x) (sym e) ∙ pow-add 2 k (n - k)

pub inverse_low : (k q v : ℕ) → k ≤ 32 → Inverse q v → q * v % 2 ^ k ≡ 1 % 2 ^ k
inverse_low k q v h i =
    sym (mod_down (2 ^ k) (2 ^ (32 - k)) (q * v)) ∙ ap (λ (n : ℕ). q * v % n % 2 ^ k) (sym (pow_parts k 32 h)) ∙ ap (λ (n : ℕ). n % 2 ^ k) i.one

-- an inverse modulo 2^64 is one modulo 2^32
pub inverse_of : (q v : ℕ) → q % 2 ≡ 1 → q * v % 2 ^ 64 ≡ 1 → Inverse q (v % 4294967296)
inverse_of q v o e =
    record {
      odd = o;
      one = mul_mod_r (2 ^ 32) q v ∙ sym (mod_down (2 ^ 32) (2 ^ 32) (q * v)) ∙ ap (λ (n : ℕ). n % 2 ^ 32) e;
      small = omega arith;
    }

offset_divides : (k : ℕ) → k ≤ 62 → 2 ^ k * (2 ^ 62 / 2 ^ k) ≡ 2 ^ 62
offset_divides k h =
    let e : 2 ^ 62 ≡ 2 ^ (62 - k) * 2 ^ k = pow_parts k 62 h ∙ mul_comm (2 ^ k) (2 ^ (62 - k)) in
    let d : 2 ^ 62 / 2 ^ k ≡ 2 ^ (62 - k) = ap (λ (n : ℕ). n / 2 ^ k) e ∙ mul-div_cancel (2 ^ (62 - k)) (pow_pos k) in
    ap (λ (n : ℕ). 2 ^ k * n) d ∙ sym (pow_parts k 62 h)

-- ---- P / W, where P and u q have one remainder
quotient : (W d q u P a b : ℕ) → 0 < W → P + W * a ≡ u * q + W * (d + b) → P / W + a ≡ d + u * q / W + b
quotient W d q u P a b h e =
    let c : P % W ≡ u * q % W = cong_of W P (u * q) a (d + b) e in
    eq_of_mul-eq-mul_right W h (P / W + a) (d + u * q / W + b)
    (omega (arith, div-add-mod' P W, div-add-mod' (u * q) W))

pub small_part : (W q u : ℕ) → u < W → u * q / W ≤ q
small_part W q u h = div-le_of_le-mul W (mul-le-mul_right q (omega arith))

abbrev pub key_of : ℕ → ℕ → ℕ → ℕ
key_of W P v = P % W * v % W

abbrev pub rest_of : ℕ → ℕ → ℕ → ℕ → ℕ
rest_of W P q v = P / W + (2 ^ 62 - 2 ^ 62 / W) - key_of W P v * q / W

step_law : (W d q v P u : ℕ) (p p' : ℤ) → W * d ≡ 2 ^ 62 → 1 < W → q < 2 ^ 30 → q * v % W ≡ 1 % W → Offset P p → Splits W q p u p'
    → (P % W * v % W ≡ u) × Offset (P / W + (2 ^ 62 - d) - P % W * v % W * q / W) p'
step_law W d q v P u p p' D h l i s t =
    let o = offset_is P p s in
    let k : P % W * v % W ≡ u = key-of W q v u P (down p') (d + up p') t.low i (omega (arith, t.is)) in
    let a = quotient W d q u P (down p') (up p') (omega arith) (omega (arith, t.is)) in
    let half : 2 * d ≤ W * d = mul-le-mul_right d h in
    (k, offset_of _ p' (rw k (omega (arith, a, small_part W q u t.low))))

pub word_law : (k q v P : ℕ) (p : ℤ) → 1 < 2 ^ k → k ≤ 32 → q < 2 ^ 30 → Inverse q v → Offset P p
    → (key_of (2 ^ k) P v ≡ digits_to q k p) × Offset (rest_of (2 ^ k) P q v) (iter_num q k p)
word_law k q v P p h l s i o =
    step_law (2 ^ k) (2 ^ 62 / 2 ^ k) q v P (digits_to q k p) p (iter_num q k p) (offset_divides k (omega arith)) h s (inverse_low k q v l i) o
    (expansion_splits q k p i.odd)

-- ---- every numerator that is small enough is carried
pub record Raised (p : ℤ) : Type 0 where
  pub by : ℕ
  pub is : Offset by p
  pub small : by < 2 ^ 63

pub raised : (p : ℤ) → nat_abs p < 2 ^ 62 → Raised p
raised p h =
    let P = 2 ^ 62 + up p - down p in
    let o : Offset (2 ^ 62 + up p - down p) p = offset_of P p (omega (arith, nat_abs_is p)) in
    record { by = P; is = o; small = offset_small P p o h }

-- ---- and every natural number carries one
pub lowered : (P : ℕ) → Offset P (pos P -ℤ pos (2 ^ 62))
lowered P = offset_of P (pos P -ℤ pos (2 ^ 62)) (omega (arith, parts-- (pos P) (pos (2 ^ 62))))
