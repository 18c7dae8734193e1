-- State and numerator determine each other, and the register emits the expansion of its numerator over q.
--
--   numerator_next   a step of the register is a step of its numerator, and the bit it emits the numerator's digit
--   numerator_iter   .. and so are n steps
--   emits            n steps emit the first n digits of num(S)/q
--   cells_digits     the cells are the first r digits
--   state_unique     for one q, equal numerators mean equal valid registers
--   numerator_size   |num(S)| is below 2^(31 + r)
use mathlib.Core.Path.{◌≡◌, refl, sym, ap, ap₂, ◌∙◌}
use Prim.Native.Nat.{ℕ, zero, suc, ◌+◌, ◌-◌, ◌*◌, ◌/◌, ◌%◌, ◌^◌, ◌≤◌, ◌<◌, min}
use native.Mathlib.Omega.{arith}
use native.Mathlib.Nat.{mod-one, mod-eq_of_lt, eq_of_mul-eq-mul_right, mul-le-mul_right, add-zero, add-suc, pow-suc}
use lib.Pow.{pow_pos, pow-add, pow_mono}
use lib.IntN.{ℤ, pos, nat_abs, ◌-ℤ◌, ◌*ℤ◌}
use Rattle.integers.specs.Numbers.{odd_z}
use Rattle.integers.proofs.Parts.{up, down, eq_of, parts-+, parts--, parts-*pos, nat_abs_is, parts}
use Rattle.fractions.specs.Expansion.{next_num, iter_num, digits_to}
use Rattle.fractions.proofs.Numerators.{odd_is, step_unique, digits_add}
use Rattle.registers.specs.Registers.{cell_count, Valid, sum_of, emitted, next_of, iter_of, out_to, y_to, num_of}
use Rattle.registers.specs.declared.Register.{Register}
use Rattle.registers.proofs.Validity.{facts, valid_next, valid_iter, iter_q}
use Rattle.registers.proofs.Numerators.{step_numerator, low_digit, next_low, part_to, part_le, y_is}

pub numerator_next : (g : Register) → Valid g → (emitted g ≡ odd_z (num_of g)) × (num_of (next_of g) ≡ next_num g.q (num_of g))
numerator_next g v =
    let N = num_of (next_of g) in
    let c = g.cells % 2 in
    let e = step_numerator g v in
    let u = step_unique g.q (num_of g) c N v.odd (omega arith)
    (omega (arith, ap up e, ap down e, parts-+ (pos (c * g.q)) (N *ℤ pos 2), parts-*pos N 2)) in
    (u.0 ∙ sym (odd_is (num_of g)), u.1)

pub numerator_iter : (n : ℕ) (g : Register) → Valid g → num_of (iter_of n g) ≡ iter_num g.q n (num_of g)
unfolding iter_of iter_num
numerator_iter zero g v = refl
numerator_iter (suc n) g v =
    (numerator_next (iter_of n g) (valid_iter n g v)).1
    ∙ ap (λ q. next_num q (num_of (iter_of n g))) (iter_q n g) ∙ ap (next_num g.q) (numerator_iter n g v)

pub emits : (n : ℕ) (g : Register) → Valid g → out_to n g ≡ digits_to g.q n (num_of g)
unfolding out_to digits_to
emits zero g v = refl
emits (suc n) g v =
    ap₂ (λ (x b : ℕ). x + b * 2 ^ n) (emits n g v)
    ((numerator_next (iter_of n g) (valid_iter n g v)).0 ∙ ap odd_z (numerator_iter n g v))

-- ---- the cells are the first r digits
next_cells : (g : Register) (n : ℕ) → suc n ≤ cell_count g.q → (next_of g).cells % 2 ^ n ≡ g.cells / 2 % 2 ^ n
next_cells g n h =
    let e : cell_count g.q - 1 ≡ cell_count g.q - suc n + n = omega arith in
    rw e (next_low g.cells (odd_z (sum_of g)) n (cell_count g.q - suc n))

digits_first : (q n : ℕ) (p : ℤ) → digits_to q (suc n) p ≡ digits_to q n (next_num q p) * 2 + odd_z p
unfolding digits_to iter_num
digits_first q n p =
    let e : 1 + n ≡ suc n = omega arith in
    let a : digits_to q (1 + n) p ≡ digits_to q 1 p + 2 ^ 1 * digits_to q n (iter_num q 1 p) = digits_add q 1 n p in
    ap (λ (k : ℕ). digits_to q k p) (sym e) ∙ a ∙ omega arith

low_digits : (n : ℕ) (g : Register) → Valid g → n ≤ cell_count g.q → g.cells % 2 ^ n ≡ digits_to g.q n (num_of g)
unfolding digits_to
low_digits zero g v h = mod-one g.cells
low_digits (suc n) g v h =
    let s = numerator_next g v in
    low_digit g.cells n
    ∙ ap₂ (λ (x b : ℕ). x * 2 + b)
    (sym (next_cells g n h) ∙ low_digits n (next_of g) (valid_next g v) (omega arith) ∙ ap (digits_to g.q n) s.1) s.0
    ∙ sym (digits_first g.q n (num_of g))

pub cells_digits : (g : Register) → Valid g → g.cells ≡ digits_to g.q (cell_count g.q) (num_of g)
cells_digits g v = sym (mod-eq_of_lt v.cells) ∙ low_digits (cell_count g.q) g v (omega arith)

-- ---- the memory follows
pub memory_unique : (y m n : ℤ) (R : ℕ) → 0 < R → y -ℤ m *ℤ pos R ≡ y -ℤ n *ℤ pos R → m ≡ n
memory_unique y m n R h e =
    eq_of m n (eq_of_mul-eq-mul_right R h (up m + down n) (up n + down m)
    (omega (arith, ap up e, ap down e, parts-- y (m *ℤ pos R), parts-- y (n *ℤ pos R), parts-*pos m R, parts-*pos n R)))

pub state_unique : (g h : Register) → Valid g → Valid h → g.q ≡ h.q → num_of g ≡ num_of h → g ≡ h
state_unique g h v w e k =
    let c : g.cells ≡ h.cells = cells_digits g v ∙ ap₂ (λ (q : ℕ) (p : ℤ). digits_to q (cell_count q) p) e k ∙ sym (cells_digits h w) in
    let R = 2 ^ cell_count g.q in
    let y = y_to g.q g.cells (cell_count g.q) in
    let k' : num_of g ≡ y -ℤ h.memory *ℤ pos R =
    k ∙ ap₂ (λ (q a : ℕ). y_to q a (cell_count q) -ℤ h.memory *ℤ pos (2 ^ cell_count q)) (sym e) (sym c) in
    let m = memory_unique y g.memory h.memory R (pow_pos (cell_count g.q)) k' in
    λ i. record { q = e i; cells = c i; memory = m i }

-- ---- how large a valid register's numerator is
size_alg : (N⁺ N⁻ Y⁺ Y⁻ M⁺ M⁻ m⁺ m⁻ C A R : ℕ) → min N⁺ N⁻ ≡ 0 → N⁺ + (Y⁻ + M⁺) ≡ Y⁺ + M⁻ + N⁻ → M⁺ + m⁻ * R ≡ m⁺ * R + M⁻ → Y⁺ + A ≡ C + Y⁻
    → N⁺ + N⁻ ≤ C + A + (m⁺ + m⁻) * R
size_alg N⁺ N⁻ Y⁺ Y⁻ M⁺ M⁻ m⁺ m⁻ C A R h e f g = omega arith

pub numerator_size : (g : Register) → Valid g → nat_abs (num_of g) < 2 ^ (31 + cell_count g.q)
numerator_size g v =
    let f = facts g v in
    let r = cell_count g.q in
    let R = 2 ^ cell_count g.q in
    let y = y_to g.q g.cells (cell_count g.q) in
    let C = part_to g.q g.cells r r in
    let m : (up g.memory + down g.memory) * R ≤ 1073741824 * R = mul-le-mul_right R (omega (arith, v.memory, nat_abs_is g.memory)) in
    let c : r * R ≤ 30 * R = mul-le-mul_right R f.few in
    let s = size_alg (up (num_of g)) (down (num_of g)) (up y) (down y) (up (g.memory *ℤ pos R)) (down (g.memory *ℤ pos R)) (up g.memory) (down g.memory) C g.cells R
    (parts (num_of g)) (parts-- y (g.memory *ℤ pos R)) (parts-*pos g.memory R) (omega (arith, y_is g.q g.cells r, mod-eq_of_lt v.cells)) in
    rw (pow-add 2 31 r) (omega (arith, nat_abs_is (num_of g), part_le g.q g.cells r r (omega arith), pow_pos r))

pub numerator_small : (g : Register) → Valid g → nat_abs (num_of g) < 2 ^ 61
numerator_small g v =
    let p : 2 ^ (31 + cell_count g.q) ≤ 2 ^ 61 = pow_mono {j = 61} (omega (arith, (facts g v).few)) in
    omega (arith, numerator_size g v)

-- ---- n steps, then m more
pub iter_add : (n m : ℕ) (g : Register) → iter_of (n + m) g ≡ iter_of m (iter_of n g)
unfolding iter_of
iter_add n zero g = rw (add-zero n)
iter_add n (suc m) g = rw (add-suc n m) (ap next_of (iter_add n m g))

pub out_add : (n m : ℕ) (g : Register) → out_to (n + m) g ≡ out_to n g + 2 ^ n * out_to m (iter_of n g)
unfolding out_to
out_add n zero g = rw (add-zero n) (omega arith)
out_add n (suc m) g = rw (add-suc n m, iter_add n m g, pow-add 2 n m) (omega (arith, out_add n m g))

pub out_lt : (n : ℕ) (g : Register) → out_to n g < 2 ^ n
unfolding out_to
out_lt zero g = omega arith
out_lt (suc n) g =
    let b : emitted (iter_of n g) * 2 ^ n ≤ 1 * 2 ^ n = mul-le-mul_right (2 ^ n) (omega arith) in
    rw (pow-suc 2 n) (omega (arith, out_lt n g))
