-- What it is to fit m bits more: 2^m divides rest - w q, w the window of the next m bits, and the new rest is the quotient. One law for every m.
--
--   whole_shift    where W divides z, shifting divides
--   carried_none   before any bit the rest is p
--   carried_on     where 2^m divides, the pair fits m bits more
--   carried_off    where it does not, the pair does not fit
--   carried_all    a pair that was carried along fits
use mathlib.Core.Path.{◌≡◌, sym, ap, ap₂, ◌∙◌, subst, subst₂}
use mathlib.Core.List.{List, [], ◌∷◌}
use Prim.Native.Nat.{ℕ, zero, suc, ◌+◌, ◌-◌, ◌*◌, ◌/◌, ◌%◌, ◌^◌, ◌≤◌, ◌<◌, min}
use native.Mathlib.Omega.{arith}
use native.Mathlib.Nat.{le_refl, mod-lt, mul-mod_right, mul-le-mul, mul-le-mul_right, le_of_mul-le-mul_left, add-mul-div_left, div-eq_of_lt, zero-add}
use lib.Pow.{pow-add, pow_pos, pow_mono}
use lib.IntN.{ℤ, pos, negsuc, neg_ℤ, nat_abs, ◌+ℤ◌, ◌-ℤ◌, ◌*ℤ◌}
use lib.Signed.{shr_z}
use mir.Syntax.{w32, w64}
use mir.Val.{SFits, to_z, of_z}
use mir.ValLaws.{to_z-of_z}
use Rattle.std.proofs.lemmas.Int.{to_z_pos}
use Rattle.integers.proofs.Parts.{nat_abs-*}
use Rattle.integers.proofs.Coprime.{quot}
use Rattle.integers.proofs.Equations.{eq_by, z_sub, z-*, z-+}
use Rattle.integers.proofs.Sizes.{fits64, back32, back64, abs--}
use Rattle.integers.proofs.Ring.{var, lit, #, neg, ◌⊕◌, ◌⊗◌, ◌⊖◌, ring, ring2, ring5, ◌≔◌}
use Rattle.bits.specs.Bits.{Below, value, window}
use Rattle.bits.proofs.Values.{value_more, value_lt}
use Rattle.fractions.specs.Pairs.{limit, Inside, Fits}
use Rattle.fractions.proofs.Same.{cancel}
use Rattle.learning.specs.Steps.{Carried}
use Rattle.learning.proofs.Guesses.{fits_fewer}

-- ---- the shift
whole_suc : (n W k : ℕ) → suc n ≡ W * k → suc (n / W) ≡ k
whole_suc n zero k e = absurd (omega arith)
whole_suc n (suc W) zero e = absurd (omega arith)
whole_suc n (suc W) (suc k) e = ap suc (ap (λ (x : ℕ). x / suc W) n_is ∙ add-mul-div_left W k (some W) ∙ ap (λ (x : ℕ). x + k) (div-eq_of_lt (less W)) ∙ zero-add k)
  where
    n_is : n ≡ W + suc W * k
    n_is = omega arith

    some : (W : ℕ) → 0 < suc W
    some W = omega arith

    less : (W : ℕ) → W < suc W
    less W = omega arith

pub whole_shift : (z : ℤ) (W : ℕ) → nat_abs z % W ≡ 0 → z ≡ pos W *ℤ shr_z z W
whole_shift (pos n) W h = ap pos (quot W n h)
whole_shift (negsuc n) W h = ap (λ (m : ℕ). neg_ℤ (pos m)) (quot W (suc n) h ∙ ap (λ (k : ℕ). W * k) (sym (whole_suc n W (suc n / W) (quot W (suc n) h))))

-- ---- the first 61 bits
pub first_61 : (bytes : List ℕ) → Below 256 bytes → {a b : ℕ} → a ≡ window bytes 0 32 → b ≡ window bytes 32 29
    → (a + b * 4294967296 % 2 ^ 64 ≡ value bytes 61) × (a + b * 4294967296 % 2 ^ 64 < 2 ^ 61)
first_61 bytes low {a} {b} ea eb = go (value_more bytes 32 29 low) (value_more bytes 0 32 low) (value_lt bytes 0) (value_lt bytes 61)
  where
    go : {v u z : ℕ} → v ≡ u + window bytes 32 29 * 4294967296 → u ≡ z + window bytes 0 32 * 1 → z < 1 → v < 2 ^ 61 → (a + b * 4294967296 % 2 ^ 64 ≡ v) × (a + b * 4294967296 % 2 ^ 64 < 2 ^ 61)
    go e f z l = (omega arith, omega arith)

-- ---- carrying the rest along
carried_none : (bytes : List ℕ) (p : ℤ) (q : ℕ) → nat_abs p ≤ limit → Carried bytes 0 p q p
unfolding value
carried_none bytes p q h = record { small = h; is = ring2 (λ p q. p ≔ # 0 ⊗ q ⊕ # 1 ⊗ p) tt p (pos q) }

pub carried_start : {bytes : List ℕ} {p : ℤ} {q : ℕ} {r : ℤ} → Inside p q → r ≡ to_z w32 (of_z w32 p) → Carried bytes 0 p q (to_z w64 (of_z w64 r))
carried_start {bytes} {p} {q} {r} f e = subst (λ (r : ℤ). Carried bytes 0 p q r) (sym (back64 r (omega (arith, ap nat_abs is, f.p_most)) ∙ is)) (carried_none bytes p q f.p_most)
  where
    is : r ≡ p
    is = e ∙ back32 p (omega (arith, f.p_most))

pub carried_all : {bytes : List ℕ} {n : ℕ} {p : ℤ} {q : ℕ} {r : ℤ} → Carried bytes n p q r → Fits n (value bytes n) p q
carried_all {bytes} {n} {p} {q} {r} c = (
  neg_ℤ r,
  eq_by (z-* (negsuc 0) (z_sub c.is)) (ring5 (λ A T p q r. A ⊗ q ⊖ p ≔ T ⊗ neg r ⊕ lit (negsuc 0) ⊗ (p ⊖ (A ⊗ q ⊕ T ⊗ r))) tt (pos (value bytes n)) (pos (2 ^ n)) p (pos q) r),
)

module _ (bytes : List ℕ) (i m : ℕ) (p : ℤ) (q : ℕ) (r : ℤ) (low : Below 256 bytes) (c : Carried bytes i p q r) where
  -- the value and the power, m bits more
  value_is : pos (value bytes (i + m)) ≡ pos (value bytes i) +ℤ pos (window bytes i m) *ℤ pos (2 ^ i)
  value_is = ap pos (value_more bytes i m low)

  power_is : pos (2 ^ (i + m)) ≡ pos (2 ^ i) *ℤ pos (2 ^ m)
  power_is = ap pos (pow-add 2 i m)

  pub offset_small : q ≤ limit → nat_abs (r -ℤ pos (window bytes i m * q)) ≤ 2 ^ m * limit
  offset_small h =
      let w : window bytes i m < 2 ^ m = mod-lt _ (pow_pos m) in
      omega (arith, abs-- r (pos (window bytes i m * q)) c.small (mul-le-mul {n₁ = window bytes i m} (le_refl (window bytes i m)) h), mul-le-mul_right limit w)

  pub carried_on : q ≤ limit → nat_abs (r -ℤ pos (window bytes i m * q)) % 2 ^ m ≡ 0 → Carried bytes (i + m) p q (shr_z (r -ℤ pos (window bytes i m * q)) (2 ^ m))
  carried_on h d = record { small = small; is = is }
    where
      e : r -ℤ pos (window bytes i m * q) ≡ pos (2 ^ m) *ℤ shr_z (r -ℤ pos (window bytes i m * q)) (2 ^ m)
      e = whole_shift (r -ℤ pos (window bytes i m * q)) (2 ^ m) d

      small : nat_abs (shr_z (r -ℤ pos (window bytes i m * q)) (2 ^ m)) ≤ limit
      small = le_of_mul-le-mul_left {k = 2 ^ m} (omega (arith, ap nat_abs e, nat_abs-* (pos (2 ^ m)) (shr_z (r -ℤ pos (window bytes i m * q)) (2 ^ m)), offset_small h)) (pow_pos m)

      is : p ≡ pos (value bytes (i + m)) *ℤ pos q +ℤ pos (2 ^ (i + m)) *ℤ shr_z (r -ℤ pos (window bytes i m * q)) (2 ^ m)
      is = c.is ∙ more (pos (value bytes i)) (pos (2 ^ i)) (pos (2 ^ m)) (pos (window bytes i m)) (pos q) r (shr_z (r -ℤ pos (window bytes i m * q)) (2 ^ m)) e
          ∙ ap₂ (λ (A T : ℤ). A *ℤ pos q +ℤ T *ℤ shr_z (r -ℤ pos (window bytes i m * q)) (2 ^ m)) (sym value_is) (sym power_is)
        where
          more : (A T W w q r h : ℤ) → r -ℤ w *ℤ q ≡ W *ℤ h → A *ℤ q +ℤ T *ℤ r ≡ (A +ℤ w *ℤ T) *ℤ q +ℤ T *ℤ W *ℤ h
          more A T W w q r h e = eq_by (z-* T (z_sub e))
              (ring (var 0 ⊗ var 4 ⊕ var 1 ⊗ var 5) ((var 0 ⊕ var 3 ⊗ var 1) ⊗ var 4 ⊕ var 1 ⊗ var 2 ⊗ var 6 ⊕ var 1 ⊗ (var 5 ⊖ var 3 ⊗ var 4 ⊖ var 2 ⊗ var 6)) (A ∷ T ∷ W ∷ w ∷ q ∷ r ∷ h ∷ []) tt)

  pub carried_off : (n : ℕ) → q % 2 ≡ 1 → i + m ≤ n → (nat_abs (r -ℤ pos (window bytes i m * q)) % 2 ^ m ≡ 0 → ⊥) → Fits n (value bytes n) p q → ⊥
  carried_off n odd l never f = never (ap (λ (x : ℕ). x % 2 ^ m) (ap nat_abs divided ∙ nat_abs-* (pos (2 ^ m)) (neg_ℤ g.0)) ∙ mul-mod_right (2 ^ m) (nat_abs (neg_ℤ g.0)))
    where
      g : Fits (i + m) (value bytes (i + m)) p q
      g = fits_fewer bytes (i + m) n p q odd l f

      divided : r -ℤ pos (window bytes i m * q) ≡ pos (2 ^ m) *ℤ neg_ℤ g.0
      divided = cancel (2 ^ i) (r -ℤ pos (window bytes i m * q)) (pos (2 ^ m) *ℤ neg_ℤ g.0) (pow_pos i)
          (less (pos (value bytes i)) (pos (2 ^ i)) (pos (2 ^ m)) (pos (window bytes i m)) (pos q) r g.0 p c.is
          (ap₂ (λ (A T : ℤ). A *ℤ pos q -ℤ p -ℤ T *ℤ g.0) (sym value_is) (sym power_is) ∙ z_sub g.1))
        where
          less : (A T W w q r t p : ℤ) → p ≡ A *ℤ q +ℤ T *ℤ r → (A +ℤ w *ℤ T) *ℤ q -ℤ p -ℤ T *ℤ W *ℤ t ≡ pos 0 → T *ℤ (r -ℤ w *ℤ q) ≡ T *ℤ (W *ℤ neg_ℤ t)
          less A T W w q r t p e h = eq_by (z-+ (z-* (negsuc 0) (z_sub e)) (z-* (negsuc 0) h))
              (ring (var 1 ⊗ (var 5 ⊖ var 3 ⊗ var 4)) (var 1 ⊗ (var 2 ⊗ neg (var 6)) ⊕ (lit (negsuc 0) ⊗ (var 7 ⊖ (var 0 ⊗ var 4 ⊕ var 1 ⊗ var 5)) ⊕ lit (negsuc 0) ⊗ ((var 0 ⊕ var 3 ⊗ var 1) ⊗ var 4 ⊖ var 7 ⊖ var 1 ⊗ var 2 ⊗ var 6)))
              (A ∷ T ∷ W ∷ w ∷ q ∷ r ∷ t ∷ p ∷ []) tt)

-- ---- a turn of the code's loop, at most 32 bits from bit i on
-- rest - w q as the machine has it
abbrev read_product : ℕ → ℤ → ℤ
read_product w q = to_z w64 w *ℤ to_z w64 (of_z w64 q)

abbrev read_offset : ℤ → ℕ → ℤ → ℤ
read_offset rest w q = to_z w64 (of_z w64 (rest -ℤ to_z w64 (of_z w64 (read_product w q))))

module _ {bytes : List ℕ} {i n : ℕ} {p : ℤ} {q : ℕ} {rest : ℤ} (low : Below 256 bytes) (k : Carried bytes i p q rest) (t : i < n) (f : Inside p q)
    {m w : ℕ} {qz : ℤ} (em : m ≡ min (n - i) 32) (ew : w ≡ window bytes i m) (eq : qz ≡ pos q) where
  power_most : 2 ^ m ≤ 2 ^ 32
  power_most = pow_mono {j = 32} (omega arith)

  window_lt : window bytes i m < 2 ^ m
  window_lt = mod-lt _ (pow_pos m)

  window_most : w < 2 ^ 32
  window_most = omega (arith, window_lt, power_most)

  product_is : read_product w qz ≡ pos (window bytes i m * q)
  product_is = ap₂ (λ (x y : ℤ). x *ℤ y) (to_z_pos w64 w (omega (arith, window_most)) ∙ ap pos ew) (ap (λ (z : ℤ). to_z w64 (of_z w64 z)) eq ∙ back64 (pos q) (omega (arith, f.q_most)))

  product_most : window bytes i m * q ≤ 2 ^ 32 * limit
  product_most = let l : window bytes i m ≤ 2 ^ 32 = omega (arith, window_most) in mul-le-mul l f.q_most

  pub product_fits : SFits w64 (read_product w qz)
  product_fits = fits64 _ (omega (arith, ap nat_abs product_is, product_most))

  difference_is : rest -ℤ to_z w64 (of_z w64 (read_product w qz)) ≡ rest -ℤ pos (window bytes i m * q)
  difference_is = ap (λ (y : ℤ). rest -ℤ y) (to_z-of_z w64 _ product_fits ∙ product_is)

  difference_most : nat_abs (rest -ℤ pos (window bytes i m * q)) ≤ 2 ^ 32 * limit + limit
  difference_most = omega (arith, abs-- rest (pos (window bytes i m * q)) k.small product_most)

  pub difference_fits : SFits w64 (rest -ℤ to_z w64 (of_z w64 (read_product w qz)))
  difference_fits = fits64 _ (omega (arith, ap nat_abs difference_is, difference_most))

  d_is : read_offset rest w qz ≡ rest -ℤ pos (window bytes i m * q)
  d_is = to_z-of_z w64 _ difference_fits ∙ difference_is

  tested : {u : ℕ} → u ≡ nat_abs (read_offset rest w qz)
      → u % (1 * 2 ^ m % 2 ^ 64) ≡ nat_abs (rest -ℤ pos (window bytes i m * q)) % 2 ^ m
  tested e = ap₂ (λ (x y : ℕ). x % y) (e ∙ ap nat_abs d_is) (omega (arith, power_most))

  pub carried_step : {u : ℕ} → u ≡ nat_abs (read_offset rest w qz) → u % (1 * 2 ^ m % 2 ^ 64) ≡ 0
      → {j : ℕ} → j ≡ i + m → Carried bytes j p q (to_z w64 (of_z w64 (shr_z (read_offset rest w qz) (2 ^ m))))
  carried_step e d ej = subst₂ (λ (j : ℕ) (r : ℤ). Carried bytes j p q r) (sym ej) (sym (ap (λ (z : ℤ). to_z w64 (of_z w64 (shr_z z (2 ^ m)))) d_is ∙ back64 _ (omega (arith, on.small)))) on
    where
      on : Carried bytes (i + m) p q (shr_z (rest -ℤ pos (window bytes i m * q)) (2 ^ m))
      on = carried_on bytes i m p q rest low k f.q_most (sym (tested e) ∙ d)

  pub carried_stop : {u : ℕ} → u ≡ nat_abs (read_offset rest w qz) → (u % (1 * 2 ^ m % 2 ^ 64) ≡ 0 → ⊥) → Fits n (value bytes n) p q → ⊥
  carried_stop e never = carried_off bytes i m p q rest low k n f.odd (omega arith) (λ d. never (tested e ∙ d))
