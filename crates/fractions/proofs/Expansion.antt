-- The expansion and fitting are one thing: the first n digits of p/q are the bits that p/q fits.
--
--   fits_split, split_fits  fitting, as p = A q + 2^n p'
--   expansion_fits          p/q fits its first n digits
--   expansion_unique        .. and no other number below 2^n
--   digits_same             two pairs that are the same fraction, both q odd, have the same expansion
--   fits_more               a pair fits n + 1 bits exactly when it fits n and its next digit is the bit
--   fits_digits             a pair fits a burst exactly when bit i is digit i, for each i below n
--   digits_bit              bit i of the first n digits as one number is digit i
--   outputs_bit             so bit i of the output word is digit i of the expansion
--   outputs_unique          two answers for the output word have the same numbers; output_unique: so they are the same answer
use Rattle.std.proofs.Common.{◌≡◌, ℕ, zero, suc, ◌+◌, ◌-◌, ◌*◌, ◌/◌, ◌%◌, ◌^◌, ◌<◌, ◌≤◌, ◌↔◌, List, Result, Ok, Err, ℤ, pos, negsuc, ◌-ℤ◌, ◌*ℤ◌, neg_ℤ, sym, refl, ap, ◌∙◌, subst, ap₂, inl, inr, mul-le-mul_right, pow-suc, zero-add, arith, pow_pos}
use native.Mathlib.Nat.{add-mul-div_left, div-eq_of_lt}
use Rattle.integers.specs.Numbers.{odd_z}
use Rattle.integers.proofs.Sizes.{odd_lt}
use Rattle.integers.proofs.Finite.{le_or_gt}
use Rattle.integers.proofs.Equations.{eq_by, z_sub, z-*}
use Rattle.integers.proofs.Ring.{lit, neg, ◌⊕◌, ◌⊗◌, ◌⊖◌, ring3, ring5, ◌≔◌}
use Rattle.bits.specs.Bits.{bit_of, bit_at, value}
use Rattle.fractions.specs.Pairs.{Fits, SameFraction}
use Rattle.fractions.specs.Expansion.{next_num, iter_num, digit_at, digits_to}
use Rattle.fractions.specs.Answers.{number_of, word_of, Outputs, word, outside}
use Rattle.fractions.specs.declared.Outside.{Outside}
use Rattle.fractions.proofs.Numerators.{Splits, split_eq, split_of, expansion_splits, splits_unique, digits_add, digits_lt}
use Rattle.fractions.proofs.Same.{fits_same}
use Rattle.bits.proofs.Values.{bit_lt, value_lt}

pub fits_split : (n A : ℕ) (p : ℤ) (q : ℕ) → A < 2 ^ n → (f : Fits n A p q) → Splits (2 ^ n) q p A (neg_ℤ f.0)
fits_split n A p q l f = split_of (2 ^ n) q p A (neg_ℤ f.0) l
    (eq_by (z-* (negsuc 0) (z_sub f.1))
    (ring5 (λ A q p T t. p ≔ A ⊗ q ⊕ neg t ⊗ T ⊕ lit (negsuc 0) ⊗ (A ⊗ q ⊖ p ⊖ T ⊗ t)) tt (pos A) (pos q) p (pos (2 ^ n)) f.0))

pub split_fits : (n A : ℕ) (p p' : ℤ) (q : ℕ) → Splits (2 ^ n) q p A p' → Fits n A p q
split_fits n A p p' q s = (neg_ℤ p', ap (λ (z : ℤ). pos A *ℤ pos q -ℤ z) (split_eq (2 ^ n) q p A p' s) ∙ ring3 (λ x y T. x ⊖ (x ⊕ y ⊗ T) ≔ T ⊗ neg y) tt (pos A *ℤ pos q) p' (pos (2 ^ n)))

pub expansion_fits : (q n : ℕ) (p : ℤ) → q % 2 ≡ 1 → Fits n (digits_to q n p) p q
expansion_fits q n p o = split_fits n (digits_to q n p) p (iter_num q n p) q (expansion_splits q n p o)

pub expansion_unique : (n A : ℕ) (p : ℤ) (q : ℕ) → q % 2 ≡ 1 → A < 2 ^ n → Fits n A p q → A ≡ digits_to q n p
expansion_unique n A p q o l f = (splits_unique n q p A (digits_to q n p) (neg_ℤ f.0) (iter_num q n p) o (fits_split n A p q l f) (expansion_splits q n p o)).0

pub digits_same : (n : ℕ) (p : ℤ) (q : ℕ) (p' : ℤ) (q' : ℕ) → q % 2 ≡ 1 → q' % 2 ≡ 1 → SameFraction p q p' q' → digits_to q n p ≡ digits_to q' n p'
digits_same n p q p' q' o o' s =
    expansion_unique n (digits_to q n p) p' q' o' (digits_lt q n p) (fits_same n (digits_to q n p) p q p' q' o s (expansion_fits q n p o))

-- ---- one bit more
-- numbers below T with a digit above are equal exactly where both parts are
top_digit : (T v d a b : ℕ) → v < T → d < T → a < 2 → b < 2 → v + a * T ≡ d + b * T → (v ≡ d) × (a ≡ b)
top_digit T v d zero zero l m h k e = (omega arith, refl)
top_digit T v d zero (suc zero) l m h k e = absurd (omega arith)
top_digit T v d (suc zero) zero l m h k e = absurd (omega arith)
top_digit T v d (suc zero) (suc zero) l m h k e = (omega arith, refl)
top_digit T v d (suc (suc a)) b l m h k e = absurd (omega arith)
top_digit T v d zero (suc (suc b)) l m h k e = absurd (omega arith)
top_digit T v d (suc zero) (suc (suc b)) l m h k e = absurd (omega arith)

above : (T v a : ℕ) → v < T → a < 2 → v + a * T < T * 2
above T v a l h = omega (arith, mul-le-mul_right {m = a} {n = 1} T (omega arith))

pub fits_more : (n A a : ℕ) (p : ℤ) (q : ℕ) → q % 2 ≡ 1 → A < 2 ^ n → a < 2 → Fits (suc n) (A + a * 2 ^ n) p q ↔ (Fits n A p q × (a ≡ digit_at q p n))
unfolding digits_to
fits_more n A a p q o l h = (
  (λ f. let e = top_digit (2 ^ n) A (digits_to q n p) a (digit_at q p n) l (digits_lt q n p) h (odd_lt (iter_num q n p)) (expansion_unique (suc n) (A + a * 2 ^ n) p q o (rw (pow-suc 2 n) (above (2 ^ n) A a l h)) f) in
      (subst (λ (x : ℕ). Fits n x p q) (sym e.0) (expansion_fits q n p o), e.1)),
  (λ f. subst (λ (x : ℕ). Fits (suc n) x p q) (ap₂ (λ (x y : ℕ). x + y * 2 ^ n) (sym (expansion_unique n A p q o l f.0)) (sym f.1)) (expansion_fits q (suc n) p o)),
)

-- ---- a burst
pub value-digits : (n : ℕ) (bytes : List ℕ) (p : ℤ) (q : ℕ) → ((i : ℕ) → i < n → bit_at bytes i ≡ digit_at q p i) → value bytes n ≡ digits_to q n p
unfolding value digits_to
value-digits zero bytes p q h = refl
value-digits (suc n) bytes p q h = ap₂ (λ (x y : ℕ). x + y * 2 ^ n) (value-digits n bytes p q (λ i l. h i (omega arith))) (h n (omega arith))

each_digit : (n : ℕ) (bytes : List ℕ) (p : ℤ) (q : ℕ) → value bytes n ≡ digits_to q n p → (i : ℕ) → i < n → bit_at bytes i ≡ digit_at q p i
unfolding value digits_to
each_digit zero bytes p q e i l = absurd (omega arith)
each_digit (suc n) bytes p q e i l =
    let t = top_digit (2 ^ n) (value bytes n) (digits_to q n p) (bit_at bytes n) (digit_at q p n) (value_lt bytes n) (digits_lt q n p) (bit_lt bytes n) (odd_lt (iter_num q n p)) e in
    last n i l (each_digit n bytes p q t.0) t.1
  where
    last : (n i : ℕ) → i < suc n → ((i : ℕ) → i < n → bit_at bytes i ≡ digit_at q p i) → bit_at bytes n ≡ digit_at q p n → bit_at bytes i ≡ digit_at q p i
    last n i l f e = elim (le_or_gt n i) [ inl k ↦ subst (λ (j : ℕ). bit_at bytes j ≡ digit_at q p j) (same n i l k) e | inr k ↦ f i k ]
      where
        same : (n i : ℕ) → i < suc n → n ≤ i → n ≡ i
        same n i l k = omega arith

pub fits_digits : (n : ℕ) (bytes : List ℕ) (p : ℤ) (q : ℕ) → q % 2 ≡ 1 → Fits n (value bytes n) p q ↔ ((i : ℕ) → i < n → bit_at bytes i ≡ digit_at q p i)
fits_digits n bytes p q o = (
  (λ f. each_digit n bytes p q (expansion_unique n (value bytes n) p q o (value_lt bytes n) f)),
  (λ h. subst (λ (x : ℕ). Fits n x p q) (sym (value-digits n bytes p q h)) (expansion_fits q n p o)),
)

-- ---- bit i is digit i
low_digit : (q n : ℕ) (p : ℤ) → digits_to q (1 + n) p % 2 ≡ odd_z p
unfolding digits_to iter_num
low_digit q n p = ap (λ (x : ℕ). x % 2) (digits_add q 1 n p) ∙ even (odd_z p) (digits_to q n (next_num q p)) (odd_lt p)
  where
    even : (a b : ℕ) → a < 2 → (0 + a * 1 + 2 * b) % 2 ≡ a
    even a b h = omega arith

pub digits_bit : (q n i : ℕ) (p : ℤ) → i < n → bit_of (digits_to q n p) i ≡ digit_at q p i
digits_bit q n i p l =
    ap (λ (x : ℕ). x / 2 ^ i % 2) (ap (λ (k : ℕ). digits_to q k p) whole ∙ digits_add q i (1 + (n - (i + 1))) p)
    ∙ ap (λ (x : ℕ). x % 2) (add-mul-div_left (digits_to q i p) (digits_to q (1 + (n - (i + 1))) (iter_num q i p)) (pow_pos i) ∙ ap (λ (x : ℕ). x + digits_to q (1 + (n - (i + 1))) (iter_num q i p)) (div-eq_of_lt (digits_lt q i p)) ∙ zero-add _)
    ∙ low_digit q (n - (i + 1)) (iter_num q i p)
  where
    whole : n ≡ i + (1 + (n - (i + 1)))
    whole = omega arith

-- ---- the output word
pub outputs_bit : (p : ℤ) (q u i : ℕ) → Outputs p q 0 u → i < 64 → bit_of u i ≡ digit_at q p i
outputs_bit p q u i (word k l f) h = ap (λ (x : ℕ). bit_of x i) (expansion_unique 64 u p q k.odd l f) ∙ digits_bit q 64 i p h

pub outputs_unique : (p : ℤ) (q m n u v : ℕ) → Outputs p q m u → Outputs p q n v → (m ≡ n) × (u ≡ v)
outputs_unique p q m n u v (word k l f) (word i h g) = (refl, expansion_unique 64 u p q k.odd l f ∙ sym (expansion_unique 64 v p q k.odd h g))
outputs_unique p q m n u v (word k l f) (outside x) = absurd (x k)
outputs_unique p q m n u v (outside x) (word k l f) = absurd (x k)
outputs_unique p q m n u v (outside x) (outside y) = (refl, refl)

pub output_unique : (p : ℤ) (q : ℕ) (r s : Result ℕ Outside) → Outputs p q (number_of r) (word_of r) → Outputs p q (number_of s) (word_of s) → r ≡ s
output_unique p q (Ok u) (Ok v) h k = ap Ok (outputs_unique p q 0 0 u v h k).1
output_unique p q (Ok u) (Err x) h k = absurd (omega (arith, (outputs_unique p q 0 4 u 0 h k).0))
output_unique p q (Err x) (Ok v) h k = absurd (omega (arith, (outputs_unique p q 4 0 0 v h k).0))
output_unique p q (Err x) (Err y) h k = refl
