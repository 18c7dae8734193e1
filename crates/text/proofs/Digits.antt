-- Numbers as text: what the library writes is the number's text, and its value is the number.
--
--   Spelt, spelt                     the digits of a number from the last to the first
--   decimal_is, signed_is, signed_32_is   the library writes a number's text
--   value_decimal                    a text's value is the number, so decimal_unique and signed_unique: two numbers with one text are one number
--   Above, decimal_above, signed_above, field_unique   a field ends at its separator, since every byte of it is above that
use mathlib.Core.Path.{◌≡◌, refl, sym, ap, ◌∙◌, subst}
use mathlib.Core.List.{List, [], ◌∷◌, ◌++◌}
use Prim.Native.Nat.{ℕ, zero, suc, ◌+◌, ◌-◌, ◌*◌, ◌/◌, ◌%◌, ◌^◌, ◌≤◌, ◌<◌}
use native.Mathlib.Omega.{arith}
use native.Mathlib.Nat.{suc_inj}
use lib.Dec.{lit<}
use lib.IntN.{ℤ, pos, negsuc, nat_abs}
use mathlib.Core.Logic.{⊎_elim}
use borrow.Author.Tests.{lt-ltb, le-ltb}
use Rattle.integers.proofs.Finite.{lt_or_ge}
use mir.Syntax.{w32}
use mir.Val.{SFits, to_z, of_z}
use mir.ValLaws.{to_z-of_z}
use Rattle.std.specs.Fmt.{decimal, signed_decimal}
use Rattle.std.proofs.lemmas.Fmt.{decimal_digit, decimal_step}
use Rattle.text.specs.Text.{digit_of, decimal_in, decimal_of, signed_of, minus_sign}
use Rattle.text.specs.Numerals.{value_from, value_of}

-- ---- one digit, and more than one

one : (turns n : ℕ) → n < 10 → decimal_in turns n ≡ digit_of n ∷ []
unfolding decimal_in
one zero n h = refl
one (suc turns) n h = simp (lt-ltb n 10 h)

more : (turns n : ℕ) → 10 ≤ n → decimal_in (suc turns) n ≡ decimal_in turns (n / 10) ++ (digit_of (n % 10) ∷ [])
unfolding decimal_in
more turns n h = simp (le-ltb n 10 h)

-- the digits of a text from the last to the first: what every law below goes by
pub data Spelt : ℕ → List ℕ → Type 0 where
  single : {n : ℕ} → n < 10 → Spelt n (digit_of n ∷ [])
  longer : {n : ℕ} {s : List ℕ} → 10 ≤ n → Spelt (n / 10) s → Spelt n (s ++ (digit_of (n % 10) ∷ []))

spelt_in : (turns n : ℕ) → n ≤ turns → Spelt n (decimal_in turns n)
spelt_in zero n h = rw (one zero n (omega arith)) (single {n = n} (omega arith))
spelt_in (suc turns) n h =
    ⊎_elim (λ small. rw (one (suc turns) n small) (single small))
    (λ large. rw (more turns n large) (longer large (spelt_in turns (n / 10) (omega arith))))
    (lt_or_ge n 10)

pub spelt : (n : ℕ) → Spelt n (decimal_of n)
unfolding decimal_of
spelt n = spelt_in n n (omega arith)

-- ---- the library's text of a number

decimal-spelt : {n : ℕ} {s : List ℕ} → Spelt n s → n < 2 ^ 64 → decimal n ≡ s
decimal-spelt (single {n} h) b = decimal_digit n h
decimal-spelt (longer {n} {s} h t) b = decimal_step n h b ∙ ap (λ (x : List ℕ). x ++ (digit_of (n % 10) ∷ [])) (decimal-spelt t (omega arith))

pub decimal_is : (n : ℕ) → n < 2 ^ 64 → decimal n ≡ decimal_of n
decimal_is n b = decimal-spelt (spelt n) b

pub signed_is : (z : ℤ) → nat_abs z < 2 ^ 64 → signed_decimal z ≡ signed_of z
signed_is (pos n) b = decimal_is n b
signed_is (negsuc n) b = ap (λ (s : List ℕ). minus_sign ∷ s) (decimal_is (suc n) b)

-- .. of a number in 32 bits, as the library reads it back from them
pub signed_32_is : (z : ℤ) → SFits w32 z → signed_decimal (to_z w32 (of_z w32 z)) ≡ signed_of z
signed_32_is z f = ap signed_decimal (to_z-of_z w32 z f) ∙ signed_is z (size z f)
  where
    size : (z : ℤ) → SFits w32 z → nat_abs z < 2 ^ 64
    size (pos n) f = omega (arith, f.sfits)
    size (negsuc n) f = omega (arith, f.sfits)

pub fits_32 : (z : ℤ) → nat_abs z < 2 ^ 31 → SFits w32 z
fits_32 (pos n) h = record { sfits = h }
fits_32 (negsuc n) h = record { sfits = omega arith }

-- ---- what a text says

value_append : (a : ℕ) (s t : List ℕ) → value_from a (s ++ t) ≡ value_from (value_from a s) t
unfolding value_from
value_append a [] t = refl
value_append a (x ∷ s) t = value_append (10 * a + (x - digit_of 0)) s t

value-spelt : {n : ℕ} {s : List ℕ} → Spelt n s → value_from 0 s ≡ n
unfolding value_from
value-spelt (single h) = omega arith
value-spelt (longer {n} {s} h t) = value_append 0 s _ ∙ rw (value-spelt t) (omega arith)

pub value_decimal : (n : ℕ) → value_of (decimal_of n) ≡ n
value_decimal n = value-spelt (spelt n)

pub decimal_unique : (m n : ℕ) → decimal_of m ≡ decimal_of n → m ≡ n
decimal_unique m n e = sym (value_decimal m) ∙ ap (value_from 0) e ∙ value_decimal n

-- ---- its bytes

-- every byte is above b: the digits are above the sign, and both above the space and the line end
unfoldable pub Above : ℕ → List ℕ → Type 0
Above b [] = Unit {0}
Above b (x ∷ xs) = (b < x) × Above b xs

above_append : (b : ℕ) (s t : List ℕ) → Above b s → Above b t → Above b (s ++ t)
unfolding Above
above_append b [] t h k = k
above_append b (x ∷ s) t h k = (h.0, above_append b s t h.1 k)

above_spelt : {n : ℕ} {s : List ℕ} (b : ℕ) → b < 48 → Spelt n s → Above b s
unfolding Above
above_spelt b l (single h) = (omega arith, tt)
above_spelt b l (longer {n} {s} h t) = above_append b s (digit_of (n % 10) ∷ []) (above_spelt b l t) (omega arith, tt)

pub decimal_above : (b n : ℕ) → b < 48 → Above b (decimal_of n)
decimal_above b n l = above_spelt b l (spelt n)

pub signed_above : (b : ℕ) (z : ℤ) → b < 45 → Above b (signed_of z)
unfolding Above
signed_above b (pos n) l = decimal_above b n (omega arith)
signed_above b (negsuc n) l = (l, decimal_above b (suc n) (omega arith))

no_sign : (n : ℕ) (s : List ℕ) → decimal_of n ≡ minus_sign ∷ s → ⊥
unfolding Above
no_sign n s e = let h : 45 < 45 = (subst (Above 45) e (decimal_above 45 n (lit< tt))).0 in omega arith

pub signed_unique : (y z : ℤ) → signed_of y ≡ signed_of z → y ≡ z
signed_unique (pos m) (pos n) e = ap pos (decimal_unique m n e)
signed_unique (pos m) (negsuc n) e = absurd (no_sign m _ e)
signed_unique (negsuc m) (pos n) e = absurd (no_sign n _ (sym e))
signed_unique (negsuc m) (negsuc n) e = ap negsuc (suc_inj (decimal_unique (suc m) (suc n) (cons_inj e)))
  where
    cons_inj : {x y : ℕ} {s t : List ℕ} → x ∷ s ≡ y ∷ t → s ≡ t
    cons_inj e = cc

-- ---- texts with a separator behind them

-- a text ends at the first byte that is not above the separators, so that two lines that are equal have equal fields
pub field_unique : (b : ℕ) (s s' t t' : List ℕ) {x x' : ℕ} → Above b s → Above b s' → x ≤ b → x' ≤ b → s ++ (x ∷ t) ≡ s' ++ (x' ∷ t') → (s ≡ s') × (t ≡ t')
unfolding Above
field_unique b [] [] t t' h h' l l' e = (refl, cc)
field_unique b [] (y ∷ s') t t' {x} h h' l l' e = absurd (let q : x ≡ y = cc in omega (arith, h'.0))
field_unique b (y ∷ s) [] t t' {x} {x'} h h' l l' e = absurd (let q : y ≡ x' = cc in omega (arith, h.0))
field_unique b (y ∷ s) (y' ∷ s') t t' {x} {x'} h h' l l' e =
    let q : y ≡ y' = cc in
    let r : s ++ (x ∷ t) ≡ s' ++ (x' ∷ t') = cc in
    let u = field_unique b s s' t t' h.1 h'.1 l l' r in
    (λ i. q i ∷ u.0 i, u.1)
