-- Numbers read from text.
--
--   own            the words of Numerals are those of the library's `parse`
--   plus_no, no_text, parsed_is   the answer: a plus is in front, the bytes are no text, or what the library's `parse` says
--   says_unique    any two answers for the same bytes are the same
--   says_exists    every text has an answer
--   decimal_says   a number below 2^32 is read from its own text
use mathlib.Core.Path.{◌≡◌, refl, sym, ap, ◌∙◌, subst}
use mathlib.Core.List.{List, [], ◌∷◌, ◌++◌}
use Prim.Native.Nat.{ℕ, suc, ◌+◌, ◌-◌, ◌*◌, ◌%◌, ◌^◌, ◌≤◌, ◌<◌}
use native.Mathlib.Omega.{arith}
use native.Mathlib.Decide.{dec_le}
use lib.ListN.{length, get_or, drop, length-append}
use Rattle.std.specs.Prelude.{Option, Some, None, Result, Ok, Err, IsUtf8, nat_eq}
use Rattle.std.specs.List.{starts_with}
use Rattle.std.specs.Result.{OkIff, result_ok}
use Rattle.std.proofs.lemmas.Slice.Eq.{starts_is}
use Rattle.std.proofs.Common.{Bool, true, false, true≢false}
use Rattle.std.proofs.lemmas.Bool.Decides.{Decides-eqb}
use Rattle.std.specs.Str.Parse.{ParsesUnsigned}
use Rattle.std.proofs.lemmas.Str.{IsUtf8-from_ascii}
use Rattle.std.proofs.lemmas.Str.Parse.{IsDigitsTest, FoldsDigits, IsNumeralModel, numerals_by_fold, not_in_digits, parse_plain}
use Rattle.std.proofs.lemmas.Fmt.{IsAscii-from_digits}
use Rattle.text.specs.Text.{digit_of, decimal_of}
use Rattle.text.specs.Numerals.{Digits, value_from, value_of, Says, number, none}
use Rattle.text.proofs.Digits.{Spelt, single, longer, spelt, value_decimal}

digits_test : IsDigitsTest Digits
unfolding Digits
digits_test = record { empty = tt; parts = λ c cs d. (d.0, d.1); more = λ c cs k d. (k, d) }

value_folds : FoldsDigits value_from
unfolding value_from
value_folds =
    record {
      empty = λ n. refl;
      more = λ n c cs k. ap (λ (m : ℕ). value_from m cs) (let e : 10 * n + (c - digit_of 0) ≡ n * 10 + (c - 48) = omega arith in e);
    }

-- the words of Numerals are the library's, of decimal digits
pub own : IsNumeralModel Digits value_of
own = numerals_by_fold Digits digits_test value_from value_folds

-- a plus in front, as `starts_with` tells it
plus_first : (s : List ℕ) {b : Bool} → b ≡ starts_with nat_eq s (43 ∷ []) → (b ≡ true → get_or s 0 0 ≡ 43) × (get_or s 0 0 ≡ 43 → b ≡ true)
plus_first s {b} e = let k = starts_is Decides-eqb s (43 ∷ []) b e in (λ t. ap (λ (x : List ℕ). get_or x 0 0) (k.0 t), λ h. k.1 (drop 1 s) (first s h))
  where
    first : (s : List ℕ) → get_or s 0 0 ≡ 43 → s ≡ 43 ∷ drop 1 s
    first [] h = absurd (let z : 0 ≡ 43 = h in omega arith)
    first (x ∷ xs) h = ap (λ (y : ℕ). y ∷ xs) h

pub plus_no : {s : List ℕ} {b : Bool} → b ≡ starts_with nat_eq s (43 ∷ []) → b ≡ true → Says s None
plus_no {s} e t = none (λ w. not_in_digits own s 43 w.digits (λ k. omega (arith, k.0)) 0 w.some ((plus_first s e).0 t))

pub no_text : {s : List ℕ} → (IsUtf8 s → ⊥) → Says s None
no_text {s} n = none (λ w. n (IsUtf8-from_ascii s (IsAscii-from_digits s (own.to s w.digits))))

pub parsed_is : {E : Type 0} {s t : List ℕ} {b : Bool} (r : Result ℕ E) → b ≡ starts_with nat_eq s (43 ∷ []) → b ≡ false → t ≡ s → ParsesUnsigned 32 10 t r → Says s (result_ok r)
parsed_is {s = s} {b = b} r e f same h = go r (parse_plain own 32 s r (subst (λ (x : List ℕ). ParsesUnsigned 32 10 x r) same h) (λ p. true≢false (sym ((plus_first s e).1 p) ∙ f)))
  where
    go : {E : Type 0} (r : Result ℕ E) → OkIff r (Digits s × (0 < length s) × (value_of s < 2 ^ 32)) (value_of s) → Says s (result_ok r)
    go (Ok n) k = subst (λ (m : ℕ). Says s (Some m)) (sym k.1) (number (record { some = k.0.1; digits = k.0.0; small = k.0.2 }))
    go (Err d) k = none (λ w. k (w.digits, w.some, w.small))

-- ---- one answer, and always one
pub says_unique : {s : List ℕ} {x y : Option ℕ} → Says s x → Says s y → x ≡ y
says_unique (number w) (number w') = refl
says_unique (number w) (none n) = absurd (n w)
says_unique (none n) (number w) = absurd (n w)
says_unique (none n) (none n') = refl

digits_dec : (s : List ℕ) → Dec (Digits s)
unfolding Digits
digits_dec [] = yes tt
digits_dec (x ∷ xs) = go (dec_le (digit_of 0) x) (dec_le x (digit_of 9)) (digits_dec xs)
  where
    go : Dec (digit_of 0 ≤ x) → Dec (x ≤ digit_of 9) → Dec (Digits xs) → Dec (((digit_of 0 ≤ x) × (x ≤ digit_of 9)) × Digits xs)
    go (yes a) (yes b) (yes d) = yes ((a, b), d)
    go (yes a) (yes b) (no d) = no (λ h. d h.1)
    go (yes a) (no b) d = no (λ h. b h.0.1)
    go (no a) b d = no (λ h. a h.0.0)

pub says_exists : (s : List ℕ) → (x : Option ℕ) × Says s x
says_exists s = go (dec_le 1 (length s)) (digits_dec s) (dec_le (suc (value_of s)) (2 ^ 32))
  where
    go : Dec (1 ≤ length s) → Dec (Digits s) → Dec (suc (value_of s) ≤ 2 ^ 32) → (x : Option ℕ) × Says s x
    go (yes a) (yes d) (yes b) = (Some (value_of s), number (record { some = a; digits = d; small = b }))
    go (yes a) (yes d) (no b) = (None, none (λ w. b w.small))
    go (yes a) (no d) b = (None, none (λ w. d w.digits))
    go (no a) d b = (None, none (λ w. a w.some))

-- ---- a number's own text
digits_append : (s t : List ℕ) → Digits s → Digits t → Digits (s ++ t)
unfolding Digits
digits_append [] t h k = k
digits_append (x ∷ s) t h k = (h.0, digits_append s t h.1 k)

digits-spelt : {n : ℕ} {s : List ℕ} → Spelt n s → (0 < length s) × Digits s
unfolding Digits
digits-spelt (single h) = (omega arith, ((omega arith, omega arith), tt))
digits-spelt (longer {n} {s} h t) = (rw length-append (omega arith), digits_append s (digit_of (n % 10) ∷ []) (digits-spelt t).1 ((omega arith, omega arith), tt))

pub decimal_says : (n : ℕ) → n < 2 ^ 32 → Says (decimal_of n) (Some n)
decimal_says n h =
    let d = digits-spelt (spelt n) in
    let e = value_decimal n in
    subst (λ (k : ℕ). Says (decimal_of n) (Some k)) e (number (record { some = d.0; digits = d.1; small = omega arith }))
