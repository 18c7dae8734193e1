-- Laws on the number of a list of bytes: where none of its bits stands at or past a count.
use Prim.Native.Nat.{ℕ, zero, suc, ◌+◌, ◌*◌, ◌/◌, ◌%◌, ◌^◌, ◌≤◌, ◌<◌}
use mathlib.Core.Path.{◌≡◌, refl, sym, ap, ◌∙◌, subst}
use mathlib.Core.Bool.{true, false}
use mathlib.Core.List.{List, [], ◌∷◌}
use native.Mathlib.Nat.{div-lt_iff_lt-mul, le-div_iff_mul-le, mul-le-mul_left, lt_of_mul-lt-mul_left, div-add-mod}
use native.Mathlib.Omega.{arith}
use native.Mathlib.Numerals.{add-one}
use lib.ListN.{length, take, drop, get_or}
use lib.Seq.{drop-cons, length-take-le}
use lib.Pow.{pow_pos, pow_mono, pow-add}
use lib.Dec.{ltb, eqb, eqb-suc-zero}
use borrow.Author.Tests.{ltb-true, lt-ltb, le-ltb}
use Rattle.std.proofs.lemmas.Bool.{ltb_from_iff}
use Rattle.std.specs.List.{list_all}
use Rattle.bits.specs.Bits.{num, Below}
use Rattle.bits.proofs.Numbers.{num-split, num_lt, pow8}

ltb_same : (a b c d : ℕ) → (a < b → c < d) → (c < d → a < b) → ltb a b ≡ ltb c d
ltb_same a b c d f g = ltb_from_iff ((λ e. f (ltb-true a b e)), (λ h. lt-ltb a b (g h)))

-- one byte of the test
pub pow_below : (l : ℕ) → l < 8 → 2 ^ l ≤ 128
pow_below l k = pow_mono {i = l} {j = 7} (omega arith)

fit_small : (x n l : ℕ) → l < 8 → x / 2 ^ l ≡ 0 → ltb (x + 256 * n) (2 ^ l) ≡ ltb n 1
fit_small x n l k z =
    let b = pow_below l k in
    let y : x < 1 * 2 ^ l = (div-lt_iff_lt-mul {k = 2 ^ l} {x = x} {y = 1} (pow_pos l)).0 (omega arith) in
    ltb_same (x + 256 * n) (2 ^ l) n 1 (λ p. omega arith) (λ p. omega arith)

fit_no : (x n l : ℕ) → (x / 2 ^ l ≡ 0 → ⊥) → ltb (x + 256 * n) (2 ^ l) ≡ false
fit_no x n l z =
    let y : 1 * 2 ^ l ≤ x = (le-div_iff_mul-le {k = 2 ^ l} {x = 1} {y = x} (pow_pos l)).0 (omega (arith, z)) in
    le-ltb (x + 256 * n) (2 ^ l) (omega arith)

-- and of those past it: a number is 0 where all its bytes are
all_zero : (xs : List ℕ) → list_all (λ x. eqb x 0) xs ≡ ltb (num 256 xs) 1
unfolding num
all_zero [] = refl
all_zero (zero ∷ xs) = all_zero xs ∙ ltb_same (num 256 xs) 1 (0 + 256 * num 256 xs) 1 (λ p. omega arith) (λ p. omega arith)
all_zero (suc x ∷ xs) = rw (eqb-suc-zero x) (sym (le-ltb (suc x + 256 * num 256 xs) 1 (omega arith)))

pub num-drop : (bytes : List ℕ) (i : ℕ) → i < length bytes → num 256 (drop i bytes) ≡ get_or bytes i 0 + 256 * num 256 (drop (i + 1) bytes)
unfolding num
num-drop bytes i h = rw (drop-cons bytes i 0 h, add-one i) refl

pub below-take : (b : ℕ) (xs : List ℕ) (j : ℕ) → 0 < b → Below b xs → Below b (take j xs)
below-take b xs zero h l i = h
below-take b [] (suc j) h l i = h
below-take b (x ∷ xs) (suc j) h l zero = l 0
below-take b (x ∷ xs) (suc j) h l (suc i) = below-take b xs j h (λ k. l (suc k)) i

-- the whole bytes below the count do not decide
past_count : (bytes : List ℕ) (count : ℕ) → Below 256 bytes → count / 8 < length bytes
    → ltb (num 256 bytes) (2 ^ count) ≡ ltb (get_or bytes (count / 8) 0 + 256 * num 256 (drop (count / 8 + 1) bytes)) (2 ^ (count % 8))
past_count bytes count l h =
    ltb_same (num 256 bytes) (2 ^ count) (num 256 (drop k bytes)) (2 ^ r) down up ∙ ap (λ (n : ℕ). ltb n (2 ^ r)) (num-drop bytes k h)
  where
    k : ℕ
    k = count / 8

    r : ℕ
    r = count % 8

    low : num 256 (take k bytes) < 256 ^ k
    low = subst (λ (n : ℕ). num 256 (take k bytes) < 256 ^ n) (length-take-le k bytes (omega arith)) (num_lt 256 (take k bytes) (below-take 256 bytes k (omega arith) l))

    whole : 2 ^ count ≡ 256 ^ k * 2 ^ r
    whole = ap (λ (n : ℕ). 2 ^ n) (sym (div-add-mod count 8)) ∙ pow-add 2 (8 * k) r ∙ ap (λ (n : ℕ). n * 2 ^ r) (sym (pow8 k))

    split : num 256 bytes ≡ num 256 (take k bytes) + 256 ^ k * num 256 (drop k bytes)
    split = num-split 256 bytes k (omega arith)

    up : num 256 (drop k bytes) < 2 ^ r → num 256 bytes < 2 ^ count
    up p = omega (arith, low, whole, split, mul-le-mul_left (256 ^ k) p)

    down : num 256 bytes < 2 ^ count → num 256 (drop k bytes) < 2 ^ r
    down p = lt_of_mul-lt-mul_left (256 ^ k) (omega (arith, whole, split))

-- nothing stands past the count where the bytes end before it
pub fits_short : (bytes : List ℕ) (count : ℕ) → Below 256 bytes → length bytes ≤ count / 8 → true ≡ ltb (num 256 bytes) (2 ^ count)
fits_short bytes count l h =
    sym (lt-ltb (num 256 bytes) (2 ^ count) (omega (arith, num_lt 256 bytes l, pow8 (length bytes), pow_mono {i = 8 * length bytes} {j = count} (omega arith))))

-- the byte that the count ends in has a bit past it, or has none: then the bytes past it decide
pub past_no : (bytes : List ℕ) (count : ℕ) → Below 256 bytes → count / 8 < length bytes → (get_or bytes (count / 8) 0 / 2 ^ (count % 8) ≡ 0 → ⊥) → false ≡ ltb (num 256 bytes) (2 ^ count)
past_no bytes count l h z = sym (past_count bytes count l h ∙ fit_no (get_or bytes (count / 8) 0) (num 256 (drop (count / 8 + 1) bytes)) (count % 8) z)

pub past_all : (bytes : List ℕ) (count : ℕ) → Below 256 bytes → count / 8 < length bytes → get_or bytes (count / 8) 0 / 2 ^ (count % 8) ≡ 0
    → list_all (λ x. eqb x 0) (drop (count / 8 + 1) bytes) ≡ ltb (num 256 bytes) (2 ^ count)
past_all bytes count l h z =
    all_zero (drop (count / 8 + 1) bytes)
    ∙ sym (past_count bytes count l h ∙ fit_small (get_or bytes (count / 8) 0) (num 256 (drop (count / 8 + 1) bytes)) (count % 8) (omega arith) z)
