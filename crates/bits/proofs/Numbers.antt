-- One law for each fact on digits and numbers, over the base.
use Prim.Native.Nat.{ℕ, zero, suc, ◌+◌, ◌*◌, ◌/◌, ◌%◌, ◌^◌, ◌≤◌, ◌<◌}
use mathlib.Core.Path.{◌≡◌, refl, sym, ap, ◌∙◌}
use mathlib.Core.List.{List, [], ◌∷◌, ◌++◌}
use native.Mathlib.Nat.{pow-succ', pow-suc, pow-zero, mod-add-div, mod-lt, mod-eq_of_lt, div-eq_of_lt, add-mul-mod_self_left, add-mul-div_left, div-lt_iff_lt-mul, mul-le-mul_left, div-div-eq-div-mul, div-one, zero-add}
use lib.Pow.{pow-add}
use native.Mathlib.Omega.{arith}
use lib.ListN.{length, take, drop, get_or, set, take-append-drop}
use lib.Seq.{length-take-le}
use Rattle.bits.specs.Bits.{num, digits, Below}

pub num_append : (b : ℕ) (xs ys : List ℕ) → num b (xs ++ ys) ≡ num b xs + b ^ length xs * num b ys
unfolding num
num_append b [] ys = rw (pow-zero b) (omega arith)
num_append b (x ∷ xs) ys = rw (num_append b xs ys, pow-succ' b (length xs)) (omega arith)

pub length_digits : (b k n : ℕ) → length (digits b k n) ≡ k
unfolding digits
length_digits b zero n = refl
length_digits b (suc k) n = ap suc (length_digits b k (n / b))

pub num-digits : (b k n : ℕ) → 0 < b → n < b ^ k → num b (digits b k n) ≡ n
unfolding num digits
num-digits b zero n h l = omega (arith, pow-zero b)
num-digits b (suc k) n h l =
    rw (num-digits b k (n / b) h ((div-lt_iff_lt-mul h).1 (rw pow-suc at l))) (mod-add-div n b)

pub digits-num : (b : ℕ) (xs : List ℕ) → 0 < b → Below b xs → digits b (length xs) (num b xs) ≡ xs
unfolding num digits
digits-num b [] h l = refl
digits-num b (x ∷ xs) h l =
    rw (add-mul-mod_self_left x b (num b xs), add-mul-div_left x (num b xs) h, mod-eq_of_lt (l 0), div-eq_of_lt (l 0), zero-add)
    (ap (λ (t : List ℕ). x ∷ t) (digits-num b xs h (λ i. l (suc i))))

pub num_lt : (b : ℕ) (xs : List ℕ) → Below b xs → num b xs < b ^ length xs
unfolding num
num_lt b [] l = omega (arith, pow-zero b)
num_lt b (x ∷ xs) l = rw pow-succ' (omega (arith, l 0, mul-le-mul_left b (num_lt b xs (λ i. l (suc i)))))

pub num-set : (b : ℕ) (xs : List ℕ) (i d : ℕ) → i < length xs → num b (set xs i (get_or xs i 0 + d)) ≡ num b xs + b ^ i * d
unfolding num
num-set b [] i d h = absurd (omega arith)
num-set b (x ∷ xs) zero d h = rw (pow-zero b) (omega arith)
num-set b (x ∷ xs) (suc i) d h = rw (num-set b xs i d (omega arith), pow-succ' b i) (omega arith)

pub num-split : (b : ℕ) (xs : List ℕ) (i : ℕ) → i ≤ length xs → num b xs ≡ num b (take i xs) + b ^ i * num b (drop i xs)
num-split b xs i h =
    sym (ap (num b) (take-append-drop i xs)) ∙ num_append b (take i xs) (drop i xs) ∙ ap (λ (n : ℕ). num b (take i xs) + b ^ n * num b (drop i xs)) (length-take-le i xs h)

pub get_or-digits : (b k n i : ℕ) → i < k → get_or (digits b k n) i 0 ≡ n / b ^ i % b
unfolding digits
get_or-digits b zero n i h = absurd (omega arith)
get_or-digits b (suc k) n zero h = rw (pow-zero b, div-one) refl
get_or-digits b (suc k) n (suc i) h = get_or-digits b k (n / b) i (omega arith) ∙ ap (λ (m : ℕ). m % b) (div-div-eq-div-mul n b (b ^ i) ∙ ap (λ (m : ℕ). n / m) (sym (pow-succ' b i)))

pub digits-below : (b k n : ℕ) → 0 < b → Below b (digits b k n)
unfolding digits
digits-below b zero n h i = h
digits-below b (suc k) n h zero = mod-lt n h
digits-below b (suc k) n h (suc i) = digits-below b k (n / b) h i

pub below_append : (b : ℕ) (xs ys : List ℕ) → Below b xs → Below b ys → Below b (xs ++ ys)
below_append b [] ys l m i = m i
below_append b (x ∷ xs) ys l m zero = l 0
below_append b (x ∷ xs) ys l m (suc i) = below_append b xs ys (λ j. l (suc j)) m i

-- 256 is 2 ^ 8
pub pow8 : (k : ℕ) → 256 ^ k ≡ 2 ^ (8 * k)
pow8 zero = refl
pow8 (suc k) = pow-succ' 256 k ∙ ap (λ (n : ℕ). 256 * n) (pow8 k) ∙ sym (pow-add 2 8 (8 * k)) ∙ ap (λ (n : ℕ). 2 ^ n) (omega arith)
