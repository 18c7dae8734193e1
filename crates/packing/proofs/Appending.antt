-- Appending bits: where the loop stands, and what one word adds.
use Prim.Native.Nat.{ℕ, zero, suc, ◌+◌, ◌*◌, ◌/◌, ◌%◌, ◌^◌, ◌≤◌, ◌<◌}
use mathlib.Core.Path.{◌≡◌, refl, sym, ap, ◌∙◌, subst}
use mathlib.Core.List.{List, [], ◌∷◌}
use native.Mathlib.Nat.{mod-eq_of_lt, mul-le-mul_left, lt_of_mul-lt-mul_left, pow-le-pow_right, div-add-mod, mul-le-mul, add-zero}
use mathlib.Core.Logic.{⊎_elim}
use native.Mathlib.Omega.{arith}
use native.Mathlib.Numerals.{add-one}
use lib.ListN.{length, take, drop, get_or, set, length-set}
use lib.Seq.{take-suc, length-take-le, get_or-drop, take_all}
use lib.Pow.{pow-add}
use Rattle.bits.specs.Bits.{num, digits, Below}
use Rattle.packing.specs.Inner.{WordFits, MoreFits}
use Rattle.integers.proofs.Finite.{lt_or_ge}
use Rattle.bits.proofs.Numbers.{num_append, num-split, num-set, num_lt, digits-num, pow8}
use Rattle.bits.proofs.Laws.{pow_below, below-take, num-drop}

-- where `add_bits` stands: the first j bytes of `more` are in
pub record Added (bytes : List ℕ) (have : ℕ) (more now : List ℕ) (j : ℕ) : Type 0 where
  pub within : j ≤ length more
  pub long : length now ≡ length bytes
  pub low : Below 256 now
  pub sum : num 256 now ≡ num 256 bytes + 2 ^ have * num 256 (take j more)

-- 2 ^ have, by the whole bytes and the rest
split_have : (have j : ℕ) → 2 ^ have * 256 ^ j ≡ 256 ^ (have / 8 + j) * 2 ^ (have % 8)
split_have have j =
    let e : 2 ^ have ≡ 256 ^ (have / 8) * 2 ^ (have % 8) = ap (λ (n : ℕ). 2 ^ n) (sym (div-add-mod have 8)) ∙ pow-add 2 (8 * (have / 8)) (have % 8) ∙ ap (λ (n : ℕ). n * 2 ^ (have % 8)) (sym (pow8 (have / 8))) in
    rw (e, pow-add 256 (have / 8) j) (omega arith)

byte_room : (s x v : ℕ) → s < 8 → x < 2 ^ s → x + v * 2 ^ s % 256 < 256
byte_room zero x v k h = omega arith
byte_room (suc zero) x v k h = omega arith
byte_room (suc (suc zero)) x v k h = omega arith
byte_room (suc (suc (suc zero))) x v k h = omega arith
byte_room (suc (suc (suc (suc zero)))) x v k h = omega arith
byte_room (suc (suc (suc (suc (suc zero))))) x v k h = omega arith
byte_room (suc (suc (suc (suc (suc (suc zero)))))) x v k h = omega arith
byte_room (suc (suc (suc (suc (suc (suc (suc zero))))))) x v k h = omega arith
byte_room (suc (suc (suc (suc (suc (suc (suc (suc s)))))))) x v k h = absurd (omega arith)

take_next : (more : List ℕ) (j : ℕ) → j < length more → num 256 (take (j + 1) more) ≡ num 256 (take j more) + 256 ^ j * get_or more j 0
unfolding num
take_next more j h =
    rw (add-one j, take-suc more j 0 h, num_append 256 (take j more) (get_or more j 0 ∷ []), length-take-le j more (omega arith)) (omega arith)

num_none : (xs : List ℕ) → num 256 xs ≡ 0 → get_or xs 0 0 ≡ 0
unfolding num
num_none [] e = refl
num_none (x ∷ xs) e = omega arith

module _ (bytes : List ℕ) (have : ℕ) (more now : List ℕ) (j : ℕ) (fit : MoreFits bytes have more) (low : Below 256 more) (a : Added bytes have more now j) (h : j < length more) where
  inside : have / 8 + j < length now
  inside = omega (arith, fit.room, a.long)

  -- the bits past those that are in are zero
  rest_low : num 256 (drop (have / 8 + j) now) < 2 ^ (have % 8)
  rest_low =
      let t : num 256 (take j more) < 256 ^ length (take j more) = num_lt 256 (take j more) (below-take 256 more j (omega arith) low) in
      let t' : num 256 (take j more) < 256 ^ j = subst (λ (n : ℕ). num 256 (take j more) < 256 ^ n) (length-take-le j more (omega arith)) t in
      lt_of_mul-lt-mul_left (256 ^ (have / 8 + j))
      (omega (arith, split_have have j, mul-le-mul_left (2 ^ have) t', fit.held, a.sum, num-split 256 now (have / 8 + j) (let i = inside in omega arith)))

  total_low : 256 ^ (have / 8 + j) * (get_or more j 0 * 2 ^ (have % 8)) < 256 ^ length bytes
  total_low =
      let m : 256 ^ j * get_or more j 0 ≤ num 256 more = omega (arith, num-split 256 more j (omega arith), ap (λ (n : ℕ). 256 ^ j * n) (num-drop more j h)) in
      omega (arith, fit.total, mul-le-mul_left (2 ^ have) m, ap (λ (n : ℕ). n * get_or more j 0) (split_have have j))

  next_in : 256 ≤ get_or more j 0 * 2 ^ (have % 8) → have / 8 + j + 1 < length now
  next_in w =
      ⊎_elim (λ p. p)
      (λ (p : length now ≤ have / 8 + j + 1). absurd (omega (
        arith,
        total_low,
        a.long,
        mul-le-mul_left (256 ^ (have / 8 + j)) w,
        pow-le-pow_right {n = 256} (omega arith) p,
        ap (λ (n : ℕ). 256 ^ n) a.long,
        pow-add 256 (have / 8 + j) 1,
      )))
      (lt_or_ge (have / 8 + j + 1) (length now))

  pub word_fits : WordFits now (have / 8 + j) (get_or more j 0 * 2 ^ (have % 8))
  word_fits =
      let d = num-drop now (have / 8 + j) inside in
      let b = pow_below (have % 8) (omega arith) in
      let z : num 256 (drop (have / 8 + j + 1) now) ≡ 0 = omega (arith, rest_low) in
      record {
        inside = inside;
        low = byte_room (have % 8) (get_or now (have / 8 + j) 0) (get_or more j 0) (omega arith) (omega (arith, rest_low));
        short = omega (arith, mul-le-mul {n₁ = get_or more j 0} {n₂ = 255} (omega (arith, low j)) b);
        next = next_in;
        clear = λ w. sym (get_or-drop (have / 8 + j + 1) now 0 0 ∙ ap (λ (n : ℕ). get_or now n 0) (add-zero (have / 8 + j + 1))) ∙ num_none _ z;
      }

  pub added_more : (then : List ℕ) → length then ≡ length now → num 256 then ≡ num 256 now + 256 ^ (have / 8 + j) * (get_or more j 0 * 2 ^ (have % 8)) → Below 256 then
      → Added bytes have more then (j + 1)
  added_more then l n b = record {
    within = omega arith;
    long = l ∙ a.long;
    low = b;
    sum = rw (take_next more j h) (omega (arith, a.sum, n, ap (λ (n : ℕ). n * get_or more j 0) (split_have have j)));
  }

pub added_all : (bytes : List ℕ) (have : ℕ) (more now : List ℕ) (j : ℕ) → Added bytes have more now j → length more ≤ j
    → now ≡ digits 256 (length bytes) (num 256 bytes + 2 ^ have * num 256 more)
added_all bytes have more now j a h =
    sym (digits-num 256 now (omega arith) a.low) ∙ rw (a.long, a.sum, take_all j more h) refl

-- a word is its two bytes
pub word_one : (l : List ℕ) (i low w : ℕ) → i < length l → w ≡ low → (length (set l i (get_or l i 0 + low)) ≡ length l) × (num 256 (set l i (get_or l i 0 + low)) ≡ num 256 l + 256 ^ i * w)
word_one l i low w h e = (length-set l i _, num-set 256 l i low h ∙ ap (λ (n : ℕ). num 256 l + 256 ^ i * n) (sym e))

pub word_two : (l : List ℕ) (i low high w : ℕ) → i + 1 < length l → w ≡ low + 256 * high
    → (length (set (set l i (get_or l i 0 + low)) (i + 1) (get_or (set l i (get_or l i 0 + low)) (i + 1) 0 + high)) ≡ length l)
    × (num 256 (set (set l i (get_or l i 0 + low)) (i + 1) (get_or (set l i (get_or l i 0 + low)) (i + 1) 0 + high)) ≡ num 256 l + 256 ^ i * w)
word_two l i low high w h e =
    let m = set l i (get_or l i 0 + low) in
    let k : length m ≡ length l = length-set l i _ in (
      length-set m (i + 1) _ ∙ k,
      num-set 256 m (i + 1) high (omega arith)
          ∙ omega (arith, num-set 256 l i low (omega arith), ap (λ (n : ℕ). n * high) (pow-add 256 i 1), ap (λ (n : ℕ). 256 ^ i * n) e),
    )

pub none_yet : (bytes : List ℕ) (have : ℕ) (more : List ℕ) → num 256 bytes ≡ num 256 bytes + 2 ^ have * num 256 (take 0 more)
unfolding num
none_yet bytes have more = omega arith

-- the machine's shift of a byte loses nothing
pub shifted : (more : List ℕ) (j s r : ℕ) → r ≡ get_or more j 0 → get_or more j 0 < 256 → s < 8 → r * 2 ^ s % 65536 ≡ get_or more j 0 * 2 ^ s
shifted more j s r e l h =
    rw e (mod-eq_of_lt (let b = mul-le-mul {n₁ = get_or more j 0} {n₂ = 255} (omega arith) (pow_below s h) in omega arith))
