-- Laws on places and stores.
use Rattle.places.specs.Places.{count_offset, bits_offset, bit_bytes, most_bits, place_size}
use Prim.Native.Nat.{ℕ, zero, suc, ◌+◌, ◌*◌, ◌-◌, ◌/◌, ◌%◌, ◌^◌, ◌≤◌, ◌<◌}
use mathlib.Core.Path.{◌≡◌, refl, sym, ap, ◌∙◌, subst}
use mathlib.Core.Bool.{Bool, true, false, cond}
use mathlib.Core.List.{List, [], ◌∷◌, ◌++◌, append_assoc}
use native.Mathlib.Nat.{mul-le-mul_left, add-zero}
use native.Mathlib.Omega.{arith}
use native.Mathlib.Numerals.{add-one}
use lib.ListN.{length, get_or, take, drop, set, length-set, length-drop, length-append}
use Rattle.std.proofs.lemmas.List.{drop-take, take-take, get_or-take}
use Rattle.std.specs.Prelude.{◌&&◌}
use lib.Seq.{get_or-drop, take-suc-set, drop-set-lt, length-take-le, drop-drop}
use lib.Pow.{pow_pos, pow_mono, pow-add}
use lib.Dec.{ltb, leb}
use Rattle.std.specs.Int.{w16, to_be_bytes}
use Rattle.std.specs.Simd.{first_chunks}
use Rattle.std.specs.List.{list_all}
use Rattle.bits.specs.Bits.{num, digits}
use Rattle.packing.specs.Inner.{MoreFits}
use Rattle.bits.proofs.Numbers.{length_digits, pow8}
use Rattle.places.specs.Places.{count_of}
use Rattle.places.specs.Places.{held, is_place, places_from}
use Rattle.places.specs.Appending.{appended, PlaceFits}

pub length_held : (s : List ℕ) (at : ℕ) → at + place_size ≤ length s → length (held s at) ≡ bit_bytes
length_held s at h = length-take-le bit_bytes (drop (at + 2) s) (rw length-drop (omega arith))

total : (n have count p : ℕ) → have + count ≤ 8 * n → p < 2 ^ count → 2 ^ have * p < 256 ^ n
total n have count p h l =
    omega (arith, mul-le-mul_left (2 ^ have) l, pow_pos have, pow-add 2 have count, pow_mono {i = have + count} {j = 8 * n} h, pow8 n)

more_fits : (s : List ℕ) (at have : ℕ) (payload : List ℕ) (count : ℕ) (part : List ℕ) → part ≡ held s at → PlaceFits s at have payload count → MoreFits part have payload
more_fits s at have payload count part e f =
    let l : length part ≡ bit_bytes = ap length e ∙ length_held s at f.inside in
    record {
      held = subst (λ (x : List ℕ). num 256 x < 2 ^ have) (sym e) f.low;
      room = omega (arith, f.bytes, f.room, l);
      total = total (length part) have count (num 256 payload) (omega (arith, l, f.room)) f.spare;
    }

module _ (s : List ℕ) (at a b : ℕ) where
  two_set : at + 1 < length s → take (at + 2) (set (set s at a) (at + 1) b) ≡ take at s ++ (a ∷ b ∷ [])
  two_set h =
      let e : take (suc (suc at)) (set (set s at a) (suc at) b) ≡ take (suc at) (set s at a) ++ (b ∷ []) = take-suc-set (set s at a) (suc at) b (rw length-set (omega arith)) in
      ap (λ (n : ℕ). take n (set (set s at a) (at + 1) b)) (add_two at) ∙ ap (λ (n : ℕ). take (suc (suc at)) (set (set s at a) n b)) (add-one at) ∙ e
      ∙ ap (λ (l : List ℕ). l ++ (b ∷ [])) (take-suc-set s at a (omega arith)) ∙ append_assoc (take at s) (a ∷ []) (b ∷ [])
    where
      add_two : (n : ℕ) → n + 2 ≡ suc (suc n)
      add_two n = omega arith

  drop_two : (n : ℕ) → at + 2 ≤ n → drop n (set (set s at a) (at + 1) b) ≡ drop n s
  drop_two n h = drop-set-lt n (set s at a) (at + 1) b (omega arith) ∙ drop-set-lt n s at a (omega arith)

  pub part_same : take (at + place_size - (at + bits_offset)) (drop (at + bits_offset) (set (set s at a) (at + 1) b)) ≡ held s at
  part_same =
      let q : at + place_size - (at + bits_offset) ≡ bit_bytes = omega arith in
      ap (λ (n : ℕ). take n (drop (at + bits_offset) (set (set s at a) (at + 1) b))) q ∙ ap (take bit_bytes) (drop_two (at + bits_offset) (omega arith))

-- the store with a new count, two bytes, in the place at `at`, as the code writes it
abbrev pub counted : List ℕ → ℕ → List ℕ → List ℕ
counted s at two = set (set s (at + count_offset) (get_or two 0 0)) (at + count_offset + 1) (get_or two 1 0)

two_high_first : (n : ℕ) → n < 65536 → to_be_bytes w16 n ≡ n / 256 ∷ n % 256 ∷ []
two_high_first n h = let q : n / 256 % 256 ≡ n / 256 = omega arith in ap (λ (k : ℕ). k ∷ n % 256 ∷ []) q

module _ (s : List ℕ) (at have : ℕ) (payload : List ℕ) (count : ℕ) (f : PlaceFits s at have payload count) {two : List ℕ} (new_count : two ≡ to_be_bytes w16 (have + count)) where
  counted_is : counted s at two ≡ set (set s at ((have + count) / 256)) (at + 1) ((have + count) % 256)
  counted_is =
      ap (counted s at) (new_count ∙ two_high_first (have + count) (omega (arith, f.room)))
      ∙ ap (λ (k : ℕ). set (set s k ((have + count) / 256)) (k + 1) ((have + count) % 256)) (add-zero at)

  part_is : take (at + place_size - (at + bits_offset)) (drop (at + bits_offset) (counted s at two)) ≡ held s at
  part_is = ap (λ (x : List ℕ). take (at + place_size - (at + bits_offset)) (drop (at + bits_offset) x)) counted_is ∙ part_same s at _ _

  pub part_fits : MoreFits (take (at + place_size - (at + bits_offset)) (drop (at + bits_offset) (counted s at two))) have payload
  part_fits = more_fits s at have payload count _ part_is f

  pub put_part : (new : List ℕ)
      → new ≡ digits 256 (length (take (at + place_size - (at + bits_offset)) (drop (at + bits_offset) (counted s at two))))
      (num 256 (take (at + place_size - (at + bits_offset)) (drop (at + bits_offset) (counted s at two))) + 2 ^ have * num 256 payload)
      → take (at + bits_offset) (counted s at two) ++ (new ++ drop (at + place_size - (at + bits_offset)) (drop (at + bits_offset) (counted s at two)))
      ≡ appended s at have payload count
  unfolding appended
  put_part new e =
      let q : at + bits_offset + (at + place_size - (at + bits_offset)) ≡ at + place_size = omega arith in
      let n : new ≡ digits 256 bit_bytes (num 256 (held s at) + 2 ^ have * num 256 payload)
      = e ∙ ap (λ (p : List ℕ). digits 256 (length p) (num 256 p + 2 ^ have * num 256 payload)) part_is
      ∙ ap (λ (k : ℕ). digits 256 k (num 256 (held s at) + 2 ^ have * num 256 payload)) (length_held s at f.inside) in
      let t : take (at + bits_offset) (counted s at two) ≡ take at s ++ ((have + count) / 256 ∷ (have + count) % 256 ∷ [])
      = ap (take (at + bits_offset)) counted_is ∙ two_set s at ((have + count) / 256) ((have + count) % 256) (omega (arith, f.inside)) in
      let d : drop (at + place_size - (at + bits_offset)) (drop (at + bits_offset) (counted s at two)) ≡ drop (at + place_size) s
      = drop-drop (at + place_size - (at + bits_offset)) (at + bits_offset) _ ∙ ap (λ (k : ℕ). drop k (counted s at two)) q ∙ ap (drop (at + place_size)) counted_is ∙ drop_two s at _ _ (at + place_size) (omega arith) in
      rw (t, n, d, append_assoc) refl

pub length-appended : (s : List ℕ) (at have : ℕ) (payload : List ℕ) (count : ℕ) → at + place_size ≤ length s → length (appended s at have payload count) ≡ length s
unfolding appended
length-appended s at have payload count h =
    rw (length-append, length-take-le at s (omega arith), length-append, length_digits, length-drop) (omega arith)

-- ---- a place by its own bytes
pub count_part : (s : List ℕ) (at : ℕ) → count_of (take place_size (drop at s)) 0 ≡ count_of s at
count_part s at =
    let p : get_or (take place_size (drop at s)) 0 0 ≡ get_or s (at + 0) 0 = get_or-take place_size (drop at s) 0 0 (omega arith) ∙ get_or-drop at s 0 0 in
    let q : get_or (take place_size (drop at s)) 1 0 ≡ get_or s (at + 0 + 1) 0 = get_or-take place_size (drop at s) 1 0 (omega arith) ∙ get_or-drop at s 1 0 ∙ ap (λ (n : ℕ). get_or s n 0) (omega arith) in
    omega arith

pub held_part : (s : List ℕ) (at : ℕ) → held (take place_size (drop at s)) 0 ≡ held s at
held_part s at = ap (take bit_bytes) (drop-take bits_offset bit_bytes (drop at s)) ∙ take-take bit_bytes bit_bytes (drop bits_offset (drop at s)) (omega arith) ∙ ap (take bit_bytes) (drop-drop bits_offset at s)

-- as a call has them: the count and the bytes of the place at `at`
pub count_here : (s : List ℕ) (at : ℕ) {b : List ℕ} {n : ℕ} → b ≡ take place_size (drop at s) → n ≡ count_of b 0 → n ≡ count_of s at
count_here s at e f = f ∙ ap (λ (l : List ℕ). count_of l 0) e ∙ count_part s at

pub held_here : (s : List ℕ) (at : ℕ) {b l : List ℕ} → b ≡ take place_size (drop at s) → l ≡ held b 0 → l ≡ held s at
held_here s at e f = f ∙ ap (λ (x : List ℕ). held x 0) e ∙ held_part s at

is_part : (s : List ℕ) (at : ℕ) → is_place (take place_size (drop at s)) 0 ≡ is_place s at
unfolding is_place
is_part s at = λ i. cond (leb (count_part s at i) most_bits) (ltb (num 256 (held_part s at i)) (2 ^ count_part s at i)) false

-- the places from `at` on, each by its own bytes
pub each_place : (k : ℕ) (s : List ℕ) (at : ℕ) → list_all (λ p. is_place p 0) (first_chunks place_size k (drop at s)) ≡ places_from k s at
unfolding places_from
each_place zero s at = refl
each_place (suc k) s at =
    ap (λ (b : Bool). b && list_all (λ p. is_place p 0) (first_chunks place_size k (drop place_size (drop at s)))) (is_part s at)
    ∙ go (is_place s at) (ap (λ (l : List ℕ). list_all (λ p. is_place p 0) (first_chunks place_size k l)) (drop-drop place_size at s) ∙ each_place k s (at + place_size))
  where
    go : (b : Bool) {t u : Bool} → t ≡ u → (b && t) ≡ cond b u false
    go true e = e
    go false e = refl
