-- A store that keeps the rules is the encoding of its 32 lists of bits, and appending to a place is appending to its list.
use Rattle.places.specs.Places.{count_offset, bit_bytes, most_bits, place_size, store_size, place_at, count_of, burst}
use Prim.Native.Nat.{ℕ, zero, suc, ◌+◌, ◌*◌, ◌-◌, ◌/◌, ◌%◌, ◌^◌, ◌≤◌, ◌<◌}
use mathlib.Core.Path.{◌≡◌, refl, sym, ap, ◌∙◌, subst}
use mathlib.Core.Bool.{Bool, true, false, cond}
use mathlib.Core.List.{List, [], ◌∷◌, ◌++◌, append_assoc}
use native.Mathlib.Nat.{add-zero}
use native.Mathlib.Omega.{arith}
use native.Mathlib.Numerals.{add-one}
use lib.ListN.{length, take, drop, get_or, set, length-append}
use lib.Seq.{drop-cons, length-take-le, get_or-drop, take_all, drop-drop, take-add, set_split, split_at, take_at, drop_at}
use lib.Pow.{pow_mono}
use lib.Dec.{ltb, leb, eqb}
use borrow.Author.Tests.{ltb-true, leb-true, eqb-true}
use Rattle.bits.specs.Bits.{num, digits, Below}
use Rattle.bits.proofs.Numbers.{num_append, num-digits, digits-num, length_digits, digits-below, num_lt, pow8}
use Rattle.bits.proofs.Laws.{below-take}
use Rattle.records.specs.Block.{meters}
use Rattle.places.specs.Places.{bits_of, held, encode, encode_all, is_place, places_from, is_store, bits_at, bits_from}
use Rattle.places.specs.Appending.{appended}
use Rattle.places.proofs.Laws.{length_held}

-- what a test of tests says
pub both : (t u : Bool) → cond t u false ≡ true → (t ≡ true) × (u ≡ true)
both true u e = (refl, e)
both false true e = (e, refl)
both false false e = (e, e)

pub place_parts : (s : List ℕ) (at : ℕ) → is_place s at ≡ true → (count_of s at ≤ most_bits) × (num 256 (held s at) < 2 ^ count_of s at)
unfolding is_place
place_parts s at e =
    let t = both (leb (count_of s at) most_bits) (ltb (num 256 (held s at)) (2 ^ count_of s at)) e in
    (leb-true _ _ t.0, ltb-true _ _ t.1)

places_parts : (k : ℕ) (s : List ℕ) (at : ℕ) → places_from (suc k) s at ≡ true → (is_place s at ≡ true) × (places_from k s (at + place_size) ≡ true)
unfolding places_from
places_parts k s at e = both (is_place s at) (places_from k s (at + place_size)) e

pub store_parts : (s : List ℕ) → is_store s ≡ true → (length s ≡ store_size) × (places_from 32 s 0 ≡ true)
unfolding is_store
store_parts s e =
    let t = both (eqb (length s) store_size) (places_from 32 s 0) e in
    (eqb-true _ _ t.0, t.1)

-- a list of bits that a place can hold
pub record Sound (b : List ℕ) : Type 0 where
  pub short : length b ≤ most_bits
  pub bits : Below 2 b

pub sound_low : (b : List ℕ) → Sound b → num 2 b < 2 ^ length b
sound_low b g = num_lt 2 b g.bits

sound_none : Sound []
sound_none = record { short = omega arith; bits = λ i. omega arith }

-- a place by its bytes
module _ (s : List ℕ) (at a b : ℕ) (r : List ℕ) (h : drop at s ≡ a ∷ b ∷ r) where
  pub two_of : count_of s at ≡ 256 * a + b
  two_of =
      let p : get_or s (at + count_offset) 0 ≡ a = sym (get_or-drop at s 0 0) ∙ ap (λ (l : List ℕ). get_or l 0 0) h in
      let q : get_or s (at + count_offset + 1) 0 ≡ b = ap (λ (n : ℕ). get_or s n 0) (omega arith) ∙ sym (get_or-drop at s 1 0) ∙ ap (λ (l : List ℕ). get_or l 1 0) h in
      omega arith

  rest_of : drop (at + 2) s ≡ r
  rest_of = sym (drop-drop 2 at s) ∙ ap (drop 2) h

module _ (s : List ℕ) (at a b : ℕ) (d q : List ℕ) (h : drop at s ≡ a ∷ b ∷ (d ++ q)) (l : length d ≡ bit_bytes) where
  pub held_of : held s at ≡ d
  held_of = ap (take bit_bytes) (rest_of s at a b (d ++ q) h) ∙ take_at d q bit_bytes l

  pub past_of : drop (at + place_size) s ≡ q
  past_of =
      let e : at + place_size ≡ at + 2 + bit_bytes = omega arith in
      ap (λ (n : ℕ). drop n s) e ∙ sym (drop-drop bit_bytes (at + 2) s) ∙ ap (drop bit_bytes) (rest_of s at a b (d ++ q) h) ∙ drop_at d q bit_bytes l

-- a place that keeps the rules is the encoding of its bits
below-drop : (b : ℕ) (xs : List ℕ) (j : ℕ) → Below b xs → Below b (drop j xs)
below-drop b xs j l i = subst (λ (n : ℕ). n < b) (sym (get_or-drop j xs i 0)) (l (j + i))

pub place_sound : (s : List ℕ) (at : ℕ) → is_place s at ≡ true → Sound (bits_at s at)
unfolding bits_at
place_sound s at e = record {
  short = subst (λ (k : ℕ). k ≤ most_bits) (sym (length_digits 2 (count_of s at) (num 256 (held s at)))) (place_parts s at e).0;
  bits = digits-below 2 (count_of s at) (num 256 (held s at)) (omega arith);
}

two_first : (s : List ℕ) (at : ℕ) → at + 2 ≤ length s → drop at s ≡ get_or s at 0 ∷ get_or s (at + 1) 0 ∷ drop (at + 2) s
two_first s at h =
    let e : suc (at + 1) ≡ at + 2 = omega arith in
    let p : drop (at + 1) s ≡ get_or s (at + 1) 0 ∷ drop (at + 2) s = drop-cons s (at + 1) 0 (omega arith) ∙ ap (λ (n : ℕ). get_or s (at + 1) 0 ∷ drop n s) e in
    drop-cons s at 0 (omega arith) ∙ ap (λ (t : List ℕ). get_or s at 0 ∷ t) (ap (λ (n : ℕ). drop n s) (sym (add-one at)) ∙ p)

cons_two : {a b x y : ℕ} {l m : List ℕ} → a ≡ x → b ≡ y → l ≡ m → a ∷ b ∷ l ≡ x ∷ y ∷ m
cons_two p q r = cc

pub place_law : (s : List ℕ) (at : ℕ) → Below 256 s → at + place_size ≤ length s → is_place s at ≡ true → encode (bits_at s at) ≡ take place_size (drop at s)
unfolding bits_at encode
place_law s at l h e =
    let low : num 256 (held s at) < 2 ^ count_of s at = (place_parts s at e).1 in
    let n = length_digits 2 (count_of s at) (num 256 (held s at)) in
    let p : get_or s (at + count_offset) 0 ≡ get_or s at 0 = ap (λ (n : ℕ). get_or s n 0) (add-zero at) in
    let q : get_or s (at + count_offset + 1) 0 ≡ get_or s (at + 1) 0 = ap (λ (n : ℕ). get_or s (n + 1) 0) (add-zero at) in
    let x = l at in
    let y = l (at + 1) in
    let v : digits 256 bit_bytes (num 256 (held s at)) ≡ held s at
    = ap (λ (n : ℕ). digits 256 n (num 256 (held s at))) (sym (length_held s at h)) ∙ digits-num 256 (held s at) (omega arith) (below-take 256 (drop (at + 2) s) bit_bytes (omega arith) (below-drop 256 s (at + 2) l)) in
    let w : digits 256 bit_bytes (num 2 (digits 2 (count_of s at) (num 256 (held s at)))) ≡ held s at
    = ap (digits 256 bit_bytes) (num-digits 2 (count_of s at) (num 256 (held s at)) (omega arith) low) ∙ v in
    cons_two {x = get_or s at 0} {y = get_or s (at + 1) 0} (omega arith) (omega arith) w ∙ sym (ap (take place_size) (two_first s at (omega arith)))

pub length-encode : (b : List ℕ) → length (encode b) ≡ place_size
unfolding encode
length-encode b = ap (λ (n : ℕ). suc (suc n)) (length_digits 256 bit_bytes (num 2 b))

pub encode-all : (k : ℕ) (s : List ℕ) (at : ℕ) → Below 256 s → at + place_size * k ≤ length s → places_from k s at ≡ true → encode_all (bits_from k s at) ≡ take (place_size * k) (drop at s)
unfolding encode_all bits_from
encode-all zero s at l h e = refl
encode-all (suc k) s at l h e =
    let t = places_parts k s at e in
    let q : place_size * suc k ≡ place_size + place_size * k = omega arith in
    ap (λ (x : List ℕ). x ++ encode_all (bits_from k s (at + place_size))) (place_law s at l (omega arith) t.0)
    ∙ ap (λ (x : List ℕ). take place_size (drop at s) ++ x) (encode-all k s (at + place_size) l (omega arith) t.1 ∙ ap (take (place_size * k)) (sym (drop-drop place_size at s)))
    ∙ sym (ap (λ (n : ℕ). take n (drop at s)) q ∙ take-add place_size (place_size * k) (drop at s))

pub all_sound : (k : ℕ) (s : List ℕ) (at : ℕ) → places_from k s at ≡ true → (i : ℕ) → Sound (get_or (bits_from k s at) i [])
unfolding bits_from
all_sound zero s at e i = sound_none
all_sound (suc k) s at e zero = place_sound s at (places_parts k s at e).0
all_sound (suc k) s at e (suc i) = all_sound k s (at + place_size) (places_parts k s at e).1 i

pub length-bits_from : (k : ℕ) (s : List ℕ) (at : ℕ) → length (bits_from k s at) ≡ k
unfolding bits_from
length-bits_from zero s at = refl
length-bits_from (suc k) s at = ap suc (length-bits_from k s (at + place_size))

-- the lists of a store, and what is known of them
pub record Lists (s : List ℕ) (l : List (List ℕ)) : Type 0 where
  pub same : s ≡ encode_all l
  pub size : length l ≡ 32
  pub sound : (i : ℕ) → Sound (get_or l i [])

pub store_law : (s : List ℕ) → Below 256 s → is_store s ≡ true → Lists s (bits_of s)
store_law s l e =
    let t = store_parts s e in
    let n = t.0 in
    record {
      same = sym (encode-all 32 s 0 l (omega arith) t.1 ∙ take_all store_size s (omega arith));
      size = length-bits_from meters s 0;
      sound = all_sound 32 s 0 t.1;
    }

encode_all_append : (l m : List (List ℕ)) → encode_all (l ++ m) ≡ encode_all l ++ encode_all m
unfolding encode_all
encode_all_append [] m = refl
encode_all_append (b ∷ l) m = ap (λ (x : List ℕ). encode b ++ x) (encode_all_append l m) ∙ sym (append_assoc (encode b) (encode_all l) (encode_all m))

pub length-encode_all : (l : List (List ℕ)) → length (encode_all l) ≡ place_size * length l
unfolding encode_all
length-encode_all [] = refl
length-encode_all (b ∷ l) = length-append (encode b) (encode_all l) ∙ (let p = length-encode b in let q = length-encode_all l in omega arith)

wide_enough : (n c x : ℕ) → c ≤ 8 * n → x < 2 ^ c → x < 256 ^ n
wide_enough n c x h l = omega (arith, pow_mono {i = c} {j = 8 * n} h, pow8 n)

-- the store with place k in sight
around : (l : List (List ℕ)) (k : ℕ) (b : List ℕ) → encode_all (take k l ++ b ∷ drop (suc k) l) ≡ encode_all (take k l) ++ (encode b ++ encode_all (drop (suc k) l))
unfolding encode_all
around l k b = encode_all_append (take k l) (b ∷ drop (suc k) l)

module _ (l : List (List ℕ)) (k : ℕ) (h : k < length l) where
  before_long : length (encode_all (take k l)) ≡ place_size * k
  before_long = length-encode_all (take k l) ∙ ap (λ (n : ℕ). place_size * n) (length-take-le k l (omega arith))

  in_sight : encode_all l ≡ encode_all (take k l) ++ (encode (get_or l k []) ++ encode_all (drop (suc k) l))
  in_sight = ap encode_all (split_at l k [] h) ∙ around l k (get_or l k [])

  front : take (place_size * k) (encode_all l) ≡ encode_all (take k l)
  front = ap (take (place_size * k)) in_sight ∙ take_at (encode_all (take k l)) _ (place_size * k) before_long

  back : drop (place_size * k) (encode_all l) ≡ encode (get_or l k []) ++ encode_all (drop (suc k) l)
  back = ap (drop (place_size * k)) in_sight ∙ drop_at (encode_all (take k l)) _ (place_size * k) before_long

  pub place_of : take place_size (drop (place_size * k) (encode_all l)) ≡ encode (get_or l k [])
  place_of = ap (take place_size) back ∙ take_at (encode (get_or l k [])) (encode_all (drop (suc k) l)) place_size (length-encode (get_or l k []))

  pub with_set : (b : List ℕ) → encode_all (set l k b) ≡ encode_all (take k l) ++ (encode b ++ encode_all (drop (suc k) l))
  with_set b = ap encode_all (set_split l k b h) ∙ around l k b

  opened : drop (place_size * k) (encode_all l) ≡ length (get_or l k []) / 256 ∷ length (get_or l k []) % 256 ∷ (digits 256 bit_bytes (num 2 (get_or l k [])) ++ encode_all (drop (suc k) l))
  unfolding encode
  opened = back

  pub count-of : count_of (encode_all l) (place_size * k) ≡ length (get_or l k [])
  count-of = two_of (encode_all l) (place_size * k) _ _ _ opened ∙ omega arith

  held_is : held (encode_all l) (place_size * k) ≡ digits 256 bit_bytes (num 2 (get_or l k []))
  held_is = held_of (encode_all l) (place_size * k) _ _ _ _ opened (length_digits 256 bit_bytes _)

  past_is : drop (place_size * k + place_size) (encode_all l) ≡ encode_all (drop (suc k) l)
  past_is = past_of (encode_all l) (place_size * k) _ _ (digits 256 bit_bytes (num 2 (get_or l k []))) _ opened (length_digits 256 bit_bytes (num 2 (get_or l k [])))

  pub held_num : Sound (get_or l k []) → num 256 (held (encode_all l) (place_size * k)) ≡ num 2 (get_or l k [])
  held_num g =
      ap (num 256) held_is ∙ num-digits 256 bit_bytes (num 2 (get_or l k [])) (omega arith) (wide_enough bit_bytes (length (get_or l k [])) (num 2 (get_or l k [])) g.short (sound_low (get_or l k []) g))

  -- appending to a place appends to its list
  pub append_law : (payload : List ℕ) (count : ℕ) → Sound (get_or l k []) → num 256 payload < 2 ^ count
      → appended (encode_all l) (place_size * k) (length (get_or l k [])) payload count ≡ encode_all (set l k (get_or l k [] ++ digits 2 count (num 256 payload)))
  unfolding appended encode
  append_law payload count g p =
      let b = get_or l k [] in
      let n : length (b ++ digits 2 count (num 256 payload)) ≡ length b + count = length-append b (digits 2 count (num 256 payload)) ∙ ap (λ (m : ℕ). length b + m) (length_digits 2 count (num 256 payload)) in
      let v : num 2 (b ++ digits 2 count (num 256 payload)) ≡ num 256 (held (encode_all l) (place_size * k)) + 2 ^ length b * num 256 payload
      = num_append 2 b (digits 2 count (num 256 payload)) ∙ ap (λ (m : ℕ). num 2 b + 2 ^ length b * m) (num-digits 2 count (num 256 payload) (omega arith) p) ∙ ap (λ (m : ℕ). m + 2 ^ length b * num 256 payload) (sym (held_num g)) in
      rw (front, past_is) (sym (with_set (b ++ digits 2 count (num 256 payload)) ∙ rw (n, v) refl))

pub lists_long : (s : List ℕ) (l : List (List ℕ)) → Lists s l → length s ≡ store_size
lists_long s l k = ap length k.same ∙ length-encode_all l ∙ ap (λ (n : ℕ). place_size * n) k.size

-- ---- the bits of one place
pub get_or-bits_from : (n : ℕ) (s : List ℕ) (at k : ℕ) → k < n → get_or (bits_from n s at) k [] ≡ bits_at s (at + place_size * k)
unfolding bits_from
get_or-bits_from zero s at k h = absurd (omega arith)
get_or-bits_from (suc n) s at zero h = ap (bits_at s) (omega arith)
get_or-bits_from (suc n) s at (suc k) h =
    let e : at + place_size + place_size * k ≡ at + place_size * suc k = omega arith in
    get_or-bits_from n s (at + place_size) k (omega arith) ∙ ap (bits_at s) e

pub length-bits_at : (s : List ℕ) (at : ℕ) → length (bits_at s at) ≡ count_of s at
unfolding bits_at
length-bits_at s at = length_digits 2 (count_of s at) (num 256 (held s at))

module _ (m : ℕ) (low : 0 < m) (high : m ≤ meters) where
  pub burst_at : (s : List ℕ) → burst s m ≡ bits_at s (place_at m)
  burst_at s = get_or-bits_from meters s 0 (m - 1) (omega arith) ∙ ap (bits_at s) (omega arith)

  pub burst_count : (s : List ℕ) → length (burst s m) ≡ count_of s (place_at m)
  burst_count s = ap length (burst_at s) ∙ length-bits_at s (place_at m)
