-- An encoding of 32 lists is a store that keeps the rules, and its lists are those. A fresh store is the encoding of 32 empty ones.
use Rattle.places.specs.Places.{bit_bytes, burst, fresh, most_bits, place_size, store_size}
use Prim.Native.Nat.{ℕ, zero, suc, ◌+◌, ◌*◌, ◌-◌, ◌^◌, ◌<◌}
use mathlib.Core.Path.{◌≡◌, refl, sym, ap, ◌∙◌, subst}
use mathlib.Core.Bool.{true}
use mathlib.Core.List.{List, [], ◌∷◌, ◌++◌}
use native.Mathlib.Omega.{arith}
use lib.ListN.{length, drop, get_or, replicate, drop_of_length-le, replicate-append-replicate}
use native.Mathlib.Numerals.{add-one}
use lib.Seq.{drop-cons}
use borrow.Author.Tests.{le-leb, lt-ltb, eq-eqb}
use Rattle.bits.specs.Bits.{num, digits, Below}
use Rattle.bits.proofs.Numbers.{digits-num, digits-below, below_append}
use Rattle.places.specs.Places.{count_of}
use Rattle.records.specs.Block.{meters}
use Rattle.records.proofs.Cond.{yes}
use Rattle.places.specs.Places.{bits_of, held, encode, encode_all, is_place, places_from, is_store, bits_at, bits_from}
use Rattle.places.proofs.Encode.{Sound, sound_low, length-encode_all, count-of, held_num}

-- the place k of an encoding keeps the rules, and gives its list back
module _ (l : List (List ℕ)) (k : ℕ) (h : k < length l) (g : Sound (get_or l k [])) where
  pub place_kept : is_place (encode_all l) (place_size * k) ≡ true
  unfolding is_place
  place_kept =
      yes _ _ (le-leb (count_of (encode_all l) (place_size * k)) most_bits (omega (arith, count-of l k h, g.short)))
      ∙ lt-ltb (num 256 (held (encode_all l) (place_size * k))) (2 ^ count_of (encode_all l) (place_size * k))
      (subst (λ (n : ℕ). num 256 (held (encode_all l) (place_size * k)) < 2 ^ n) (sym (count-of l k h)) (subst (λ (n : ℕ). n < 2 ^ length (get_or l k [])) (sym (held_num l k h g)) (sound_low (get_or l k []) g)))

  pub place_back : bits_at (encode_all l) (place_size * k) ≡ get_or l k []
  unfolding bits_at
  place_back =
      ap (λ (n : ℕ). digits 2 n (num 256 (held (encode_all l) (place_size * k)))) (count-of l k h) ∙ ap (digits 2 (length (get_or l k []))) (held_num l k h g) ∙ digits-num 2 (get_or l k []) (omega arith) g.bits

all_kept : (n k : ℕ) (l : List (List ℕ)) → ((i : ℕ) → Sound (get_or l i [])) → k + n ≡ length l → places_from n (encode_all l) (place_size * k) ≡ true
unfolding places_from
all_kept zero k l g e = refl
all_kept (suc n) k l g e =
    let q : place_size * k + place_size ≡ place_size * (k + 1) = omega arith in
    yes _ _ (place_kept l k (omega arith) (g k)) ∙ ap (places_from n (encode_all l)) q ∙ all_kept n (k + 1) l g (omega arith)

-- an encoding of 32 lists is a store
pub is_kept : (l : List (List ℕ)) → ((i : ℕ) → Sound (get_or l i [])) → length l ≡ meters → is_store (encode_all l) ≡ true
unfolding is_store
is_kept l g e =
    yes _ _ (eq-eqb (length (encode_all l)) store_size (length-encode_all l ∙ ap (λ (n : ℕ). place_size * n) e)) ∙ all_kept meters 0 l g (sym e)

-- and its lists are those
lists_back : (n k : ℕ) (l : List (List ℕ)) → ((i : ℕ) → Sound (get_or l i [])) → k + n ≡ length l → bits_from n (encode_all l) (place_size * k) ≡ drop k l
unfolding bits_from
lists_back zero k l g e = sym (drop_of_length-le l {i = k} (omega arith))
lists_back (suc n) k l g e =
    let q : place_size * k + place_size ≡ place_size * (k + 1) = omega arith in
    ap (λ (x : List ℕ). x ∷ bits_from n (encode_all l) (place_size * k + place_size)) (place_back l k (omega arith) (g k))
    ∙ ap (λ (x : List (List ℕ)). get_or l k [] ∷ x) (ap (bits_from n (encode_all l)) q ∙ lists_back n (k + 1) l g (omega arith) ∙ ap (λ (j : ℕ). drop j l) (add-one k))
    ∙ sym (drop-cons l k [] (omega arith))

pub same_lists : (l : List (List ℕ)) → ((i : ℕ) → Sound (get_or l i [])) → length l ≡ meters → bits_of (encode_all l) ≡ l
same_lists l g e = lists_back meters 0 l g (sym e)

-- an encoding is bytes
below-encode : (b : List ℕ) → Sound b → Below 256 (encode b)
unfolding encode
below-encode b g zero = omega (arith, g.short)
below-encode b g (suc zero) = omega arith
below-encode b g (suc (suc i)) = digits-below 256 bit_bytes (num 2 b) (omega arith) i

pub below_all : (l : List (List ℕ)) → ((i : ℕ) → Sound (get_or l i [])) → Below 256 (encode_all l)
unfolding encode_all
below_all [] g i = omega arith
below_all (b ∷ l) g i = below_append 256 (encode b) (encode_all l) (below-encode b (g 0)) (below_all l (λ j. g (suc j))) i

-- a fresh store is 16,448 zeros: the encoding of 32 empty lists
zeros : (k : ℕ) → digits 256 k 0 ≡ replicate k 0
unfolding digits
zeros zero = refl
zeros (suc k) = ap (λ (l : List ℕ). 0 ∷ l) (zeros k)

encode_none : encode [] ≡ replicate place_size 0
unfolding encode num
encode_none = ap (λ (l : List ℕ). 0 ∷ 0 ∷ l) (zeros bit_bytes)

fresh_from : (n : ℕ) → encode_all (replicate n []) ≡ replicate (place_size * n) 0
unfolding encode_all
fresh_from zero = refl
fresh_from (suc n) =
    let q : place_size + place_size * n ≡ place_size * suc n = omega arith in
    ap (λ (x : List ℕ). x ++ encode_all (replicate n [])) encode_none ∙ ap (λ (x : List ℕ). replicate place_size 0 ++ x) (fresh_from n)
    ∙ replicate-append-replicate place_size (place_size * n) 0 ∙ ap (λ (k : ℕ). replicate k 0) q

none_sound : (n i : ℕ) → Sound (get_or (replicate n []) i [])
none_sound zero i = record { short = omega arith; bits = λ j. omega arith }
none_sound (suc n) zero = record { short = omega arith; bits = λ j. omega arith }
none_sound (suc n) (suc i) = none_sound n i

get_or_none : (n i : ℕ) → get_or {A = List ℕ} (replicate n []) i [] ≡ []
get_or_none zero i = refl
get_or_none (suc n) zero = refl
get_or_none (suc n) (suc i) = get_or_none n i

pub fresh-store : is_store fresh ≡ true
fresh-store = ap is_store (sym (fresh_from meters)) ∙ is_kept (replicate meters []) (none_sound meters) refl

pub fresh_lists : bits_of fresh ≡ replicate meters []
fresh_lists = ap bits_of (sym (fresh_from meters)) ∙ same_lists (replicate meters []) (none_sound meters) refl

pub fresh_empty : (meter : ℕ) → burst fresh meter ≡ []
fresh_empty meter = ap (λ (l : List (List ℕ)). get_or l (meter - 1) []) fresh_lists ∙ get_or_none meters (meter - 1)

pub fresh-below : Below 256 fresh
fresh-below = subst (Below 256) (fresh_from meters) (below_all (replicate meters []) (none_sound meters))
