-- A place that keeps the rules is exactly the encoding of its list of bits, and learning sees those bits.
--
--   place_rules      a place is accepted exactly where it keeps the rules, in the document's words: a count of at most 4,096, and no bit set at or past the count
--   encode_decode    the encoding of a place's bits is the place
--   decode_encode    an encoding keeps the rules, and its bits are those that were encoded
--   store-encode     the same for the store and its 32 lists
--   Holds bytes n bits   the first n bits of the bytes are these bits, as learning sees them: their value, and that there are bytes enough
--   burst_holds      the bytes and the count of a meter's place hold its bits
--   part_holds       so does the part of the store that a call hands on
use Prim.Native.Nat.{ℕ, ◌+◌, ◌-◌, ◌*◌, ◌^◌, ◌≤◌, ◌<◌}
use mathlib.Core.Path.{◌≡◌, sym, ap, ◌∙◌, subst}
use mathlib.Core.Bool.{true}
use mathlib.Core.Logic.{◌↔◌}
use mathlib.Core.List.{List, [], ◌∷◌, append-nil}
use native.Mathlib.Omega.{arith}
use lib.ListN.{length, get_or, drop}
use lib.Seq.{take_all, get_or-drop}
use borrow.Author.Tests.{le-leb, lt-ltb}
use Rattle.bits.specs.Bits.{num, Below, bit_at, value}
use Rattle.bits.proofs.Laws.{below-take}
use Rattle.bits.proofs.Bits.{spare_bits}
use Rattle.bits.proofs.Values.{value_bits}
use Rattle.records.specs.Block.{meters}
use Rattle.records.proofs.Cond.{yes}
use Rattle.places.specs.Places.{place_size, bits_offset, bit_bytes, most_bits, place_at, count_of, held, encode, encode_all, is_place, is_store, bits_at, bits_of, burst}
use Rattle.places.proofs.Laws.{length_held}
use Rattle.places.proofs.Encode.{Sound, place_parts, place_law, store_law, store_parts, all_sound}
use Rattle.places.proofs.Decode.{place_kept, place_back, is_kept, same_lists}
use Rattle.places.proofs.Encode.{burst_at, burst_count}

below_held : (s : List ℕ) (at : ℕ) → Below 256 s → Below 256 (held s at)
below_held s at l = below-take 256 (drop (at + bits_offset) s) bit_bytes (omega arith) (λ i. subst (λ (n : ℕ). n < 256) (sym (get_or-drop (at + bits_offset) s i 0)) (l (at + bits_offset + i)))

parts_place : (s : List ℕ) (at : ℕ) → count_of s at ≤ most_bits → num 256 (held s at) < 2 ^ count_of s at → is_place s at ≡ true
unfolding is_place
parts_place s at h k = yes _ _ (le-leb _ _ h) ∙ lt-ltb _ _ k

pub place_rules : (s : List ℕ) (at : ℕ) → Below 256 s → (is_place s at ≡ true) ↔ ((count_of s at ≤ most_bits) × ((i : ℕ) → count_of s at ≤ i → bit_at (held s at) i ≡ 0))
place_rules s at l =
    let spare = spare_bits (held s at) (count_of s at) (below_held s at l) in
    (λ e. (let p = place_parts s at e in (p.0, spare.0 p.1)), λ r. parts_place s at r.0 (spare.1 r.1))

pub encode_decode : (p : List ℕ) → Below 256 p → length p ≡ place_size → is_place p 0 ≡ true → encode (bits_at p 0) ≡ p
encode_decode p l n e = place_law p 0 l (omega arith) e ∙ take_all place_size p (omega arith)

pub decode_encode : (bits : List ℕ) → Sound bits → (is_place (encode bits) 0 ≡ true) × (bits_at (encode bits) 0 ≡ bits)
unfolding encode_all
decode_encode bits g =
    let one : encode_all (bits ∷ []) ≡ encode bits = append-nil (encode bits) in
    (ap (λ (x : List ℕ). is_place x 0) (sym one) ∙ place_kept (bits ∷ []) 0 (omega arith) g, ap (λ (x : List ℕ). bits_at x 0) (sym one) ∙ place_back (bits ∷ []) 0 (omega arith) g)

pub store-encode : (s : List ℕ) → Below 256 s → is_store s ≡ true → s ≡ encode_all (bits_of s)
store-encode s l e = (store_law s l e).same

pub store_decode : (l : List (List ℕ)) → length l ≡ meters → ((i : ℕ) → Sound (get_or l i [])) → (is_store (encode_all l) ≡ true) × (bits_of (encode_all l) ≡ l)
store_decode l n g = (is_kept l g n, same_lists l g n)

pub record Holds (bytes : List ℕ) (n : ℕ) (bits : List ℕ) : Type 0 where
  pub value_is : value bytes n ≡ num 2 bits
  pub count_is : n ≡ length bits
  pub most : n ≤ most_bits
  pub there : n ≤ 8 * length bytes

module _ (s : List ℕ) (meter : ℕ) (l : Below 256 s) (e : is_store s ≡ true) (low : 0 < meter) (high : meter ≤ meters) where
  pub place_in : place_at meter + place_size ≤ length s
  place_in = omega (arith, (store_parts s e).0)

  value_of : value (held s (place_at meter)) (count_of s (place_at meter)) ≡ num 2 (burst s meter)
  unfolding bits_at
  value_of = value_bits (held s (place_at meter)) (count_of s (place_at meter)) (below_held s (place_at meter) l) ∙ sym (ap (num 2) (burst_at meter low high s))

  pub burst_holds : Holds (held s (place_at meter)) (count_of s (place_at meter)) (burst s meter)
  burst_holds =
      let c = burst_count meter low high s in
      let b = (all_sound meters s 0 (store_parts s e).1 (meter - 1)).short in
      record {
        value_is = value_of;
        count_is = sym c;
        most = omega arith;
        there = omega (arith, length_held s (place_at meter) place_in);
      }

  pub part_holds : (bytes : List ℕ) (at n : ℕ) → bytes ≡ held s at → at ≡ place_at meter → n ≡ count_of s at → Holds bytes n (burst s meter)
  part_holds bytes at n b p q =
      subst (λ (x : List ℕ). Holds x n (burst s meter)) (sym b)
      (subst (λ (j : ℕ). Holds (held s at) j (burst s meter)) (sym q)
      (subst (λ (j : ℕ). Holds (held s j) (count_of s j) (burst s meter)) (sym p) burst_holds))
