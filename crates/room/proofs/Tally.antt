-- Where the room pass stands in the block, and what one record does; and what room for a block says of its first record.
--
--   Tallied s b used w   the lists so far have the lengths of the counts in the store and the bits already used
--   tallied_start, tallied_full, tallied_more, tallied_none, tallied_end   at the start, by what a record does, and where no record is left
--   room_parts           room for a block is room for its first record, and for the others after it
use Rattle.places.specs.Places.{most_bits, place_size}
use Prim.Native.Nat.{ℕ, ◌+◌, ◌*◌, ◌-◌, ◌≤◌, ◌<◌}
use mathlib.Core.Path.{◌≡◌, refl, sym, ap, ◌∙◌, subst}
use mathlib.Core.Bool.{Bool, true, false, cond}
use mathlib.Core.Logic.{◌⊎◌, inl, inr, ⊎_elim}
use mathlib.Core.List.{List, [], ◌∷◌, ◌++◌}
use native.Mathlib.Omega.{arith}
use native.Mathlib.Nat.{zero-add}
use Rattle.std.proofs.lemmas.List.{get_or-replicate}
use lib.ListN.{length, get_or, set, replicate, length-set, length-append}
use lib.Seq.{get_or-set_same, get_or-set_other}
use lib.Dec.{ltb, eqb}
use borrow.Author.Tests.{ltb-false, lt-ltb, le-ltb, eqb-true, eqb-false}
use Rattle.std.specs.Prelude.{Option, Some, None, Result, Ok, Err}
use Rattle.bits.specs.Bits.{num}
use Rattle.bits.proofs.Numbers.{length_digits}
use Rattle.records.specs.declared.Record.{Record}
use Rattle.records.specs.declared.Records.{Records}
use Rattle.records.specs.declared.Refusal as records
use Rattle.places.specs.Places.{place_at, count_of}
use Rattle.records.specs.Block.{meters, header_size, record_bits, payload, Entry, entry_of, Parsed, parse}
use Rattle.records.specs.Steps.{Steps}
use Rattle.records.proofs.Walk.{Walk, More, walk_start, walk_more, walk_refused, walk_ended}
use Rattle.records.proofs.Cond.{yes, no}
use Rattle.places.specs.Places.{bits_of, is_store}
use Rattle.room.specs.Rooms.{append_to, room_of}
use Rattle.places.proofs.Encode.{get_or-bits_from, length-bits_at, all_sound, store_parts, length-bits_from}

pub same_or_not : (i k : ℕ) → (i ≡ k) ⊎ (i ≡ k → ⊥)
same_or_not i k = go (eqb i k) refl
  where
    go : (t : Bool) → eqb i k ≡ t → (i ≡ k) ⊎ (i ≡ k → ⊥)
    go true e = inl (eqb-true i k e)
    go false e = inr (eqb-false i k e)

-- the room pass
pub record Tallied (s b used : List ℕ) (w : Records) : Type 0 where
  pub lists : List (List ℕ)
  pub size : length lists ≡ 32
  pub many : length used ≡ 32
  pub counts : (k : ℕ) → k < 32 → length (get_or lists k []) ≡ count_of s (place_size * k) + get_or used k 0
  pub short : (k : ℕ) → length (get_or lists k []) ≤ most_bits
  pub rest : Parsed
  pub walk : Walk b w rest
  pub same : room_of lists rest.records ≡ room_of (bits_of s) (parse b).records

-- what is known of the numbers of a record that the pass meets
pub record Met (used : List ℕ) (r : Record) : Type 0 where
  pub low : 0 < r.meter
  pub high : r.meter ≤ meters
  pub start : header_size ≤ r.start
  pub count : r.count ≤ record_bits
  pub few : get_or used (r.meter - 1) 0 ≤ most_bits

pub tallied_start : {s b : List ℕ} {w : Records} → is_store s ≡ true → w.block.now ≡ b → w.at ≡ 0 → Tallied s b (replicate 32 0) w
tallied_start {s} {b} e p q = record {
  lists = bits_of s;
  size = length-bits_from meters s 0;
  many = refl;
  counts = λ k h. ap length (get_or-bits_from meters s 0 k h) ∙ length-bits_at s (0 + place_size * k) ∙ (let z : get_or {A = ℕ} (replicate 32 0) k 0 ≡ 0 = get_or-replicate 32 k 0 0 h in let q : count_of s (0 + place_size * k) ≡ count_of s (place_size * k) = ap (count_of s) (zero-add (place_size * k)) in omega arith);
  short = λ k. (all_sound 32 s 0 (store_parts s e).1 k).short;
  rest = parse b;
  walk = walk_start p q;
  same = refl;
}

module _ {s b used : List ℕ} {w t : Records} {x : Option (Result Record records.Refusal)} (k : Tallied s b used w) (go : Steps w x t) where
  tallied_over : k.rest.records ≡ [] → Ok tt ≡ room_of (bits_of s) (parse b).records
  unfolding room_of
  tallied_over e = sym (ap (room_of k.lists) e) ∙ k.same

  pub tallied_none : {y : Result Record records.Refusal} {z : records.Refusal} → x ≡ Some y → y ≡ Err z → Ok tt ≡ room_of (bits_of s) (parse b).records
  tallied_none p q = tallied_over (ap (λ (v : Parsed). v.records) (walk_refused k.walk go p q))

  pub tallied_end : x ≡ None → Ok tt ≡ room_of (bits_of s) (parse b).records
  tallied_end p = tallied_over (ap (λ (v : Parsed). v.records) (walk_ended k.walk go p))

  module _ {y : Result Record records.Refusal} {r : Record} (p : x ≡ Some y) (q : y ≡ Ok r) where
    found : More b w r t k.rest
    found = walk_more k.walk go p q

    room_step : cond (ltb most_bits (length (get_or k.lists (r.meter - 1) []) + length (entry_of b w.at r).bits)) (Err (record { at = w.at })) (room_of (append_to k.lists (entry_of b w.at r)) found.then.records)
        ≡ room_of (bits_of s) (parse b).records
    unfolding room_of
    room_step = sym (ap (room_of k.lists) found.records) ∙ k.same

    long : length (entry_of b w.at r).bits ≡ r.count
    long = length_digits 2 r.count (num 256 (payload b r.start r.count))

    meter_in : r.meter - 1 < 32
    meter_in = omega (arith, found.stands.meter_low, found.stands.meter_high)

    -- the count in the store, with what the block has brought to that meter so far
    so_far : length (get_or k.lists (r.meter - 1) []) ≡ count_of s (place_at r.meter) + get_or used (r.meter - 1) 0
    so_far = k.counts (r.meter - 1) meter_in

    pub met : Met used r
    met = record {
      low = found.stands.meter_low;
      high = found.stands.meter_high;
      start = omega (arith, found.stands.starts);
      count = found.stands.count_high;
      few = omega (arith, so_far, k.short (r.meter - 1));
    }

    pub tallied_full : {n : ℕ} → n ≡ count_of s (place_at r.meter) → most_bits < n + (get_or used (r.meter - 1) 0 + r.count) → Err (record { at = r.start - header_size }) ≡ room_of (bits_of s) (parse b).records
    tallied_full e g =
        let at : r.start - header_size ≡ w.at = omega (arith, found.stands.starts) in
        ap (λ (n : ℕ). Err (record { at = n })) at
        ∙ sym (yes _ _ (lt-ltb most_bits (length (get_or k.lists (r.meter - 1) []) + length (entry_of b w.at r).bits) (omega (arith, long, so_far)))) ∙ room_step

    joined : length (get_or k.lists (r.meter - 1) [] ++ (entry_of b w.at r).bits) ≡ count_of s (place_at r.meter) + (get_or used (r.meter - 1) 0 + r.count)
    joined = length-append (get_or k.lists (r.meter - 1) []) (entry_of b w.at r).bits ∙ omega (arith, long, so_far)

    pub tallied_more : {n : ℕ} → n ≡ count_of s (place_at r.meter) → n + (get_or used (r.meter - 1) 0 + r.count) ≤ most_bits → Tallied s b (set used (r.meter - 1) (get_or used (r.meter - 1) 0 + r.count)) t
    tallied_more c g =
        let i = r.meter - 1 in
        let l = k.lists in
        let new = get_or l i [] ++ (entry_of b w.at r).bits in
        record {
          lists = append_to l (entry_of b w.at r);
          size = length-set l i new ∙ k.size;
          many = length-set used i (get_or used i 0 + r.count) ∙ k.many;
          counts = λ j h. ⊎_elim
              (λ e. subst (λ (m : ℕ). length (get_or (set l i new) m []) ≡ count_of s (place_size * m) + get_or (set used i (get_or used i 0 + r.count)) m 0) (sym e)
              (ap length (get_or-set_same l i new [] (omega (arith, k.size, meter_in))) ∙ joined ∙ ap (λ (m : ℕ). count_of s (place_size * i) + m) (sym (get_or-set_same used i (get_or used i 0 + r.count) 0 (omega (arith, k.many, meter_in))))))
              (λ d. ap length (get_or-set_other l i j new [] d) ∙ k.counts j h ∙ ap (λ (m : ℕ). count_of s (place_size * j) + m) (sym (get_or-set_other used i j (get_or used i 0 + r.count) 0 d)))
              (same_or_not j i);
          short = λ j. ⊎_elim
              (λ e. subst (λ (m : ℕ). length (get_or (set l i new) m []) ≤ most_bits) (sym e)
              (subst (λ (v : List ℕ). length v ≤ most_bits) (sym (get_or-set_same l i new [] (omega (arith, k.size, meter_in)))) (omega (arith, joined))))
              (λ d. subst (λ (v : List ℕ). length v ≤ most_bits) (sym (get_or-set_other l i j new [] d)) (k.short j))
              (same_or_not j i);
          rest = found.then;
          walk = found.walk;
          same = sym (no _ _ (le-ltb most_bits (length (get_or l i []) + length (entry_of b w.at r).bits) (omega (arith, long, so_far)))) ∙ room_step;
        }

pub room_parts : (l : List (List ℕ)) (x : Entry) (xs : List Entry) → room_of l (x ∷ xs) ≡ Ok tt
    → (length (get_or l (x.meter - 1) []) + length x.bits ≤ most_bits) × (room_of (append_to l x) xs ≡ Ok tt)
unfolding room_of
room_parts l x xs e = go (ltb most_bits (length (get_or l (x.meter - 1) []) + length x.bits)) refl e
  where
    go : (t : Bool) → ltb most_bits (length (get_or l (x.meter - 1) []) + length x.bits) ≡ t → cond t (Err (record { at = x.at })) (room_of (append_to l x) xs) ≡ Ok tt
        → (length (get_or l (x.meter - 1) []) + length x.bits ≤ most_bits) × (room_of (append_to l x) xs ≡ Ok tt)
    go true p q = cc
    go false p q = (ltb-false _ _ p, q)
