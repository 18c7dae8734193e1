-- Where the writing pass stands in the block, and what one record does.
--
--   Writing s₀ b s w   the store s is the encoding of the lists so far, and what is left to append is the rest of the block
--   writing_start, writes_put, writing_none, writing_end   at the start, by what a record does, and where no record is left
--   written, fits_put  what a record that the pass meets is known to keep to
use Rattle.places.specs.Places.{most_bits, store_size}
use Prim.Native.Nat.{ℕ, ◌+◌, ◌-◌, ◌^◌, ◌≤◌, ◌<◌}
use mathlib.Core.Path.{◌≡◌, refl, sym, ap, ◌∙◌, subst}
use mathlib.Core.Logic.{⊎_elim}
use mathlib.Core.List.{List, [], ◌++◌}
use native.Mathlib.Omega.{arith}
use lib.ListN.{length, take, drop, get_or, set, length-set, length-append}
use lib.Seq.{get_or-set_same, get_or-set_other, length-take-le}
use lib.ListN.{length-drop}
use Rattle.bits.specs.Bits.{num, Below}
use Rattle.bits.proofs.Numbers.{length_digits, digits-below, below_append}
use Rattle.records.specs.declared.Record.{Record}
use Rattle.places.specs.Places.{place_at, count_of}
use Rattle.records.specs.declared.Records.{Records}
use Rattle.records.specs.declared.Refusal as records
use Rattle.records.specs.Steps.{Steps}
use Rattle.std.specs.Prelude.{Option, Some, None, Result, Ok, Err}
use Rattle.records.specs.Block.{meters, bytes_for, payload, entry_of, Parsed, parse}
use Rattle.records.proofs.Walk.{Walk, More, walk_start, walk_more, walk_refused, walk_ended}
use Rattle.places.specs.Places.{bits_of, held, encode_all}
use Rattle.room.specs.Rooms.{append_to, room_of}
use Rattle.store.specs.Taking.{append_all}
use Rattle.room.proofs.Tally.{same_or_not, room_parts}
use Rattle.places.specs.Appending.{appended, PlaceFits}
use Rattle.places.proofs.Encode.{Sound, sound_low, Lists, lists_long, count-of, held_num, append_law}

pub sound_append : (l d : List ℕ) → Sound l → Below 2 d → length l + length d ≤ most_bits → Sound (l ++ d)
sound_append l d g h n = record { short = subst (λ (m : ℕ). m ≤ most_bits) (sym (length-append l d)) n; bits = below_append 2 l d g.bits h }

-- one list changed, the others as they were
pub sound_set : (l : List (List ℕ)) (k : ℕ) (new : List ℕ) → k < length l → ((j : ℕ) → Sound (get_or l j [])) → Sound new → (j : ℕ) → Sound (get_or (set l k new) j [])
sound_set l k new h g n j =
    ⊎_elim
    (λ (e : j ≡ k). subst (λ (m : ℕ). Sound (get_or (set l k new) m [])) (sym e) (subst Sound (sym (get_or-set_same l k new [] h)) n))
    (λ (d : j ≡ k → ⊥). subst Sound (sym (get_or-set_other l k j new [] d)) (g j))
    (same_or_not j k)

-- what is known of a record that the pass meets, and of the store there
pub record Written (b s : List ℕ) (r : Record) : Type 0 where
  pub low : 0 < r.meter
  pub high : r.meter ≤ meters
  pub ordered : r.start ≤ r.next
  pub inside : r.next ≤ length b
  pub long : length s ≡ store_size

-- the writing pass
pub record Writing (s₀ b s : List ℕ) (w : Records) : Type 0 where
  pub lists : List (List ℕ)
  pub store : Lists s lists
  pub rest : Parsed
  pub walk : Walk b w rest
  pub room : room_of lists rest.records ≡ Ok tt
  pub same : append_all lists rest.records ≡ append_all (bits_of s₀) (parse b).records

pub writing_start : {s b : List ℕ} {w : Records} → Lists s (bits_of s) → room_of (bits_of s) (parse b).records ≡ Ok tt → w.block.now ≡ b → w.at ≡ 0 → Writing s b s w
writing_start {s} {b} l e p q = record { lists = bits_of s; store = l; rest = parse b; walk = walk_start p q; room = e; same = refl }

module _ {s₀ b s : List ℕ} {w t : Records} {x : Option (Result Record records.Refusal)} (k : Writing s₀ b s w) (go : Steps w x t) where
  writing_over : k.rest.records ≡ [] → s ≡ encode_all (append_all (bits_of s₀) (parse b).records)
  unfolding append_all
  writing_over e = k.store.same ∙ ap encode_all (sym (ap (append_all k.lists) e) ∙ k.same)

  pub writing_none : {y : Result Record records.Refusal} {z : records.Refusal} → x ≡ Some y → y ≡ Err z → s ≡ encode_all (append_all (bits_of s₀) (parse b).records)
  writing_none p q = writing_over (ap (λ (v : Parsed). v.records) (walk_refused k.walk go p q))

  pub writing_end : x ≡ None → s ≡ encode_all (append_all (bits_of s₀) (parse b).records)
  writing_end p = writing_over (ap (λ (v : Parsed). v.records) (walk_ended k.walk go p))

  module _ {y : Result Record records.Refusal} {r : Record} (p : x ≡ Some y) (q : y ≡ Ok r) where
    found : More b w r t k.rest
    found = walk_more k.walk go p q

    pub written : Written b s r
    written = record {
      low = found.stands.meter_low;
      high = found.stands.meter_high;
      ordered = omega (arith, found.stands.ends);
      inside = found.stands.last;
      long = lists_long s k.lists k.store;
    }

    parts : (length (get_or k.lists (r.meter - 1) []) + length (entry_of b w.at r).bits ≤ most_bits) × (room_of (append_to k.lists (entry_of b w.at r)) found.then.records ≡ Ok tt)
    parts = room_parts k.lists (entry_of b w.at r) found.then.records (sym (ap (room_of k.lists) found.records) ∙ k.room)

    place_in : r.meter - 1 < length k.lists
    place_in = omega (arith, found.stands.meter_low, found.stands.meter_high, k.store.size)

    count_is : count_of s (place_at r.meter) ≡ length (get_or k.lists (r.meter - 1) [])
    count_is = ap (λ (v : List ℕ). count_of v (place_at r.meter)) k.store.same ∙ count-of k.lists (r.meter - 1) place_in

    sound_at : Sound (get_or k.lists (r.meter - 1) [])
    sound_at = k.store.sound (r.meter - 1)

    bits_long : length (entry_of b w.at r).bits ≡ r.count
    bits_long = length_digits 2 r.count (num 256 (payload b r.start r.count))

    fits_now : {have : ℕ} → have ≡ count_of s (place_at r.meter) → PlaceFits s (place_at r.meter) have (payload b r.start r.count) r.count
    fits_now e =
        let n : num 256 (held s (place_at r.meter)) ≡ num 2 (get_or k.lists (r.meter - 1) [])
        = ap (λ (v : List ℕ). num 256 (held v (place_at r.meter))) k.store.same ∙ held_num k.lists (r.meter - 1) place_in sound_at in
        record {
          inside = omega (arith, written.long, written.low, written.high);
          low = subst (λ (v : ℕ). num 256 (held s (place_at r.meter)) < 2 ^ v) (sym (e ∙ count_is)) (subst (λ (v : ℕ). v < 2 ^ length (get_or k.lists (r.meter - 1) [])) (sym n) (sound_low _ sound_at));
          room = omega (arith, parts.0, bits_long, count_is);
          bytes = length-take-le (bytes_for r.count) (drop r.start b) (rw length-drop (omega (arith, found.stands.ends, found.stands.last)));
          spare = found.stands.spare;
        }

    after : {have : ℕ} → have ≡ count_of s (place_at r.meter) → appended s (place_at r.meter) have (payload b r.start r.count) r.count ≡ encode_all (append_to k.lists (entry_of b w.at r))
    after e =
        ap (λ (n : ℕ). appended s (place_at r.meter) n (payload b r.start r.count) r.count) (e ∙ count_is)
        ∙ ap (λ (v : List ℕ). appended v (place_at r.meter) (length (get_or k.lists (r.meter - 1) [])) (payload b r.start r.count) r.count) k.store.same
        ∙ append_law k.lists (r.meter - 1) place_in (payload b r.start r.count) r.count sound_at found.stands.spare

    new_sound : Sound (get_or k.lists (r.meter - 1) [] ++ (entry_of b w.at r).bits)
    new_sound = sound_append _ _ sound_at (digits-below 2 r.count (num 256 (payload b r.start r.count)) (omega arith)) parts.0

    writes_on : {have : ℕ} (s' : List ℕ) → have ≡ count_of s (place_at r.meter) → s' ≡ appended s (place_at r.meter) have (payload b r.start r.count) r.count → Writing s₀ b s' t
    unfolding append_all
    writes_on s' e f =
        let i = r.meter - 1 in
        let l = k.lists in
        let new = get_or l i [] ++ (entry_of b w.at r).bits in
        record {
          lists = append_to l (entry_of b w.at r);
          store = record {
            same = f ∙ after e;
            size = length-set l i new ∙ k.store.size;
            sound = sound_set l i new place_in k.store.sound new_sound;
          };
          rest = found.then;
          walk = found.walk;
          room = parts.1;
          same = sym (ap (append_all l) found.records) ∙ k.same;
        }

    -- as the code has them: the place and its count by name, and the payload as a part of the block
    part_is : take (r.next - r.start) (drop r.start b) ≡ payload b r.start r.count
    part_is = let n : r.next - r.start ≡ bytes_for r.count = omega (arith, found.stands.ends) in ap (λ (m : ℕ). take m (drop r.start b)) n

    pub fits_put : {to have : ℕ} → to ≡ place_at r.meter → have ≡ count_of s to → PlaceFits s to have (take (r.next - r.start) (drop r.start b)) r.count
    fits_put {to} {have} e f =
        subst (λ (n : ℕ). PlaceFits s n have (take (r.next - r.start) (drop r.start b)) r.count) (sym e)
        (subst (λ (v : List ℕ). PlaceFits s (place_at r.meter) have v r.count) (sym part_is) (fits_now (f ∙ ap (count_of s) e)))

    pub writes_put : {to have : ℕ} → to ≡ place_at r.meter → have ≡ count_of s to → {s' : List ℕ} → s' ≡ appended s to have (take (r.next - r.start) (drop r.start b)) r.count → Writing s₀ b s' t
    writes_put {to} {have} e f {s'} g =
        writes_on s' (f ∙ ap (count_of s) e)
        (g ∙ ap (λ (n : ℕ). appended s n have (take (r.next - r.start) (drop r.start b)) r.count) e ∙ ap (λ (v : List ℕ). appended s (place_at r.meter) have v r.count) part_is)
