-- The place that taking a block answers: at most 16,384, so that 32 bits hold it.
--
--   full_inside   the record that has no room begins inside the block
--   take_place    the place of every answer is at most the most bytes of a block
use Prim.Native.Nat.{ℕ, ◌+◌, ◌-◌, ◌≤◌, ◌<◌}
use mathlib.Core.Path.{◌≡◌, refl, ap, subst}
use Rattle.std.specs.Prelude.{Ok, Err}
use mathlib.Core.Bool.{Bool, true, false, cond}
use mathlib.Core.List.{List, [], ◌∷◌}
use native.Mathlib.Omega.{arith}
use lib.ListN.{length, get_or}
use lib.Dec.{ltb}
use Rattle.records.specs.Block.{block_bytes, Entry, parse, Form, form_of}
use Rattle.records.proofs.Walk.{none, one}
use Rattle.records.proofs.Positions.{Starts, records_inside, form_placed}
use Rattle.records.proofs.Blocks.{form_parts}
use Rattle.room.specs.declared.Full.{Full}
use Rattle.room.specs.Rooms.{Room}
use Rattle.store.specs.Taking.{Answer}
use Rattle.places.specs.Places.{most_bits, is_store, bits_of, encode_all}
use Rattle.room.specs.Rooms.{append_to, room_of}
use Rattle.store.specs.Taking.{append_all, take_of, place_of}
use Rattle.store.proofs.Taking.{bad_store, bad_form, no_room, taken}

pub full_inside : (n : ℕ) (l : List (List ℕ)) (es : List Entry) → Starts n es → (p : Full) → room_of l es ≡ Err p → p.at < n
unfolding room_of
full_inside n l [] none p e = cc
full_inside n l (x ∷ es) (one h k) p e = by_room (ltb most_bits (length (get_or l (x.meter - 1) []) + length x.bits)) (full_inside n (append_to l x) es k p) e
  where
    by_room : (t : Bool) → (room_of (append_to l x) es ≡ Err p → p.at < n) → cond t (Err (record { at = x.at })) (room_of (append_to l x) es) ≡ Err p → p.at < n
    by_room true go r = let q : ◌≡◌ {A = Full} (record { at = x.at }) p = cc in omega (arith, ap (λ (y : Full). y.at) q)
    by_room false go r = go r

module _ (s b : List ℕ) where
  abbrev Within : Answer → Type 0
  Within x = place_of x ≤ block_bytes

  place_at : (t : Bool) (f : Form) (r : Room) → is_store s ≡ t → form_of b ≡ f → room_of (bits_of s) (parse b).records ≡ r → Within (take_of s b).answer
  place_at false f r e p q = subst Within (bad_store s b e).0 (omega arith)
  place_at true (Err x) r e p q = subst Within (bad_form s b x e p).0 (form_placed b x p).1
  place_at true (Ok u) (Err n) e p q =
      subst Within (no_room s b n e p q).0 (omega (arith, full_inside (length b) (bits_of s) (parse b).records (records_inside b) n q, (form_parts b p).0))
  place_at true (Ok u) (Ok v) e p q = subst Within (taken s b (encode_all (append_all (bits_of s) (parse b).records)) e p q refl).0 (omega arith)

  pub take_place : place_of (take_of s b).answer ≤ block_bytes
  take_place = place_at (is_store s) (form_of b) (room_of (bits_of s) (parse b).records) refl refl refl
