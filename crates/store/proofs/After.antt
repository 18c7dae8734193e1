-- The store after an answer.
--
--   Accepted s b        what is known of a block that was taken, and of the store afterwards
--   taken_parts         an answer that a block was taken says all that
--   refused_kept        any other answer leaves every byte as it was
--   take_kept           a store that keeps the rules keeps them
--   take_below          and bytes stay bytes
--   take_lists          the lists afterwards are the old ones with the records' bits after them
--   take_unique         any two results that meet the contract of `take` are equal; so for `number` and `place`
--   number_taken        only a block that was taken has the number 0
use Prim.Native.Nat.{ℕ}
use mathlib.Core.Path.{◌≡◌, refl, sym, ap, ◌∙◌, subst}
use mathlib.Core.Bool.{Bool, true, false}
use mathlib.Core.List.{List, []}
use native.Mathlib.Omega.{arith}
use lib.ListN.{length, get_or}
use Rattle.bits.specs.Bits.{Below}
use Rattle.records.specs.Block.{meters, parse, Form, form_of}
use Rattle.room.specs.Rooms.{Room}
use Rattle.store.specs.Taking.{Answer}
use Rattle.std.specs.Prelude.{Ok, Err}
use Rattle.store.specs.declared.Refusal.TheVariants.{NotAStore, Malformed, NoRoom}
use Rattle.places.specs.Places.{is_store, bits_of, encode_all}
use Rattle.room.specs.Rooms.{room_of}
use Rattle.store.specs.Taking.{append_all, take_of, number_of, place_of}
use Rattle.records.proofs.Unique.{number_some}
use Rattle.places.proofs.Encode.{Sound}
use Rattle.store.proofs.Taking.{bad_store, bad_form, no_room, taken}
use Rattle.places.proofs.Decode.{is_kept, same_lists, below_all}
use Rattle.store.proofs.Kept.{filled_from}

pub record Accepted (s b : List ℕ) : Type 0 where
  pub store : is_store s ≡ true
  pub form : form_of b ≡ Ok tt
  pub room : room_of (bits_of s) (parse b).records ≡ Ok tt
  pub after : (take_of s b).store ≡ encode_all (append_all (bits_of s) (parse b).records)

-- every store and block: taken, or refused with no byte changed
data Outcome (s b : List ℕ) : Type 0 where
  accepted : (take_of s b).answer ≡ Ok tt → Accepted s b → Outcome s b
  refused : ((take_of s b).answer ≡ Ok tt → ⊥) → (take_of s b).store ≡ s → Outcome s b

module _ (s b : List ℕ) where
  refusal : {x : Answer} → (x ≡ Ok tt → ⊥) → (x ≡ (take_of s b).answer) × (s ≡ (take_of s b).store) → Outcome s b
  refusal n h = refused (λ e. n (h.0 ∙ e)) (sym h.1)

  outcome_at : (t : Bool) (f : Form) (r : Room) → is_store s ≡ t → form_of b ≡ f → room_of (bits_of s) (parse b).records ≡ r → Outcome s b
  outcome_at false f r e p q = refusal (λ k. cc) (bad_store s b e)
  outcome_at true (Err x) r e p q = refusal (λ k. cc) (bad_form s b x e p)
  outcome_at true (Ok u) (Err n) e p q = refusal (λ k. cc) (no_room s b n e p q)
  outcome_at true (Ok u) (Ok v) e p q =
      let h = taken s b (encode_all (append_all (bits_of s) (parse b).records)) e p q refl in
      accepted (sym h.0) (record { store = e; form = p; room = q; after = sym h.1 })

  outcome : Outcome s b
  outcome = outcome_at (is_store s) (form_of b) (room_of (bits_of s) (parse b).records) refl refl refl

  pub taken_parts : (take_of s b).answer ≡ Ok tt → Accepted s b
  taken_parts k = go outcome
    where
      go : Outcome s b → Accepted s b
      go (accepted e a) = a
      go (refused n e) = absurd (n k)

  pub refused_kept : ((take_of s b).answer ≡ Ok tt → ⊥) → (take_of s b).store ≡ s
  refused_kept n = go outcome
    where
      go : Outcome s b → (take_of s b).store ≡ s
      go (accepted e a) = absurd (n e)
      go (refused m e) = e

  -- the new lists are 32, and each is one that a place can hold
  pub take_sound : Accepted s b → (length (append_all (bits_of s) (parse b).records) ≡ meters) × ((i : ℕ) → Sound (get_or (append_all (bits_of s) (parse b).records) i []))
  take_sound a = filled_from s b a.store a.room

  pub take_lists : (take_of s b).answer ≡ Ok tt → bits_of (take_of s b).store ≡ append_all (bits_of s) (parse b).records
  take_lists k =
      let a = taken_parts k in
      let f = take_sound a in
      ap bits_of a.after ∙ same_lists _ f.1 f.0

  pub take_kept : is_store s ≡ true → is_store (take_of s b).store ≡ true
  take_kept e = go outcome
    where
      go : Outcome s b → is_store (take_of s b).store ≡ true
      go (accepted k a) = let f = take_sound a in ap is_store a.after ∙ is_kept _ f.1 f.0
      go (refused m k) = ap is_store k ∙ e

  pub take_below : Below 256 s → Below 256 (take_of s b).store
  take_below l = go outcome
    where
      go : Outcome s b → Below 256 (take_of s b).store
      go (accepted k a) = subst (Below 256) (sym a.after) (below_all _ (take_sound a).1)
      go (refused m k) = subst (Below 256) (sym k) l

  pub take_unique : (x y : Answer) (t u : List ℕ) → (x ≡ (take_of s b).answer) × (t ≡ (take_of s b).store) → (y ≡ (take_of s b).answer) × (u ≡ (take_of s b).store) → (x ≡ y) × (t ≡ u)
  take_unique x y t u p q = (p.0 ∙ sym q.0, p.1 ∙ sym q.1)

pub number_unique : (r : Answer) (x y : ℕ) → x ≡ number_of r → y ≡ number_of r → x ≡ y
number_unique r x y p q = p ∙ sym q

pub place_unique : (r : Answer) (x y : ℕ) → x ≡ place_of r → y ≡ place_of r → x ≡ y
place_unique r x y p q = p ∙ sym q

pub number_taken : (x : Answer) → number_of x ≡ 0 → x ≡ Ok tt
number_taken (Ok u) e = refl
number_taken (Err NotAStore) e = absurd (omega arith)
number_taken (Err (Malformed x)) e = absurd (number_some x e)
number_taken (Err (NoRoom p)) e = absurd (omega arith)
