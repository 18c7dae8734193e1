-- What taking a block comes to, by what was found.
use Prim.Native.Nat.{ℕ}
use mathlib.Core.Path.{◌≡◌, refl, sym, ap, ◌∙◌}
use mathlib.Core.Bool.{true, false}
use mathlib.Core.List.{List}
use Rattle.records.specs.Block.{parse, form_of}
use Rattle.records.specs.declared.Refusal.{Refusal}
use Rattle.records.proofs.Cond.{no}
use Rattle.room.specs.declared.Full.{Full}
use Rattle.room.specs.Rooms.{Room}
use Rattle.store.specs.Taking.{Answer}
use Rattle.std.specs.Prelude.{Ok, Err}
use Rattle.store.specs.declared.Refusal.TheVariants.{NotAStore, Malformed, NoRoom}
use Rattle.places.specs.Places.{bits_of, is_store, encode_all}
use Rattle.room.specs.Rooms.{room_of}
use Rattle.store.specs.Taking.{append_all, on_room, Took, take_of}

both : {a : Answer} {s : List ℕ} (t : Took) → t ≡ record { answer = a; store = s } → (a ≡ t.answer) × (s ≡ t.store)
both t e = (sym (ap (λ (x : Took). x.answer) e), sym (ap (λ (x : Took). x.store) e))

module _ (s b : List ℕ) where
  pub bad_store : is_store s ≡ false → (Err NotAStore ≡ (take_of s b).answer) × (s ≡ (take_of s b).store)
  unfolding take_of
  bad_store e = both (take_of s b) (no _ _ e)

  pub bad_form : (x : Refusal) → is_store s ≡ true → form_of b ≡ Err x → (Err (Malformed x) ≡ (take_of s b).answer) × (s ≡ (take_of s b).store)
  unfolding take_of
  bad_form x e f = both (take_of s b) (rw (e, f) refl)

  roomed : (r : Room) → is_store s ≡ true → form_of b ≡ Ok tt → room_of (bits_of s) (parse b).records ≡ r
      → take_of s b ≡ on_room r s (encode_all (append_all (bits_of s) (parse b).records))
  unfolding take_of
  roomed r e f g = rw (e, f, g) refl

  pub no_room : (p : Full) → is_store s ≡ true → form_of b ≡ Ok tt → room_of (bits_of s) (parse b).records ≡ Err p
      → (Err (NoRoom p.at) ≡ (take_of s b).answer) × (s ≡ (take_of s b).store)
  no_room p e f g = both (take_of s b) (roomed (Err p) e f g)

  pub taken : (t : List ℕ) → is_store s ≡ true → form_of b ≡ Ok tt → room_of (bits_of s) (parse b).records ≡ Ok tt
      → t ≡ encode_all (append_all (bits_of s) (parse b).records) → (Ok tt ≡ (take_of s b).answer) × (t ≡ (take_of s b).store)
  taken t e f g h = let k = both (take_of s b) (roomed (Ok tt) e f g) in (k.0, h ∙ k.1)
