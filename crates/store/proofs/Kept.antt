-- What a reader may ask of taking a block: the store still keeps its rules, its lists are the old ones with the new bits after them,
-- and each meter's list depends only on the records that name it.
use Prim.Native.Nat.{ℕ, ◌-◌, ◌≤◌, ◌<◌}
use mathlib.Core.Path.{◌≡◌, sym, ap, ◌∙◌, subst}
use mathlib.Core.Bool.{true}
use mathlib.Core.Logic.{⊎_elim}
use mathlib.Core.List.{List, [], ◌∷◌, ◌++◌, map, flatten, append_assoc, append-nil}
use native.Mathlib.Omega.{arith}
use lib.ListN.{length, get_or, set, length-set}
use Rattle.std.specs.Prelude.{Ok}
use lib.Seq.{get_or-set_same, get_or-set_other}
use borrow.Author.Tests.{eq-eqb, ne_eqb}
use Rattle.records.specs.Block.{meters, Entry}
use Rattle.records.specs.Block.{parse}
use Rattle.records.specs.Named.{named, brought}
use Rattle.records.proofs.Cond.{yes, no}
use Rattle.records.proofs.Walk.{Each, one, ForMeter, each_record}
use Rattle.places.specs.Places.{bits_of, is_store}
use Rattle.room.specs.Rooms.{append_to, room_of}
use Rattle.store.specs.Taking.{append_all}
use Rattle.places.proofs.Encode.{Sound, all_sound, store_parts, length-bits_from}
use Rattle.room.proofs.Tally.{same_or_not, room_parts}
use Rattle.store.proofs.Pass.{sound_append, sound_set}

filled : (l : List (List ℕ)) (bs : List Entry) → length l ≡ meters → ((i : ℕ) → Sound (get_or l i [])) → Each ForMeter bs → room_of l bs ≡ Ok tt
    → (length (append_all l bs) ≡ meters) × ((i : ℕ) → Sound (get_or (append_all l bs) i []))
unfolding append_all
filled l [] n g a e = (n, g)
filled l (b ∷ bs) n g (one m a) e =
    let p = room_parts l b bs e in
    filled (append_to l b) bs (length-set l _ _ ∙ n) (sound_set l (b.meter - 1) _ (omega arith) g (sound_append (get_or l (b.meter - 1) []) b.bits (g (b.meter - 1)) m.bits p.0)) a p.1

-- each meter's list is its old one, and after it the bits that the records bring to the meter
brought_first : (m : ℕ) (e : Entry) (es : List Entry) → e.meter ≡ m → e.bits ++ brought m es ≡ brought m (e ∷ es)
unfolding named flatten
brought_first m e es p = sym (ap (λ (x : List Entry). flatten (map (λ (y : Entry). y.bits) x)) (yes (e ∷ named m es) (named m es) (eq-eqb e.meter m p)))

brought_other : (m : ℕ) (e : Entry) (es : List Entry) → (e.meter ≡ m → ⊥) → brought m es ≡ brought m (e ∷ es)
unfolding named
brought_other m e es p = sym (ap (λ (x : List Entry). flatten (map (λ (y : Entry). y.bits) x)) (no (e ∷ named m es) (named m es) (ne_eqb e.meter m p)))

pub by_meter : (l : List (List ℕ)) (es : List Entry) (m : ℕ) → Each ForMeter es → 0 < m → m ≤ length l → get_or (append_all l es) (m - 1) [] ≡ get_or l (m - 1) [] ++ brought m es
unfolding append_all named flatten
by_meter l [] m a z h = sym (append-nil (get_or l (m - 1) []))
by_meter l (e ∷ es) m (one f a) z h =
    let k = m - 1 in
    let j = e.meter - 1 in
    let new = get_or l j [] ++ e.bits in
    by_meter (set l j new) es m a z (subst (λ (n : ℕ). m ≤ n) (sym (length-set l j new)) h)
    ∙ ⊎_elim
    (λ (p : e.meter ≡ m).
    let q : j ≡ k = ap (λ (n : ℕ). n - 1) p in
    ap (λ (x : List ℕ). x ++ brought m es) (ap (λ (n : ℕ). get_or (set l j new) n []) (sym q) ∙ get_or-set_same l j new [] (omega arith) ∙ ap (λ (n : ℕ). get_or l n [] ++ e.bits) q)
    ∙ append_assoc (get_or l k []) e.bits (brought m es) ∙ ap (λ (x : List ℕ). get_or l k [] ++ x) (brought_first m e es p))
    (λ (p : e.meter ≡ m → ⊥).
    ap (λ (x : List ℕ). x ++ brought m es) (get_or-set_other l j k new [] (λ q. p (omega arith))) ∙ ap (λ (x : List ℕ). get_or l k [] ++ x) (brought_other m e es p))
    (same_or_not e.meter m)

-- where there was room, the lists with a block's bits after them are lists that places can hold
pub filled_from : (s b : List ℕ) → is_store s ≡ true → room_of (bits_of s) (parse b).records ≡ Ok tt
    → (length (append_all (bits_of s) (parse b).records) ≡ meters) × ((i : ℕ) → Sound (get_or (append_all (bits_of s) (parse b).records) i []))
filled_from s b e r = filled (bits_of s) (parse b).records (length-bits_from meters s 0) (all_sound meters s 0 (store_parts s e).1) (each_record b) r
