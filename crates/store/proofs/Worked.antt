-- The listing's block, worked from the definitions: taken into a fresh store, meter 3 has 13 bits, meter 7 has 3, and the others none.
use Prim.Native.Nat.{ℕ, ◌≤◌, ◌<◌}
use mathlib.Core.Path.{◌≡◌, refl, sym, ap, ◌∙◌}
use mathlib.Core.List.{List, [], ◌∷◌, ◌++◌, flatten}
use native.Mathlib.Omega.{arith}
use lib.ListN.{replicate}
use Rattle.bits.specs.Bits.{num, digits}
use Rattle.records.specs.Block.{meters, judged, head_at, Parsed, parse_from, parse}
use Rattle.records.specs.Named.{named, brought}
use Rattle.records.proofs.Blocks.{form_whole}
use Rattle.std.specs.Prelude.{Ok}
use Rattle.places.specs.Places.{burst, fresh}
use Rattle.room.specs.Rooms.{room_of}
use Rattle.store.specs.Taking.{take_of}
use Rattle.places.proofs.Decode.{fresh-store, fresh_lists, fresh_empty}
use Rattle.store.proofs.Taking.{taken}
use Rattle.store.proofs.Meters.{take_bits}

abbrev pub listing : List ℕ
listing = 90 ∷ 195 ∷ 0 ∷ 3 ∷ 0 ∷ 13 ∷ 83 ∷ 4 ∷ 90 ∷ 195 ∷ 0 ∷ 7 ∷ 0 ∷ 3 ∷ 5 ∷ []

pub listing_parse : parse listing ≡ record {
  records = record { at = 0; start = 6; next = 8; meter = 3; bits = 1 ∷ 1 ∷ 0 ∷ 0 ∷ 1 ∷ 0 ∷ 1 ∷ 0 ∷ 0 ∷ 0 ∷ 1 ∷ 0 ∷ 0 ∷ [] } ∷ record { at = 8; start = 14; next = 15; meter = 7; bits = 1 ∷ 0 ∷ 1 ∷ [] } ∷ [];
  form = Ok tt;
}
unfolding parse parse_from head_at judged num digits
listing_parse = refl

listing_room : room_of (replicate meters []) (parse listing).records ≡ Ok tt
unfolding room_of
listing_room = ap (λ (p : Parsed). room_of (replicate meters []) p.records) listing_parse

pub listing_taken : (take_of fresh listing).answer ≡ Ok tt
listing_taken =
    sym (taken fresh listing _ fresh-store (form_whole listing (omega arith) (ap (λ (p : Parsed). p.form) listing_parse))
    (ap (λ (l : List (List ℕ)). room_of l (parse listing).records) fresh_lists ∙ listing_room) refl).0

pub listing_bits : (m : ℕ) → 0 < m → m ≤ meters → burst (take_of fresh listing).store m ≡ brought m (parse listing).records
listing_bits m l h = take_bits m l h fresh listing listing_taken ∙ ap (λ (x : List ℕ). x ++ brought m (parse listing).records) (fresh_empty m)

pub listing_3 : burst (take_of fresh listing).store 3 ≡ 1 ∷ 1 ∷ 0 ∷ 0 ∷ 1 ∷ 0 ∷ 1 ∷ 0 ∷ 0 ∷ 0 ∷ 1 ∷ 0 ∷ 0 ∷ []
unfolding named flatten
listing_3 = listing_bits 3 (omega arith) (omega arith) ∙ ap (λ (p : Parsed). brought 3 p.records) listing_parse

pub listing_7 : burst (take_of fresh listing).store 7 ≡ 1 ∷ 0 ∷ 1 ∷ []
unfolding named flatten
listing_7 = listing_bits 7 (omega arith) (omega arith) ∙ ap (λ (p : Parsed). brought 7 p.records) listing_parse
