-- The words that the laws on taking blocks are stated in; no contract cites them.
--
--   place_bytes s meter    the bytes of a meter's place
--   Runs s blocks t       the blocks were taken one after the other, from the store s to the store t
--   brought_by m blocks    the bits that blocks bring to a meter: those of the records that name it, in the order they came
--   named_by m blocks      those records
use Rattle.std.specs.Prelude.{ℕ, ◌≡◌, List, [], ◌∷◌, ◌++◌, take, drop}
use Rattle.records.specs.Block.{Entry, parse}
use Rattle.records.specs.Named.{named, brought}
use Rattle.places.specs.Places.{place_size, place_at}
use Rattle.store.specs.Taking.{take_of}
use Rattle.std.specs.Prelude.{Ok}

abbrev pub place_bytes : List ℕ → ℕ → List ℕ
place_bytes s meter = take place_size (drop (place_at meter) s)

pub data Runs : List ℕ → List (List ℕ) → List ℕ → Type 0 where
  none : {s : List ℕ} → Runs s [] s
  then : {s b t : List ℕ} {bs : List (List ℕ)} → (take_of s b).answer ≡ Ok tt → Runs (take_of s b).store bs t → Runs s (b ∷ bs) t

unfoldable pub brought_by : ℕ → List (List ℕ) → List ℕ
brought_by m [] = []
brought_by m (b ∷ bs) = brought m (parse b).records ++ brought_by m bs

unfoldable pub named_by : ℕ → List (List ℕ) → List Entry
named_by m [] = []
named_by m (b ∷ bs) = named m (parse b).records ++ named_by m bs
