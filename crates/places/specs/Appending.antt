-- What appending to one place asks of its caller and comes to; no public contract rests on it.
--
--   PlaceFits s at have payload count   the place at `at` has `have` bits, and room for the `count` bits of the payload
--   appended s at have payload count    the store with those bits after the ones that the place had
use Rattle.std.specs.Prelude.{ℕ, ◌+◌, ◌*◌, ◌/◌, ◌%◌, ◌^◌, ◌≤◌, ◌<◌, ◌≡◌, List, ◌∷◌, ◌++◌, length, take, drop}
use Rattle.bits.specs.Bits.{num, digits}
use Rattle.records.specs.Block.{bytes_for}
use Rattle.places.specs.Places.{place_size, bit_bytes, most_bits, held}

pub record PlaceFits (s : List ℕ) (at have : ℕ) (payload : List ℕ) (count : ℕ) : Type 0 where
  pub inside : at + place_size ≤ length s
  pub low : num 256 (held s at) < 2 ^ have
  pub room : have + count ≤ most_bits
  pub bytes : length payload ≡ bytes_for count
  pub spare : num 256 payload < 2 ^ count

unfoldable pub appended : List ℕ → ℕ → ℕ → List ℕ → ℕ → List ℕ
appended s at have payload count =
    take at s ++ (((have + count) / 256 ∷ (have + count) % 256 ∷ digits 256 bit_bytes (num 256 (held s at) + 2 ^ have * num 256 payload)) ++ drop (at + place_size) s)
