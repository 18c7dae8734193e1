-- The store as bytes, and as 32 lists of bits.
--
--   place_size store_size most_bits   "32 places of 514 bytes (16,448)", "a count (.. 0 to 4,096)"
--   count_offset bits_offset bit_bytes   "a count (two bytes, high first ..), then 512 bytes of bits"
--   place_at meter          "place k for meter k": where it begins
--   count_of s at, held s at   the count of the place at `at`, and the bytes of its bits
--   encode bits            the place that holds these bits: their number, then the bits, first bit lowest, then zeros
--   is_place s at           "a count (.. 0 to 4,096) .. Bits at and past the count are zero"
--   is_store s              not refused by 10: "store not 16,448 bytes, or any place breaks the rules above"
--   bits_at s at            the bits of the place at `at`
--   bits_of s               the bits of each place, by rising meter number
--   fresh                  "A fresh store is all zero."
--   burst s meter          "A learn request by meter number uses that place's bits."
--   HasPlace s meter       the store keeps the rules, and "meter number .. 1 to 32"
use Rattle.std.specs.Prelude.{ℕ, zero, suc, ◌+◌, ◌-◌, ◌*◌, ◌/◌, ◌%◌, ◌^◌, ◌≤◌, ◌<◌, ◌≡◌, List, [], ◌∷◌, ◌++◌, Bool, true, false, cond, length, get_or, take, drop, replicate, ltb, leb, eqb}
use Rattle.bits.specs.Bits.{num, digits}
use Rattle.records.specs.Block.{meters, two_bytes}

abbrev pub place_size : ℕ
place_size = 514

abbrev pub count_offset : ℕ
count_offset = 0

abbrev pub bits_offset : ℕ
bits_offset = 2

abbrev pub bit_bytes : ℕ
bit_bytes = 512

abbrev pub most_bits : ℕ
most_bits = 4096

abbrev pub store_size : ℕ
store_size = 16448

abbrev pub place_at : ℕ → ℕ
place_at meter = place_size * (meter - 1)

abbrev pub count_of : List ℕ → ℕ → ℕ
count_of s at = two_bytes s (at + count_offset)

abbrev pub held : List ℕ → ℕ → List ℕ
held s at = take bit_bytes (drop (at + bits_offset) s)

unfoldable pub encode : List ℕ → List ℕ
encode bits = length bits / 256 ∷ length bits % 256 ∷ digits 256 bit_bytes (num 2 bits)

unfoldable pub encode_all : List (List ℕ) → List ℕ
encode_all [] = []
encode_all (b ∷ bs) = encode b ++ encode_all bs

-- that the number of the bytes is below 2 to the count says that no bit at or past the count is set (law `place_rules`)
unfoldable pub is_place : List ℕ → ℕ → Bool
is_place s at = cond (leb (count_of s at) most_bits) (ltb (num 256 (held s at)) (2 ^ count_of s at)) false

-- k places from `at` on
unfoldable pub places_from : ℕ → List ℕ → ℕ → Bool
places_from zero s at = true
places_from (suc k) s at = cond (is_place s at) (places_from k s (at + place_size)) false

unfoldable pub is_store : List ℕ → Bool
is_store s = cond (eqb (length s) store_size) (places_from meters s 0) false

unfoldable pub bits_at : List ℕ → ℕ → List ℕ
bits_at s at = digits 2 (count_of s at) (num 256 (held s at))

unfoldable pub bits_from : ℕ → List ℕ → ℕ → List (List ℕ)
bits_from zero s at = []
bits_from (suc k) s at = bits_at s at ∷ bits_from k s (at + place_size)

abbrev pub bits_of : List ℕ → List (List ℕ)
bits_of s = bits_from meters s 0

abbrev pub fresh : List ℕ
fresh = replicate store_size 0

abbrev pub burst : List ℕ → ℕ → List ℕ
burst s meter = get_or (bits_of s) (meter - 1) []

pub record HasPlace (s : List ℕ) (meter : ℕ) : Type 0 where
  pub store : is_store s ≡ true
  pub low : 0 < meter
  pub high : meter ≤ meters
