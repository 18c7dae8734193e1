-- The two-antenna reader, in the words of change request [1], "Two antennas, one record".
--
--   IsMeter meter             "meter number .. 1 to 32"
--   Nth ordinal records e     "an ordinal from 1": e is the first of the records, the second, ..
--   antenna_of a, of_antenna a x y   "the antenna, 1 or 2", and which of two things is that antenna's
--   seen_of a e                what is told of a record at antenna a: where "the payload bytes of that meter's record" begin, and how many they are
--   About                     an answer: what is told of the record, or the refusal
--   refusal_number, refusal_place   the number of a refusal, and its place
--   read_number .. read_length  the number and the values of an answer; what an answer lacks is 0
--   Asked a block meter ordinal r ..   the answer r, and its numbers, where this block is the one that is used
--   Reads first second meter ordinal r ..   the answer r, and its numbers: refusal, place, count, antenna, start, length
--   Read first second meter ordinal r  the same, its numbers taken from r
--   part_of first second r     the part that goes with an answer: "On a refusal the part handed back is empty"
--   Part first second meter ordinal bytes   the part's bytes, where "a twin question over the same inputs answers the bit count and the antenna"
--   part_at a b r              where the part that goes with an answer lies, a and b being where the two blocks begin: "as a part of the block it came from",
--                             and on a refusal "from the start of the first block"
--   Lies first second meter ordinal a b at   the part lies at `at`
use Rattle.std.specs.Prelude.{ℕ, suc, ◌+◌, ◌≤◌, ◌<◌, ◌≡◌, ◌⊎◌, List, [], ◌∷◌, length, take, drop, Result, Ok, Err}
use Rattle.refusals.specs.Refusals.{number_of, field_of}
use Rattle.records.specs.Block as block
use Rattle.records.specs.Block.{meters, bytes_for, Entry, parse, form_of}
use Rattle.records.specs.Named.{named}
use Rattle.records.specs.declared.Refusal as records
use Rattle.antennas.specs.declared.Antenna.{Antenna}
use Rattle.antennas.specs.declared.Antenna.TheVariants.{First, Second}
use Rattle.antennas.specs.declared.Seen.{Seen}
use Rattle.antennas.specs.declared.Refusal.{Refusal}
use Rattle.antennas.specs.declared.Refusal.TheVariants.{Malformed, BadMeter, NoRecord}

abbrev pub IsMeter : ℕ → Type 0
IsMeter meter = (0 < meter) × (meter ≤ meters)

pub data Nth : ℕ → List Entry → Entry → Type 0 where
  here : {e : Entry} {es : List Entry} → Nth 1 (e ∷ es) e
  later : {n : ℕ} {d e : Entry} {es : List Entry} → Nth n es e → Nth (suc n) (d ∷ es) e

abbrev pub antenna_of : Antenna → ℕ
antenna_of First = 1
antenna_of Second = 2

abbrev pub of_antenna : {A : Type 0} → Antenna → A → A → A
of_antenna First a b = a
of_antenna Second a b = b

abbrev pub About : Type 0
About = Result Seen Refusal

abbrev pub seen_of : Antenna → Entry → Seen
seen_of antenna e = record { count = length e.bits; antenna = antenna; start = e.start; length = bytes_for (length e.bits) }

abbrev pub refusal_number : Refusal → ℕ
refusal_number (Malformed x) = block.number_of x
refusal_number BadMeter = 14
refusal_number NoRecord = 18

abbrev pub refusal_place : Refusal → ℕ
refusal_place (Malformed x) = block.place_of x
refusal_place BadMeter = 0
refusal_place NoRecord = 0

abbrev pub read_number : About → ℕ
read_number r = number_of refusal_number r

abbrev pub read_place : About → ℕ
read_place (Ok x) = 0
read_place (Err x) = refusal_place x

abbrev pub read_count : About → ℕ
read_count r = field_of 0 (λ (x : Seen). x.count) r

abbrev pub read_antenna : About → ℕ
read_antenna r = field_of 0 (λ (x : Seen). antenna_of x.antenna) r

abbrev pub read_start : About → ℕ
read_start r = field_of 0 (λ (x : Seen). x.start) r

abbrev pub read_length : About → ℕ
read_length r = field_of 0 (λ (x : Seen). x.length) r

-- "we name a meter and an ordinal from 1"; "14 for the asked meter, then new 18 if the block used has no such record or the ordinal is 0"
pub data Asked (antenna : Antenna) (block : List ℕ) (meter ordinal : ℕ) : About → ℕ → ℕ → ℕ → ℕ → ℕ → ℕ → Type 0 where
  found : {e : Entry} → IsMeter meter → Nth ordinal (named meter (parse block).records) e
      → Asked antenna block meter ordinal (Ok (seen_of antenna e)) 0 0 (length e.bits) (antenna_of antenna) e.start (bytes_for (length e.bits))
  bad_meter : (IsMeter meter → ⊥) → Asked antenna block meter ordinal (Err BadMeter) 14 0 0 0 0 0
  no_record : IsMeter meter → (length (named meter (parse block).records) < ordinal) ⊎ (ordinal ≡ 0) → Asked antenna block meter ordinal (Err NoRecord) 18 0 0 0 0 0

-- "The first antenna's block is used if all of it is well formed, otherwise the second's."
-- "Refusals: 11 to 16 of the first block with its place if both blocks are malformed, then .."
pub data Reads (first second : List ℕ) (meter ordinal : ℕ) : About → ℕ → ℕ → ℕ → ℕ → ℕ → ℕ → Type 0 where
  by_first : {r : About} {refusal place count antenna start size : ℕ} → form_of first ≡ Ok tt
      → Asked First first meter ordinal r refusal place count antenna start size → Reads first second meter ordinal r refusal place count antenna start size
  by_second : {x : records.Refusal} {r : About} {refusal place count antenna start size : ℕ} → form_of first ≡ Err x → form_of second ≡ Ok tt
      → Asked Second second meter ordinal r refusal place count antenna start size → Reads first second meter ordinal r refusal place count antenna start size
  neither : {x y : records.Refusal} → form_of first ≡ Err x → form_of second ≡ Err y → Reads first second meter ordinal (Err (Malformed x)) (block.number_of x) (block.place_of x) 0 0 0 0

abbrev pub Read : List ℕ → List ℕ → ℕ → ℕ → About → Type 0
Read first second meter ordinal r = Reads first second meter ordinal r (read_number r) (read_place r) (read_count r) (read_antenna r) (read_start r) (read_length r)

-- "a part of the block it came from"
abbrev pub part_of : List ℕ → List ℕ → About → List ℕ
part_of first second (Ok x) = take x.length (drop x.start (of_antenna x.antenna first second))
part_of first second (Err x) = []

pub record Part (first second : List ℕ) (meter ordinal : ℕ) (bytes : List ℕ) : Type 0 where
  pub about : About
  pub read : Read first second meter ordinal about
  pub bytes_are : bytes ≡ part_of first second about

-- an address: a stretch of memory, and a number of bytes into it; `behind a n` is n bytes behind a
abbrev pub Address : Type 0
Address = ℕ × ℕ

abbrev pub behind : Address → ℕ → Address
behind a n = (a.0, n + a.1)

abbrev pub part_at : Address → Address → About → Address
part_at a b (Ok x) = behind (of_antenna x.antenna a b) x.start
part_at a b (Err x) = a

pub record Lies (first second : List ℕ) (meter ordinal : ℕ) (a b at : Address) : Type 0 where
  pub about : About
  pub read : Read first second meter ordinal about
  pub at_is : at ≡ part_at a b about
