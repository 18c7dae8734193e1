-- Learning by meter number, by the document's numbers for no. "A learn request by meter number uses that place's bits."
--
--   refusal_number e                    the number of each `Refusal`
--   meter_number r, meter_p r, meter_q r   the number, p and q of an answer
--   LearnsMeter s meter number p q      the table of refusals, in its order "By meter: 10, 14, 3", and 0 with the smallest fraction
use Rattle.std.specs.Prelude.{◌≡◌, true, false, ◌⊎◌, List, ℕ, ◌<◌, ℤ, pos, length, Result}
use Rattle.refusals.specs.Refusals as refusals
use Rattle.bits.specs.Bits.{num}
use Rattle.fractions.specs.Pairs.{Smallest, NoneFits}
use Rattle.fractions.specs.declared.Fraction.{Fraction}
use Rattle.records.specs.Block.{meters}
use Rattle.places.specs.Places.{is_store, burst, HasPlace}
use Rattle.by_meter.specs.declared.Refusal.{Refusal}
use Rattle.by_meter.specs.declared.Refusal.TheVariants.{NotAStore, BadMeter, NoneInside}

abbrev pub refusal_number : Refusal → ℕ
refusal_number NotAStore = 10
refusal_number BadMeter = 14
refusal_number NoneInside = 3

abbrev pub meter_number : Result Fraction Refusal → ℕ
meter_number r = refusals.number_of refusal_number r

abbrev pub meter_p : Result Fraction Refusal → ℤ
meter_p r = refusals.field_of (pos 0) (λ (x : Fraction). x.p) r

abbrev pub meter_q : Result Fraction Refusal → ℕ
meter_q r = refusals.field_of 0 (λ (x : Fraction). x.q) r

pub data LearnsMeter (s : List ℕ) (meter : ℕ) : ℕ → ℤ → ℕ → Type 0 where
  -- the smallest fraction that fits the place's bits, n their number and A their value
  answer : {p : ℤ} {q : ℕ} → HasPlace s meter → Smallest (length (burst s meter)) (num 2 (burst s meter)) p q → LearnsMeter s meter 0 p q
  -- 10: "store not 16,448 bytes, or any place breaks the rules above"
  damaged : is_store s ≡ false → LearnsMeter s meter 10 (pos 0) 0
  -- 14: "meter number not 1 to 32"
  unknown : is_store s ≡ true → (meter ≡ 0) ⊎ (meters < meter) → LearnsMeter s meter 14 (pos 0) 0
  -- 3: "no fitting pair inside the limits"
  none : HasPlace s meter → NoneFits (length (burst s meter)) (num 2 (burst s meter)) → LearnsMeter s meter 3 (pos 0) 0
