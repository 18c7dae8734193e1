-- What `learn` answers for the first `count` bits of bytes, by the document's numbers for no.
--
--   refusal_number e             the number of each `Refusal`
--   number_of r, p_of r, q_of r  the number, p and q of an answer; "Any other number that its answer has room for is 0"
--   longest                      "A burst has 0 to 4,096 bits"
--   Enough bytes count           the burst is no longer, and the bytes hold it
--   Learns bytes count number p q  the table of refusals, in its order "Learn: 1, 2, 3", and 0 with the smallest fraction
-- Bits past the count and extra bytes have no effect: `value bytes count` alone is read (law `learns_agree`).
use Rattle.std.specs.Prelude.{List, ℕ, ◌*◌, ◌≤◌, ◌<◌, ℤ, pos, length, Result}
use Rattle.bits.specs.Bits.{value}
use Rattle.refusals.specs.Refusals as refusals
use Rattle.fractions.specs.Pairs.{Smallest, NoneFits}
use Rattle.fractions.specs.declared.Fraction.{Fraction}
use Rattle.learning.specs.declared.Refusal.{Refusal}
use Rattle.learning.specs.declared.Refusal.TheVariants.{CountTooLarge, TooFewBytes, NoneInside}

abbrev pub refusal_number : Refusal → ℕ
refusal_number CountTooLarge = 1
refusal_number TooFewBytes = 2
refusal_number NoneInside = 3

abbrev pub number_of : Result Fraction Refusal → ℕ
number_of r = refusals.number_of refusal_number r

abbrev pub p_of : Result Fraction Refusal → ℤ
p_of r = refusals.field_of (pos 0) (λ (x : Fraction). x.p) r

abbrev pub q_of : Result Fraction Refusal → ℕ
q_of r = refusals.field_of 0 (λ (x : Fraction). x.q) r

abbrev pub longest : ℕ
longest = 4096

pub record Enough (bytes : List ℕ) (count : ℕ) : Type 0 where
  pub few : count ≤ longest
  pub there : count ≤ 8 * length bytes

pub data Learns (bytes : List ℕ) (count : ℕ) : ℕ → ℤ → ℕ → Type 0 where
  -- "the fitting pair inside the limits with least size; among those, least |p|; then least q; then p not negative"
  answer : {p : ℤ} {q : ℕ} → Enough bytes count → Smallest count (value bytes count) p q → Learns bytes count 0 p q
  -- 1: "burst count above 4,096"
  too_large : longest < count → Learns bytes count 1 (pos 0) 0
  -- 2: "fewer bytes than the count needs"
  too_few : count ≤ longest → 8 * length bytes < count → Learns bytes count 2 (pos 0) 0
  -- 3: "no fitting pair inside the limits"
  none : Enough bytes count → NoneFits count (value bytes count) → Learns bytes count 3 (pos 0) 0
