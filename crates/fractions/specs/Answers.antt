-- What the public functions answer, by the document's numbers for no.
--
--   refusal_number x            the number of a refusal
--   number_of r, word_of r      the number and the values of an answer
--   Outputs p q number word   "the whole number u below 2^64 with u·q - p divisible by 2^64"; refusal 4: "pair .. outside its limits"
use Rattle.std.specs.Prelude.{ℕ, ◌^◌, ◌<◌, ℤ, Result}
use Rattle.refusals.specs.Refusals as answers
use Rattle.fractions.specs.Pairs.{Inside, Fits}
use Rattle.fractions.specs.declared.Outside.{Outside}

abbrev pub refusal_number : Outside → ℕ
refusal_number x = 4

abbrev pub number_of : Result ℕ Outside → ℕ
number_of r = answers.number_of refusal_number r

abbrev pub word_of : Result ℕ Outside → ℕ
word_of r = answers.field_of 0 (λ u. u) r

pub data Outputs (p : ℤ) (q : ℕ) : ℕ → ℕ → Type 0 where
  word : {u : ℕ} → Inside p q → u < 2 ^ 64 → Fits 64 u p q → Outputs p q 0 u
  outside : (Inside p q → ⊥) → Outputs p q 4 0
