-- What the period table answers, by the document's numbers for no.
--
--   refusal_number x            the number of a refusal
--   number_of r, period_of r    the number and the value of an answer
--   InTable q                 "for every odd q from 1 to 1,023"
--   Periods q number period   "the least T >= 1 with 2^T - 1 divisible by q"; "Even q, 0 and larger q get refusal 4."
use Rattle.std.specs.Prelude.{◌≡◌, ℕ, ◌%◌, ◌≤◌, Result}
use Rattle.refusals.specs.Refusals as answers
use Rattle.periods.specs.Orders.{Order}
use Rattle.periods.specs.declared.Outside.{Outside}

abbrev pub refusal_number : Outside → ℕ
refusal_number x = 4

abbrev pub number_of : Result ℕ Outside → ℕ
number_of r = answers.number_of refusal_number r

abbrev pub period_of : Result ℕ Outside → ℕ
period_of r = answers.field_of 0 (λ t. t) r

pub record InTable (q : ℕ) : Type 0 where
  pub odd : q % 2 ≡ 1
  pub some : 1 ≤ q
  pub most : q ≤ 1023

pub data Periods (q : ℕ) : ℕ → ℕ → Type 0 where
  entry : {t : ℕ} → InTable q → Order q t → Periods q 0 t
  outside : (InTable q → ⊥) → Periods q 4 0
