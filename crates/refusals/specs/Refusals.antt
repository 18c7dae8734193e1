-- Answers that may be refusals. "A refusal returns its number .. Any other number that its answer has room for is 0."
--
--   number_of number r    the number of an answer, `number` being those of its refusals; 0 where it is none
--   field_of zero f r     what f takes from an answer; zero where it is a refusal
use Rattle.std.specs.Prelude.{ℕ, Result, Ok, Err}

abbrev pub number_of : {T E : Type 0} → (E → ℕ) → Result T E → ℕ
number_of number (Ok x) = 0
number_of number (Err e) = number e

abbrev pub field_of : {T E A : Type 0} → A → (T → A) → Result T E → A
field_of zero f (Ok x) = f x
field_of zero f (Err e) = zero
