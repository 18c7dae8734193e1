-- What a text says as a number: "a number from 0 to 4294967295, in decimal digits".
--
--   Digits s        every byte is a digit, "0" to "9"
--   value_from a s   the number whose digits are those of a and behind them those of s
--   value_of s       the number whose digits are s
--   Numeral s       one digit or more and nothing else, and the number is below 2^32
--   Says s x        the answer for the bytes s: their number, or that they are none
-- The laws `says_unique` and `says_exists` say that every text has one answer, `decimal_says` that a number is read from its own text.
use Rattle.std.specs.Prelude.{List, [], ◌∷◌, ℕ, ◌+◌, ◌-◌, ◌*◌, ◌^◌, ◌≤◌, ◌<◌, length, Option, Some, None}
use Rattle.text.specs.Text.{digit_of}

unfoldable pub Digits : List ℕ → Type 0
Digits [] = Unit {0}
Digits (x ∷ xs) = ((digit_of 0 ≤ x) × (x ≤ digit_of 9)) × Digits xs

unfoldable pub value_from : ℕ → List ℕ → ℕ
value_from a [] = a
value_from a (x ∷ xs) = value_from (10 * a + (x - digit_of 0)) xs

abbrev pub value_of : List ℕ → ℕ
value_of s = value_from 0 s

pub record Numeral (s : List ℕ) : Type 0 where
  pub some : 0 < length s
  pub digits : Digits s
  pub small : value_of s < 2 ^ 32

pub data Says (s : List ℕ) : Option ℕ → Type 0 where
  number : Numeral s → Says s (Some (value_of s))
  none : (Numeral s → ⊥) → Says s None
