-- All that the program `read` prints. The line of one question is `Tells` of the crate `reading`, what a text says as a number `Says` of the crate `text`.
--
--   Whole first second meter ordinal text   the line of the question, and its line end
--   Prints m o first second x               what is printed for the texts m and o of METER and ORDINAL: the text x. Where METER is no number, or then ORDINAL, the
--                                           answer says which, and there is no text
--   printed r                               the answer of the program's call, as that
-- The laws `whole_unique`, `print_unique` and `print_exists` say that arguments and blocks have one answer.
use Rattle.std.specs.Prelude.{List, [], ◌∷◌, ◌++◌, ℕ, Some, None, Result, Ok, Err}
use Rattle.arrayvec.specs.ArrayString.{ArrayString}
use Rattle.text.specs.Numerals.{Says}
use Rattle.phrases.specs.Phrases.{line_end}
use Rattle.reading.specs.Line.{Tells}
use Rattle.read_text.specs.declared.NoNumber.{NoNumber}
use Rattle.read_text.specs.declared.NoNumber.TheVariants as E

pub data Whole (first second : List ℕ) (meter ordinal : ℕ) : List ℕ → Type 0 where
  ended : {line : List ℕ} → Tells first second meter ordinal line → Whole first second meter ordinal (line ++ (line_end ∷ []))

pub data Prints (m o first second : List ℕ) : Result (List ℕ) NoNumber → Type 0 where
  line : {meter ordinal : ℕ} {text : List ℕ} → Says m (Some meter) → Says o (Some ordinal) → Whole first second meter ordinal text → Prints m o first second (Ok text)
  no_meter : Says m None → Prints m o first second (Err E.Meter)
  no_ordinal : {meter : ℕ} → Says m (Some meter) → Says o None → Prints m o first second (Err E.Ordinal)

abbrev pub printed : Result ArrayString NoNumber → Result (List ℕ) NoNumber
printed (Ok out) = Ok out.bytes
printed (Err e) = Err e
