-- What the program `read` prints for one question: antenna, bit count and the payload in hexadecimal, or "refused N", and " at P" behind it where there is a place.
--
--   hex_of bytes          two digits for each byte, 0 to 9 and A to F, the high one first
--   line_of r part        the line for an answer and its part, without the line end
--   line_size             the most bytes that a line takes
--   Tells first second meter ordinal text   the line of the question: "we name a meter and an ordinal from 1"; "a twin question over the same inputs answers the
--                        bit count and the antenna, 1 or 2, or the refusal"
-- The laws `tells_unique` and `tells_exists` say that a question has one line.
use Rattle.std.specs.Prelude.{ℕ, ◌+◌, ◌/◌, ◌%◌, cond, List, [], ◌∷◌, ◌++◌, ltb, Ok, Err}
use Rattle.text.specs.Text.{decimal_of}
use Rattle.phrases.specs.Phrases.{spaced, refused_text, placed_text}
use Rattle.records.specs.Block.{number_of, place_of}
use Rattle.antennas.specs.declared.Refusal.TheVariants.{Malformed, BadMeter, NoRecord}
use Rattle.antennas.specs.Antennas.{About, antenna_of, Read, Part}

-- the ASCII codes of the digits: 48 for 0, 65 for A
abbrev pub hex_digit : ℕ → ℕ
hex_digit n = cond (ltb n 10) (48 + n) (55 + n)

abbrev pub hex_byte : ℕ → List ℕ
hex_byte b = hex_digit (b / 16) ∷ hex_digit (b % 16) ∷ []

unfoldable pub hex_of : List ℕ → List ℕ
hex_of [] = []
hex_of (b ∷ bs) = hex_byte b ++ hex_of bs

abbrev pub found_line : ℕ → ℕ → List ℕ → List ℕ
found_line antenna count part = (spaced (decimal_of antenna) ++ spaced (decimal_of count)) ++ hex_of part

abbrev pub line_of : About → List ℕ → List ℕ
line_of (Ok x) part = found_line (antenna_of x.antenna) x.count part
line_of (Err (Malformed x)) part = placed_text (number_of x) (place_of x)
line_of (Err BadMeter) part = refused_text 14
line_of (Err NoRecord) part = refused_text 18

-- two numbers of at most ten digits, each with its space, and two digits for each of 64 bytes
abbrev pub line_size : ℕ
line_size = 150

pub data Tells (first second : List ℕ) (meter ordinal : ℕ) : List ℕ → Type 0 where
  told : {about : About} {part : List ℕ} → Read first second meter ordinal about → Part first second meter ordinal part → Tells first second meter ordinal (line_of about part)
