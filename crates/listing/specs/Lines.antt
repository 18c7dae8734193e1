-- The listing, in the words of the document's "Listing program".
--
--   header_text              "meter bits p q cells memory lead period", and a line end
--   row first rest          "Fields, one space between", and a line end
--   HasBits s meter         the store keeps the rules, and the meter is 1 to 32 and has bits: "prints, by rising meter number, each meter with bits"
--   LastTwo g lead period   lead-in and period: "The walk's allowance is 65,536; past it the last two are "-"."
--   Lines s meter text      the line of a meter, empty where it has none: "Fields ..: meter, bit count, p, q, cells (r), loaded memory, lead-in,
--                           period. .. With refusal 3 the line is meter, count, "none"."
--   line_size                the most bytes that a line takes
-- The laws `lines_unique` and `lines_exists` say that a meter has one line.
use Rattle.std.specs.Prelude.{List, [], ◌∷◌, ◌++◌, ℕ, ◌<◌, ℤ, pos, length}
use Rattle.registers.specs.Registers.{cell_count}
use Rattle.registers.specs.Answers.{Loads}
use Rattle.registers.specs.declared.Register.{Register}
use Rattle.walking.specs.Walks.{Walks}
use Rattle.places.specs.Places.{burst, HasPlace}
use Rattle.by_meter.specs.ByMeter.{LearnsMeter}
use Rattle.text.specs.Text.{decimal_of, signed_of}
use Rattle.phrases.specs.Phrases.{space, line_end}

-- "-" and "none"
abbrev pub dash : List ℕ
dash = 45 ∷ []

abbrev pub none_word : List ℕ
none_word = 110 ∷ 111 ∷ 110 ∷ 101 ∷ []

abbrev pub row : List ℕ → List (List ℕ) → List ℕ
row first [] = first ++ (line_end ∷ [])
row first (second ∷ rest) = first ++ (space ∷ row second rest)

-- "meter", "bits", "p", "q", "cells", "memory", "lead" and "period"
abbrev pub header_text : List ℕ
header_text =
    row (109 ∷ 101 ∷ 116 ∷ 101 ∷ 114 ∷ [])
    ((98 ∷ 105 ∷ 116 ∷ 115 ∷ [])
    ∷ (112 ∷ [])
    ∷ (113 ∷ [])
    ∷ (99 ∷ 101 ∷ 108 ∷ 108 ∷ 115 ∷ [])
    ∷ (109 ∷ 101 ∷ 109 ∷ 111 ∷ 114 ∷ 121 ∷ [])
    ∷ (108 ∷ 101 ∷ 97 ∷ 100 ∷ [])
    ∷ (112 ∷ 101 ∷ 114 ∷ 105 ∷ 111 ∷ 100 ∷ [])
    ∷ [])

abbrev pub allowance : ℕ
allowance = 65536

pub data LastTwo (g : Register) : List ℕ → List ℕ → Type 0 where
  walked : {L T S : ℕ} → Walks g allowance 0 L T S → LastTwo g (decimal_of L) (decimal_of T)
  past : Walks g allowance 6 0 0 0 → LastTwo g dash dash

pub record HasBits (s : List ℕ) (meter : ℕ) : Type 0 where
  pub asked : HasPlace s meter
  pub some : 0 < length (burst s meter)

pub data Lines (s : List ℕ) (meter : ℕ) : List ℕ → Type 0 where
  silent : (HasBits s meter → ⊥) → Lines s meter []
  fraction : {p : ℤ} {q : ℕ} {g : Register} {lead period : List ℕ} → HasBits s meter → LearnsMeter s meter 0 p q → Loads p q 0 g → LastTwo g lead period
      → Lines s meter (row (decimal_of meter) (decimal_of (length (burst s meter)) ∷ signed_of p ∷ decimal_of q ∷ decimal_of (cell_count q) ∷ signed_of g.memory ∷ lead ∷ period ∷ []))
  none : HasBits s meter → LearnsMeter s meter 3 (pos 0) 0 → Lines s meter (row (decimal_of meter) (decimal_of (length (burst s meter)) ∷ none_word ∷ []))

abbrev pub line_size : ℕ
line_size = 96
