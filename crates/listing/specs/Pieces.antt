-- Words of private functions; no public contract cites them. A line is written piece by piece.
--
--   registered p q m  the four fields from p to the memory, each with its space
--   Way g text        the last two fields and the line end
--   Rest p q text     what follows the count in the line of a meter with a fraction
use Rattle.std.specs.Prelude.{List, [], ◌∷◌, ◌++◌, ℕ, ℤ}
use Rattle.registers.specs.Registers.{cell_count}
use Rattle.registers.specs.Answers.{Loads}
use Rattle.registers.specs.declared.Register.{Register}
use Rattle.text.specs.Text.{decimal_of, signed_of}
use Rattle.phrases.specs.Phrases.{spaced}
use Rattle.listing.specs.Lines.{row, LastTwo}

abbrev pub registered : ℤ → ℕ → ℤ → List ℕ
registered p q m = spaced (signed_of p) ++ (spaced (decimal_of q) ++ (spaced (decimal_of (cell_count q)) ++ spaced (signed_of m)))

pub data Way (g : Register) : List ℕ → Type 0 where
  way : {lead period : List ℕ} → LastTwo g lead period → Way g (row lead (period ∷ []))

pub data Rest (p : ℤ) (q : ℕ) : List ℕ → Type 0 where
  rest : {g : Register} {lead period : List ℕ} → Loads p q 0 g → LastTwo g lead period
      → Rest p q (row (signed_of p) (decimal_of q ∷ decimal_of (cell_count q) ∷ signed_of g.memory ∷ lead ∷ period ∷ []))
