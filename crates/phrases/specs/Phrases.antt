-- What the listing program and the program `read` both print, as text.
--
--   space, line_end                 the ASCII codes of a space and of a line end
--   spaced field                   a field and the space behind it: "Fields, one space between"
--   refused_text n                  "refused N"
--   placed_text n p                 the same with its place: "A refused block prints only "refused N at P"."
use Rattle.std.specs.Prelude.{List, [], ◌∷◌, ◌++◌, ℕ}
use Rattle.text.specs.Text.{decimal_of}

abbrev pub space : ℕ
space = 32

abbrev pub line_end : ℕ
line_end = 10

abbrev pub spaced : List ℕ → List ℕ
spaced field = field ++ (space ∷ [])

-- "refused " and " at "
abbrev pub refused_word : List ℕ
refused_word = 114 ∷ 101 ∷ 102 ∷ 117 ∷ 115 ∷ 101 ∷ 100 ∷ space ∷ []

abbrev pub at_word : List ℕ
at_word = space ∷ 97 ∷ 116 ∷ space ∷ []

abbrev pub refused_text : ℕ → List ℕ
refused_text n = refused_word ++ decimal_of n

abbrev pub placed_text : ℕ → ℕ → List ℕ
placed_text n p = refused_text n ++ (at_word ++ decimal_of p)
