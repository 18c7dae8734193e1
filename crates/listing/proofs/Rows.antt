-- The pieces of a line are its fields, one space between.
--
--   rest_text   the four fields of a register and what follows them are what follows the count
use mathlib.Core.Path.{◌≡◌, sym, subst}
use mathlib.Core.List.{List, ◌++◌, append_assoc}
use Prim.Native.Nat.{ℕ}
use lib.IntN.{ℤ}
use Rattle.registers.specs.Answers.{Loads, loaded}
use Rattle.registers.specs.declared.Register.{Register}
use Rattle.listing.specs.Pieces.{registered, Way, way, Rest, rest}

q_of : {p : ℤ} {q : ℕ} {g : Register} → Loads p q 0 g → g.q ≡ q
q_of (loaded i l m) = l.q_is

pub rest_text : {p : ℤ} {q : ℕ} {g : Register} {t : List ℕ} → Loads p q 0 g → Way g t → Rest p q (registered p g.q g.memory ++ t)
rest_text {p} {q} {g} h (way {lead} {period} two) = rw (q_of h) (subst (Rest p q) (sym (simp append_assoc)) (rest h two))
