-- Whitening, in the words of the document's "Whitening".
--
--   white_of g xs    the bytes xs after: "each byte is combined by exclusive or with the next eight emitted bits, first bit lowest"
--   most            "up to 512 lent bytes"
--   refusal_number e   the number of each reason for no; number_of r, of an answer: 0 where it is none
--   Whitens g xs number register bytes
--                   what whitening xs from g answers, and the register and the bytes afterwards: 0, 5, or 9 ("Whiten: 5, 9.").
--                   "The caller's register is left stepped eight times for each byte." "A refusal returns its number and changes
--                   nothing lent .. a register taken by value comes back as it was given."
use Rattle.std.specs.Prelude.{ℕ, ◌*◌, ◌≤◌, ◌<◌, List, [], ◌∷◌, length, Result}
use Rattle.std.specs.Int.Bits.{bit_xor}
use Rattle.refusals.specs.Refusals as refusals
use Rattle.registers.specs.Registers.{Valid, iter_of, out_to}
use Rattle.registers.specs.declared.Register.{Register}
use Rattle.whitening.specs.declared.Refusal.{Refusal}
use Rattle.whitening.specs.declared.Refusal.TheVariants.{Invalid, TooLong}

unfoldable pub white_of : Register → List ℕ → List ℕ
white_of g [] = []
white_of g (x ∷ xs) = bit_xor x (out_to 8 g) ∷ white_of (iter_of 8 g) xs

abbrev pub most : ℕ
most = 512

abbrev pub refusal_number : Refusal → ℕ
refusal_number Invalid = 5
refusal_number TooLong = 9

abbrev pub number_of : {T : Type 0} → Result T Refusal → ℕ
number_of r = refusals.number_of refusal_number r

pub data Whitens (g : Register) (xs : List ℕ) : ℕ → Register → List ℕ → Type 0 where
  whitened : Valid g → length xs ≤ most → Whitens g xs 0 (iter_of (8 * length xs) g) (white_of g xs)
  -- "register not valid"
  invalid : (Valid g → ⊥) → Whitens g xs 5 g xs
  -- "more than 512 bytes to whiten"
  long : Valid g → most < length xs → Whitens g xs 9 g xs
