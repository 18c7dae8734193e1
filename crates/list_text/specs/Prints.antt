-- All that the listing program prints, in the words of the document's "Listing program". The line of one meter is `Lines` of the crate `listing`.
--
--   UpTo s k text       the lines of the meters 1 to k, one behind another: "prints, by rising meter number, each meter with bits"
--   Prints block text   "It reads a block on standard input into a fresh store and prints ..": the header and the lines of the 32 meters where the block is
--                       taken. "A refused block prints only "refused N at P"." "An empty block prints the header alone." (law `empty_prints` of `demands`)
-- The laws `prints_unique` and `prints_exists` say that a block has one listing.
use Rattle.std.specs.Prelude.{◌≡◌, List, [], ◌++◌, ℕ, zero, suc, Ok}
use Rattle.records.specs.Block.{meters}
use Rattle.places.specs.Places.{fresh}
use Rattle.store.specs.Taking.{take_of, number_of, place_of}
use Rattle.phrases.specs.Phrases.{placed_text}
use Rattle.listing.specs.Lines.{row, header_text, Lines}

pub data UpTo (s : List ℕ) : ℕ → List ℕ → Type 0 where
  none : UpTo s zero []
  more : {k : ℕ} {text line : List ℕ} → UpTo s k text → Lines s (suc k) line → UpTo s (suc k) (text ++ line)

pub data Prints (block : List ℕ) : List ℕ → Type 0 where
  taken : {lines : List ℕ} → (take_of fresh block).answer ≡ Ok tt → UpTo (take_of fresh block).store meters lines → Prints block (header_text ++ lines)
  refused : ((take_of fresh block).answer ≡ Ok tt → ⊥) → Prints block (row (placed_text (number_of (take_of fresh block).answer) (place_of (take_of fresh block).answer)) [])
