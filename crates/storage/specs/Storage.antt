-- The storage sheet, in the words of the document and of change request [2], "The storage sheet is too narrow".
--
--   Between n z                  z is "between -2^(n-1) and 2^(n-1) - 1"
--   Both m k n                   "n >= 1 with both between": n signed bits hold m and k
--   MemoryBits g n               "the least signed width that holds both the memory of the register it is asked about and w - 1", w "the number of ones in q+1"
--   sheet_number .. sheet_bits     the number and the values of an answer
--   Sheets g number cells bits   the storage sheet: 0, or 5   ("Step and sheet: 5.")
use Rattle.std.specs.Prelude.{ℕ, ◌+◌, ◌-◌, ◌^◌, ◌≤◌, ℤ, pos, neg_ℤ, ◌-ℤ◌, ◌≤ℤ◌, Result}
use Rattle.std.specs.Int.Count.{ones}
use Rattle.integers.specs.Numbers.{Least}
use Rattle.registers.specs.Registers.{cell_count, Valid}
use Rattle.refusals.specs.Refusals.{number_of, field_of}
use Rattle.registers.specs.Answers.{invalid_number}
use Rattle.registers.specs.declared.Invalid.{Invalid}
use Rattle.registers.specs.declared.Register.{Register}
use Rattle.storage.specs.declared.StorageSheet.{StorageSheet}

pub record Between (n : ℕ) (z : ℤ) : Type 0 where
  pub low : neg_ℤ (pos (2 ^ (n - 1))) ≤ℤ z
  pub high : z ≤ℤ (pos (2 ^ (n - 1)) -ℤ pos 1)

pub record Both (m : ℤ) (k : ℕ) (n : ℕ) : Type 0 where
  pub some : 1 ≤ n
  pub first : Between n m
  pub second : Between n (pos k)

abbrev pub MemoryBits : Register → ℕ → Type 0
MemoryBits g n = Least (Both g.memory (ones (g.q + 1) - 1)) n

abbrev pub sheet_number : Result StorageSheet Invalid → ℕ
sheet_number r = number_of invalid_number r

abbrev pub sheet_cells : Result StorageSheet Invalid → ℕ
sheet_cells r = field_of 0 (λ (s : StorageSheet). s.cells) r

abbrev pub sheet_bits : Result StorageSheet Invalid → ℕ
sheet_bits r = field_of 0 (λ (s : StorageSheet). s.memory_bits) r

-- "Cells: r." and the width of the memory
pub data Sheets (g : Register) : ℕ → ℕ → ℕ → Type 0 where
  sheet : {bits : ℕ} → Valid g → MemoryBits g bits → Sheets g 0 (cell_count g.q) bits
  invalid : (Valid g → ⊥) → Sheets g 5 0 0
