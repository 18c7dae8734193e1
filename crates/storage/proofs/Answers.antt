-- The answer: the contract determines it.
--
--   sheets_same    any two that meet the relation have the same numbers
--   sheet_unique   any two results that meet the contract of `sheet` are equal
--   sheet-cells    the cells of a sheet are those of q
use mathlib.Core.Path.{◌≡◌, refl, subst}
use Prim.Native.Nat.{ℕ}
use native.Mathlib.Omega.{arith}
use Rattle.std.specs.Prelude.{Result, Ok, Err}
use Rattle.registers.specs.declared.Invalid.{Invalid}
use Rattle.integers.proofs.Finite.{least_unique}
use Rattle.registers.specs.declared.Register.{Register}
use Rattle.registers.specs.Registers.{cell_count}
use Rattle.storage.specs.Storage.{Sheets, sheet, invalid, sheet_number, sheet_cells, sheet_bits}
use Rattle.storage.specs.declared.StorageSheet.{StorageSheet}

pub sheets_same : {g : Register} {m n a b c d : ℕ} → Sheets g m a b → Sheets g n c d → (m ≡ n) × (a ≡ c) × (b ≡ d)
sheets_same (sheet v a) (sheet w b) = (refl, refl, least_unique a b)
sheets_same (sheet v a) (invalid w) = absurd (w v)
sheets_same (invalid v) (sheet w b) = absurd (v w)
sheets_same (invalid v) (invalid w) = (refl, refl, refl)

pub sheet_unique : (g : Register) (r s : Result StorageSheet Invalid)
    → Sheets g (sheet_number r) (sheet_cells r) (sheet_bits r) → Sheets g (sheet_number s) (sheet_cells s) (sheet_bits s) → r ≡ s
sheet_unique g (Ok a) (Ok b) h k = let e = sheets_same h k in λ i. Ok (record { cells = e.1 i; memory_bits = e.2 i })
sheet_unique g (Ok a) (Err f) h k = absurd (omega (arith, (sheets_same h k).0))
sheet_unique g (Err e) (Ok b) h k = absurd (omega (arith, (sheets_same h k).0))
sheet_unique g (Err e) (Err f) h k = refl

cells_of : {g : Register} {cells bits : ℕ} → Sheets g 0 cells bits → cells ≡ cell_count g.q
cells_of (sheet v m) = refl

pub sheet-cells : {g : Register} {a : Result StorageSheet Invalid} {cells bits : ℕ}
    → Sheets g (sheet_number a) (sheet_cells a) (sheet_bits a) → a ≡ Ok (record { cells = cells; memory_bits = bits }) → cells ≡ cell_count g.q
sheet-cells {g} h e = cells_of (subst (λ (x : Result StorageSheet Invalid). Sheets g (sheet_number x) (sheet_cells x) (sheet_bits x)) e h)
