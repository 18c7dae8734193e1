-- `storage::sheet` meets its contract: the sheet of a register that is valid, and any other is refused.
use Rattle.std.proofs.Common.{subst}
use Rattle.std.proofs.lemmas.Result.{err_from_is_err_and}
use Rattle.storage.specs.Storage.{Sheets, sheet, invalid}
use Rattle.registers.specs.declared.Register.{Register}
use Rattle.storage.proofs.sheet.Goals as goal

pub returns-in_err-try_from : goal.returns-in_err-try_from
returns-in_err-try_from c =
    let e = err_from_is_err_and c.from_residual.result c.from_residual.ensures.1 in
    rw e.1 (invalid c.in_err-try_from.ensures)

pub returns : goal.returns
returns c =
    let is = c.in_ok-try_from.ensures in
    let v = c.in_ok-try_from.field-0 in
    let made : Sheets v.register 0 c.sheet_of.result.cells c.sheet_of.result.memory_bits = rw c.sheet_of.ensures.0 (sheet v.valid c.sheet_of.ensures.1) in
    subst (λ (g : Register). Sheets g 0 c.sheet_of.result.cells c.sheet_of.result.memory_bits) is made
