-- `whitening::register_after` meets its contract: validity is tested before the length, and each of the three answers is one case of it.
use Rattle.std.proofs.Common.{subst, arith}
use Rattle.std.proofs.lemmas.Result.{err_from_is_err_and}
use Rattle.registers.specs.Registers.{Valid}
use Rattle.whitening.specs.Whitening.{whitened, invalid, long}
use Rattle.whitening.proofs.register_after.Goals as goal

pub returns-in_err-valid : goal.returns-in_err-valid
returns-in_err-valid c =
    let e = err_from_is_err_and c.from_residual.result c.from_residual.ensures.1 in
    rw (e.1, e.2) (invalid c.in_err-valid.ensures)

pub returns-then-bytes-gt-MOST : goal.returns-then-bytes-gt-MOST
returns-then-bytes-gt-MOST c = long (subst Valid c.in_ok-valid.ensures c.in_ok-valid.valid.valid) (omega arith)

pub returns : goal.returns
returns c =
    let g = c.in_ok-valid.ensures in
    rw (c.whiten_valid.ensures.0, c.whiten_valid.ensures.1, g) (whitened (subst Valid g c.in_ok-valid.valid.valid) (omega arith))
