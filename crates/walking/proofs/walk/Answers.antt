-- `walking::walk` meets its contract: validity first, then the sum against the allowance.
use Rattle.std.proofs.Common.{subst, arith}
use Rattle.std.proofs.lemmas.Result.{err_from_is_err_and}
use Rattle.registers.specs.Registers.{Valid}
use Rattle.walking.specs.Walks.{walked, invalid, past}
use Rattle.walking.proofs.walk.Goals as goal

pub returns-in_err-try_from : goal.returns-in_err-try_from
returns-in_err-try_from c =
    let e = err_from_is_err_and c.from_residual.result c.from_residual.ensures.1 in
    rw (e.1, e.2) (invalid c.in_err-try_from.ensures)

pub returns-then-allowance-way : goal.returns-then-allowance-way
returns-then-allowance-way c =
    let g = c.in_ok-try_from.ensures in
    past _ _ (subst Valid g c.in_ok-try_from.field-0.valid) (rw g at c.way_of-way.ensures.1) (omega arith)

pub returns-else-allowance-way : goal.returns-else-allowance-way
returns-else-allowance-way c =
    let g = c.in_ok-try_from.ensures in
    walked (subst Valid g c.in_ok-try_from.field-0.valid) (rw g at c.way_of-way.ensures.1) c.way_of-way.ensures.0 (omega arith)
