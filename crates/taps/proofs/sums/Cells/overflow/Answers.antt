-- `taps::sums::Cells::overflow` meets its contract: parts of 32 bits are all that is left of the cells.
use Rattle.std.proofs.Common.{arith}
use Rattle.taps.proofs.Adding.{parts_over}
use Rattle.taps.proofs.sums.Cells.overflow.Goals as goal

pub returns : goal.returns
returns c =
    let s = c.args.self in
    omega (arith, parts_over s.q s.cells s.r s.r (omega arith))
