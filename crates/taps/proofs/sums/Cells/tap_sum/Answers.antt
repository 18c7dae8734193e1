-- `taps::sums::Cells::tap_sum` meets its contract: parts of one bit are the cells.
use Rattle.std.proofs.Common.{arith}
use Rattle.taps.proofs.Adding.{parts_taps, taps_le}
use Rattle.taps.proofs.sums.Cells.tap_sum.Goals as goal

pub returns : goal.returns
returns c =
    let s = c.args.self in
    omega (arith, parts_taps s.q s.cells s.r s.r, taps_le s.q s.cells s.r s.r)
