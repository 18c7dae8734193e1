-- `taps::sums::cell_count` meets its contract: the highest digit of a number that is not 0 is the only power of two up to it whose double is above it.
use Rattle.std.proofs.Common.{◌+◌, arith}
use Rattle.taps.proofs.Counting.{log2_is}
use Rattle.taps.proofs.sums.cell_count.Goals as goal

pub returns : goal.returns
returns c = log2_is (c.args.q + 1) c.ilog2.result (omega arith) c.ilog2.ensures.power_le c.ilog2.ensures.next_power_gt
