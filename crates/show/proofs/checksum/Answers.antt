-- `show::checksum` meets its contract: the sum so far, gone on with the bytes that are left, is the sum of all.
use Rattle.std.proofs.Common.{arith}
use Rattle.show.proofs.Checksums.{sum_turn, sum_end}
use Rattle.show.proofs.checksum.Goals as goal

pub loop-b-preserved : goal.loop-b-preserved
loop-b-preserved c = grind (arith, sum_turn)

pub returns : goal.returns
returns c = grind (arith, sum_end)
