-- `antennas::find` meets its contract: what is found in the rest of the block, with `left` still to count, is what is sought in the whole.
use Rattle.antennas.proofs.Seek.{Seeking}
use Rattle.antennas.proofs.find.Given as goal

abbrev pub invariant-loop-record : goal.invariant-loop-record
invariant-loop-record l = Seeking l.antenna l.block l.meter l.ordinal l.left l.record-iterator
