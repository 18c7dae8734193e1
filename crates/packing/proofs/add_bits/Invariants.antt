-- `packing::add_bits` meets its contract: each turn adds one byte of `more`, moved up by the bits that the byte it begins in already has.
use Rattle.packing.proofs.Appending.{Added}
use Rattle.packing.proofs.add_bits.Given as goal

abbrev pub invariant-loop-j : goal.invariant-loop-j
invariant-loop-j l = Added l.initial.bytes l.have l.more l.bytes l.j
