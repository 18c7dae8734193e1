-- `cases::bytes` meets its contract: a byte is put behind those before it, and no other is touched.
use Rattle.cases.specs.Cases.{Put}
use Rattle.cases.proofs.bytes.Given as goal

abbrev pub invariant-loop-i : goal.invariant-loop-i
invariant-loop-i l = Put l.initial.slot-items 0 l.i l.slot-items
