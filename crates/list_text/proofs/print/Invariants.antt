-- `list_text::print` meets its contract: before the line of a meter the header and the lines of the meters below it are written.
use Rattle.list_text.proofs.Lining.{Lining}
use Rattle.list_text.proofs.print.Given as goal

abbrev pub invariant-loop-meter : goal.invariant-loop-meter
invariant-loop-meter l = Lining l.store l.meter l.out.bytes
