-- `list_text::print` meets its contract: the block is refused, or the header and the lines of all meters are written.
use native.Mathlib.Omega.{arith}
use Rattle.list_text.proofs.Lining.{lining_none, lining_more, lining_done}
use Rattle.list_text.proofs.Printing.{print_refused, print_taken}
use Rattle.list_text.proofs.print.Goals as goal

pub returns-in-Err : goal.returns-in-Err
returns-in-Err c = rw (c.push_str.ensures.bytes, c.new-out.ensures, c.deref.ensures.0, c.refused.ensures)
    (print_refused c.take.ensures.0 c.in-Err.is c.number.ensures c.place.ensures)

pub loop-meter-init : goal.loop-meter-init
loop-meter-init c = rw (c.push_str-2.ensures.bytes, c.new-out.ensures, c.header.ensures) (lining_none _)

pub loop-meter-preserved : goal.loop-meter-preserved
loop-meter-preserved c = rw (c.push_str-in-loop-meter.ensures.bytes, c.deref-in-loop-meter.ensures.0) (lining_more c.loop-meter.invariant c.line.ensures (rw c.deref-in-loop-meter.ensures.0 at c.deref-in-loop-meter.ensures.1))

pub returns : goal.returns
returns c = let l = c.loop-meter.invariant in rw l.out_is (print_taken c.take.ensures.0 c.in_default.is c.take.ensures.1 (lining_done l (omega (arith, c.loop-meter.auto.meter-end, c.loop-meter-test.false))))
