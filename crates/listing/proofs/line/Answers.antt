-- `listing::line` meets its contract: the line that learning's answer asks for.
use mathlib.Core.Path.{ap, ◌∙◌}
use Rattle.std.specs.Prelude.{Err}
use Rattle.listing.proofs.Meters.{line_empty, line_damaged, line_unknown, line_fraction, line_none}
use Rattle.listing.proofs.line.Goals as goal

pub returns-then-count-ne0 : goal.returns-then-count-ne0
returns-then-count-ne0 c = rw (c.rest.ensures.2, c.head.ensures.text, c.new-out.ensures)
    (line_fraction c.bit_count-count.ensures c.if-count-ne0.true c.in-Ok.ensures c.rest.ensures.1)

pub returns-else-count-ne0 : goal.returns-else-count-ne0
returns-else-count-ne0 c = rw c.new-out.ensures (line_empty c.bit_count-count.ensures c.if-count-ne0.false)

pub returns-in-Err-NoneInside : goal.returns-in-Err-NoneInside
returns-in-Err-NoneInside c = rw (c.push_str.ensures.bytes, c.head-in-Err-NoneInside.ensures.text, c.new-out.ensures)
    (line_none c.bit_count.ensures (rw c.in-Err-NoneInside.field-0-is at c.in-Err-NoneInside.ensures))

pub returns-in-Err-NotAStore : goal.returns-in-Err-NotAStore
returns-in-Err-NotAStore c = rw c.new-out.ensures (line_damaged c.learn_meter.ensures (c.in-Err-NotAStore.is ∙ ap Err c.in-Err-NotAStore.field-0-is))

pub returns-in-Err-BadMeter : goal.returns-in-Err-BadMeter
returns-in-Err-BadMeter c = rw c.new-out.ensures (line_unknown c.learn_meter.ensures (c.in-Err-BadMeter.is ∙ ap Err c.in-Err-BadMeter.field-0-is))
