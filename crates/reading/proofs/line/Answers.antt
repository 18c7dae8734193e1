-- `reading::line` meets its contract: one line for each case of the twin's answer, with the numbers of that case.
use native.Mathlib.Omega.{arith}
use mathlib.Core.Path.{refl}
use Rattle.reading.specs.Line.{told}
use Rattle.reading.proofs.Answers.{found_fits, tells_malformed, tells_refused}
use Rattle.reading.proofs.line.Goals as goal

pub overflow_cast-seen : goal.overflow_cast-seen
overflow_cast-seen c = let f = found_fits c.in-Ok.ensures c.read_part-part.ensures.part refl in record { fits = omega (arith, f.0) }

pub hex-requires : goal.hex-requires
hex-requires c = let f = found_fits c.in-Ok.ensures c.read_part-part.ensures.part refl in omega (arith, rw c.new-out.ensures at c.head.ensures.short, f.0, f.1)

pub returns-in-Ok : goal.returns-in-Ok
returns-in-Ok c = rw (c.hex.ensures, c.head.ensures.text, c.new-out.ensures, c.from.ensures) (told c.in-Ok.ensures c.read_part-part.ensures.part)

pub returns-in-Malformed : goal.returns-in-Malformed
returns-in-Malformed c = rw (c.placed.ensures.text, c.new-out.ensures, c.number.ensures, c.place.ensures)
    (tells_malformed _ _ _ _ c.read_about-about.ensures c.read_part-part.ensures.part c.in-Err.is c.in-Malformed.is)

pub returns-in-BadMeter : goal.returns-in-BadMeter
returns-in-BadMeter c = rw (c.refused.ensures.text, c.new-out.ensures) (tells_refused _ _ _ _ c.read_about-about.ensures c.read_part-part.ensures.part c.in-Err.is c.in-BadMeter.is c.number-in-BadMeter.ensures)
