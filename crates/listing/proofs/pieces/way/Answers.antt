-- `listing::pieces::way` meets its contract: the two fields that the walk's answer asks for.
use native.Mathlib.Omega.{arith}
use Rattle.std.proofs.Common.{append_assoc, rules, Fits, w32}
use Rattle.text.proofs.Digits.{decimal_is}
use Rattle.listing.specs.Lines.{walked, past}
use Rattle.listing.specs.Pieces.{way}
use Rattle.listing.proofs.pieces.way.Goals as goal

pub returns-in-Ok : goal.returns-in-Ok
returns-in-Ok c = (
  _,
  way (walked c.in-Ok.ensures),
  rw (
    c.push.ensures.ascii (omega arith),
    c.push_str.ensures.bytes,
    c.format.ensures.text,
    c.field.ensures.text,
    decimal_is c.in-Ok.walk.lead_in (let f : Fits w32 c.in-Ok.walk.lead_in = search rules in omega (arith, f.fits)),
    decimal_is c.in-Ok.walk.period (let f : Fits w32 c.in-Ok.walk.period = search rules in omega (arith, f.fits)),
  ) (simp append_assoc),
)

pub returns-in-Err-Past : goal.returns-in-Err-Past
returns-in-Err-Past c = (_, way (past (rw c.in-Err-Past.field-0-is at c.in-Err-Past.ensures)), c.push_str-in-Err-Past.ensures.bytes)
