-- `listing::pieces::registered` meets its contract: four fields, one behind another.
use native.Mathlib.Omega.{arith}
use Rattle.std.proofs.Common.{append_assoc}
use Rattle.text.proofs.Digits.{decimal_is, signed_32_is, fits_32}
use Rattle.listing.proofs.pieces.registered.Goals as goal

pub returns-clause-text : goal.returns-clause-text
returns-clause-text c =
    let g = c.args.v.register in
    let v = c.args.v.valid in
    rw (
      c.field-4.ensures.text,
      c.field-3.ensures.text,
      c.field-2.ensures.text,
      c.field.ensures.text,
      decimal_is c.sheet_of.result.cells (omega arith),
      c.sheet_of.ensures.0,
      signed_32_is c.args.p c.ranges.p,
      decimal_is g.q (omega (arith, v.q_most)),
      signed_32_is g.memory (fits_32 g.memory (omega (arith, v.memory))),
    ) (simp append_assoc)
