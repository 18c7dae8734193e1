-- `packing::bits_from` meets its contract: five bytes hold every window of at most 32 bits.
use mathlib.Core.Path.{◌∙◌}
use Rattle.packing.proofs.Five.{window_bytes}
use Rattle.packing.proofs.bits_from.Goals as goal

pub returns : goal.returns
returns c = c.low.ensures ∙ window_bytes c.args.bytes.now c.args.i c.args.m _ (λ i. (c.type_inv.bytes i).fits) c.requires.1 c.five_from-all.ensures.0
