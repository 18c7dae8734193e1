-- `g - f` is their difference: values at most 2^61 have one that fits.
use Rattle.reduction.proofs.Moves.{difference_vect}
use Rattle.reduction.proofs.VectorSub.sub.Goals as goal

pub returns : goal.returns
returns c = difference_vect c.requires
