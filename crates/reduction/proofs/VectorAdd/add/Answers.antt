-- `g + f` is their sum: values at most 2^61 have one that fits.
use Rattle.reduction.proofs.Moves.{sum_vect}
use Rattle.reduction.proofs.VectorAdd.add.Goals as goal

pub returns : goal.returns
returns c = sum_vect c.requires
