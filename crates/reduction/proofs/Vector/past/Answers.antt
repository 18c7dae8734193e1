-- `Vector::past` meets its contract: values at most 2^60 have a difference that fits.
use Rattle.reduction.proofs.Moves.{past_vect}
use Rattle.reduction.proofs.Vector.past.Goals as goal

pub returns-else-bit-eq0 : goal.returns-else-bit-eq0
returns-else-bit-eq0 c = past_vect c.requires c.if-bit-eq0.false
