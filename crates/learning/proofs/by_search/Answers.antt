-- `learning::by_search` meets its contract: g is the least pair with q odd that fits, so it is the answer, or none is inside the limits.
use native.Mathlib.Omega.{arith}
use lib.Pow.{pow_mono}
use Rattle.reduction.proofs.States.{at_small, within_le}
use Rattle.learning.proofs.Ends.{searched}
use Rattle.learning.proofs.by_search.Goals as goal

pub finish-requires : goal.finish-requires
finish-requires c = (c.requires, within_le (pow_mono {i = c.args.n} {j = 61} (omega arith)) (at_small c.args.bytes.now c.args.n (omega arith) c.search-x.ensures).in_g)

pub returns : goal.returns
returns c = searched c.args.bytes.now c.args.n c.search-x.ensures c.finish.ensures c.inside.result c.inside.ensures
