-- `learning::guess::first61` meets its contract: 32 bits, then 29 more.
use Rattle.learning.proofs.Tails.{first_61}
use Rattle.learning.proofs.guess.first61.Goals as goal

pub returns : goal.returns
returns c = first_61 c.args.bytes.now (λ i. (c.type_inv.bytes i).fits) c.bits_from-low.ensures c.bits_from-high.ensures
