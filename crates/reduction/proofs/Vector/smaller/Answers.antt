-- `Vector::smaller` meets its contract: below 2^64 the order of sizes is the order of keys.
use borrow.Author.Rules.{rules}
use Rattle.reduction.proofs.Moves.{pick_first, pick_second}
use Rattle.reduction.proofs.Vector.smaller.Goals as goal

pub returns-then-ordered : goal.returns-then-ordered
returns-then-ordered c = search (rules, pick_first)

pub returns-else-ordered : goal.returns-else-ordered
returns-else-ordered c = search (rules, pick_second)
