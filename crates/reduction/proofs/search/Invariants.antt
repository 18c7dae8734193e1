-- `reduction::search` meets its contract: after i turns the state is reduced for the first i bits, and so its entries are at most 2^i.
use Rattle.reduction.specs.Reduced.{After}
use Rattle.reduction.proofs.search.Given as goal

abbrev pub invariant-loop-i : goal.invariant-loop-i
invariant-loop-i l = After l.bytes l.i l.x
