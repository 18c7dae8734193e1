-- `periods::order::without` meets its contract: r is m with some factors l divided out, and is divided again for as long as l divides it.
use Rattle.periods.proofs.Factors.{Parted}
use Rattle.periods.proofs.order.without.Given as goal

abbrev pub invariant-loop-r : goal.invariant-loop-r
invariant-loop-r l = Parted l.m l.l l.r

abbrev pub decreases-loop-r : goal.decreases-loop-r
decreases-loop-r l = l.r
