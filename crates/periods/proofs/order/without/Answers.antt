-- `periods::order::without` meets its contract: r is m with some factors l divided out, and is divided again for as long as l divides it.
use Rattle.periods.proofs.Factors.{parted_step}
use Rattle.periods.proofs.order.without.Goals as goal

pub loop-r-preserved : goal.loop-r-preserved
loop-r-preserved c = parted_step _ _ _ c.loop-r.invariant c.loop-r-test.true
