-- `periods::order::Modulus::lowered` meets its contract: r stays a multiple of the order for as long as 2^r stays 1.
use Rattle.periods.proofs.Certificate.{Lowering}
use Rattle.periods.proofs.order.Modulus.lowered.Given as goal

abbrev pub invariant-loop-r : goal.invariant-loop-r
invariant-loop-r l = Lowering l.self.c l.t l.l l.r

abbrev pub decreases-loop-r : goal.decreases-loop-r
decreases-loop-r l = l.r
