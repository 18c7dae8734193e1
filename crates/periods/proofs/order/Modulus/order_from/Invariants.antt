-- `periods::order::Modulus::order_from` meets its contract: each prime is stuck, or still divides m, which comes down to 1 or a prime.
use Prim.Native.Nat.{◌-◌, ◌≤◌}
use Rattle.periods.proofs.Certificate.{Search}
use Rattle.periods.proofs.order.Modulus.order_from.Given as goal

abbrev pub invariant-loop-l : goal.invariant-loop-l
invariant-loop-l l = (l.m ≤ l.n) × Search l.self.c l.t l.m l.l

abbrev pub decreases-loop-l : goal.decreases-loop-l
decreases-loop-l l = l.m - l.l
