-- `periods::order::Modulus::totient` meets its contract: what is divided out of c has its exponent, a part of n, and m is left to factor.
use Prim.Native.Nat.{◌-◌, ◌≤◌}
use Rattle.periods.proofs.Totient.{Dividing}
use Rattle.periods.proofs.order.Modulus.totient.Given as goal

abbrev pub invariant-loop-l : goal.invariant-loop-l
invariant-loop-l l = (l.n ≤ l.fn.self.c) × Dividing l.fn.self.c l.m.c l.n l.l

abbrev pub decreases-loop-l : goal.decreases-loop-l
decreases-loop-l l = l.m.c - l.l
