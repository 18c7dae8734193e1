-- `learning::tail::fits` meets its contract: the pair fits the i bits that were passed, with the rest at hand, and where 2^m does not divide it fits no more.
use Prim.Native.Nat.{◌≤◌}
use Rattle.learning.specs.Steps.{Carried}
use Rattle.learning.proofs.tail.fits.Given as goal

abbrev pub invariant-loop-i : goal.invariant-loop-i
invariant-loop-i l = (l.i ≤ l.n) × Carried l.bytes l.i l.fn.x.p l.fn.x.q l.rest
