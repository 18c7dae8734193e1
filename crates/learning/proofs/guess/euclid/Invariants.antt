-- `learning::guess::euclid` meets its contract: each turn keeps two vectors that span all pairs that fit the first 61 bits, and the remainder falls.
use mathlib.Core.Bool.{false}
use Rattle.learning.specs.Steps.{Traced}
use Rattle.learning.proofs.guess.euclid.Given as goal

abbrev pub invariant-loop-r1 : goal.invariant-loop-r1
invariant-loop-r1 l = Traced l.a l.r0 l.r1 l.t0 l.t1 false

abbrev pub decreases-loop-r1 : goal.decreases-loop-r1
decreases-loop-r1 l = l.r1
