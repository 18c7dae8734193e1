-- `learning::guess::euclid` meets its contract: each half of a turn keeps two vectors that span all pairs that fit the first 61 bits, and the remainders fall.
use native.Mathlib.Omega.{arith}
use Rattle.learning.proofs.Guesses.{traced_start, traced_step, traced_room, guessed_minus}
use Rattle.learning.proofs.guess.euclid.Goals as goal

pub loop-r1-init : goal.loop-r1-init
loop-r1-init c = traced_start c.args.a

pub returns-then-r0-le-LIMIT : goal.returns-then-r0-le-LIMIT
returns-then-r0-le-LIMIT c = guessed_minus (traced_step c.loop-r1.invariant (omega arith)) c.if-r0-le-LIMIT.true

pub overflow_mul-t1 : goal.overflow_mul-t1
overflow_mul-t1 c = omega (arith, traced_room (traced_step c.loop-r1.invariant (omega arith)) (omega arith))

pub overflow_add-t1 : goal.overflow_add-t1
overflow_add-t1 c = omega (arith, traced_room (traced_step c.loop-r1.invariant (omega arith)) (omega arith))

pub loop-r1-preserved : goal.loop-r1-preserved
loop-r1-preserved c = traced_step (traced_step c.loop-r1.invariant (omega arith)) (omega arith)
