-- `learning::learn` meets its contract: the refusals 1 and 2 by their tests, the rest by the two ways to decide.
use native.Mathlib.Omega.{arith}
use Rattle.learning.specs.Learning.{Enough, too_large, too_few}
use Rattle.learning.proofs.Laws.{learned}
use Rattle.learning.proofs.learn.Goals as goal
use Rattle.learning.proofs.learn.Goals.{then-n-lt-DECIDED, else-n-lt-DECIDED}

pub returns-then-count-gt-LONGEST : goal.returns-then-count-gt-LONGEST
returns-then-count-gt-LONGEST c = too_large (omega arith)

pub returns-then-bytes-div_ceil : goal.returns-then-bytes-div_ceil
returns-then-bytes-div_ceil c = too_few (omega arith) (omega (arith, c.div_ceil.ensures))

pub returns : goal.returns
returns c =
    let e : Enough c.args.bytes.now c.args.count = record { few = omega arith; there = omega (arith, c.div_ceil.ensures) } in
    elim c.if-n-lt-DECIDED.branch [
      | then-n-lt-DECIDED w ↦ learned c.args.bytes.now c.args.count e w.by_search-found.ensures w.found-is c.ok_or.ensures.value
      | else-n-lt-DECIDED w ↦ learned c.args.bytes.now c.args.count e w.by_guess-found.ensures w.found-is c.ok_or.ensures.value
    ]
