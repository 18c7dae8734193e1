-- `learning::tail::fits` meets its contract: the pair fits the i bits that were passed, with the rest at hand, and where 2^m does not divide it fits no more.
use Prim.Native.Nat.{ℕ}
use mathlib.Core.Path.{subst}
use native.Mathlib.Omega.{arith}
use Rattle.bits.specs.Bits.{value}
use Rattle.fractions.specs.Pairs.{Fits}
use Rattle.learning.proofs.Tails.{carried_all, carried_start, product_fits, difference_fits, carried_step, carried_stop}
use Rattle.learning.proofs.tail.fits.Goals as goal

pub loop-i-init : goal.loop-i-init
loop-i-init c = (omega arith, carried_start c.requires.1 c.from-rest.ensures)

pub overflow_mul-d : goal.overflow_mul-d
overflow_mul-d c = product_fits (λ i. (c.type_inv.bytes i).fits) c.loop-i.invariant.1 c.loop-i-test.true c.requires.1 c.min-m.ensures c.bits_from.ensures c.from-q.ensures

pub overflow_sub-d : goal.overflow_sub-d
overflow_sub-d c = difference_fits (λ i. (c.type_inv.bytes i).fits) c.loop-i.invariant.1 c.loop-i-test.true c.requires.1 c.min-m.ensures c.bits_from.ensures c.from-q.ensures

pub returns-then-unsigned_abs-m-ne0 : goal.returns-then-unsigned_abs-m-ne0
returns-then-unsigned_abs-m-ne0 c =
    carried_stop (λ i. (c.type_inv.bytes i).fits) c.loop-i.invariant.1 c.loop-i-test.true c.requires.1 c.min-m.ensures c.bits_from.ensures c.from-q.ensures
    c.unsigned_abs.ensures.value c.if-unsigned_abs-m-ne0.true

pub loop-i-preserved : goal.loop-i-preserved
loop-i-preserved c = (
  omega arith,
  carried_step (λ i. (c.type_inv.bytes i).fits) c.loop-i.invariant.1 c.loop-i-test.true c.requires.1 c.min-m.ensures c.bits_from.ensures c.from-q.ensures
      c.unsigned_abs.ensures.value c.if-unsigned_abs-m-ne0.false (omega arith),
)

pub returns : goal.returns
returns c = subst (λ (i : ℕ). Fits i (value c.args.bytes.now i) c.args.x.p c.args.x.q) (omega arith) (carried_all c.loop-i.invariant.1)

pub returns-else-unsigned_abs-m-ne0 : goal.returns-else-unsigned_abs-m-ne0
returns-else-unsigned_abs-m-ne0 c = carried_all
    (carried_step (λ i. (c.type_inv.bytes i).fits) c.loop-i.invariant.1 c.loop-i-test.true c.requires.1 c.min-m.ensures c.bits_from.ensures c.from-q.ensures
    c.unsigned_abs.ensures.value c.if-unsigned_abs-m-ne0.false {j = c.args.n} (omega arith))
