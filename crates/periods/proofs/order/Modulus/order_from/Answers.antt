-- `periods::order::Modulus::order_from` meets its contract: each prime is stuck, or still divides m, which comes down to 1 or a prime.
use native.Mathlib.Omega.{arith}
use Rattle.periods.proofs.Factors.{without_less, without_nearer}
use Rattle.periods.proofs.Certificate.{search_start, search_next, search_lower, search_one, search_last}
use Rattle.periods.proofs.order.Modulus.order_from.Goals as goal

pub loop-l-init : goal.loop-l-init
loop-l-init c = (omega arith, search_start _ _ c.args.self.odd c.requires)

pub loop-l-smaller-then-m-l-eq0 : goal.loop-l-smaller-then-m-l-eq0
loop-l-smaller-then-m-l-eq0 c =
    let w = c.loop-l.invariant.1 in
    without_nearer _ _ _ w.low c.loop-l-test.true c.if-m-l-eq0.true c.without-m.ensures

pub loop-l-preserved-then-m-l-eq0 : goal.loop-l-preserved-then-m-l-eq0
loop-l-preserved-then-m-l-eq0 c =
    let w = c.loop-l.invariant in
    let d = c.if-m-l-eq0.true in
    let x = c.without-m.ensures in (
      omega (arith, w.0, without_less _ _ _ w.1.left d x),
      search_lower _ _ _ _ _ _ w.1 d c.lowered-t.ensures x,
    )

pub loop-l-preserved : goal.loop-l-preserved
loop-l-preserved c = let w = c.loop-l.invariant in (w.0, search_next _ _ _ _ w.1 c.if-m-l-eq0.false)

pub returns-then-m-gt1 : goal.returns-then-m-gt1
returns-then-m-gt1 c =
    let w = c.loop-l.invariant.1 in
    search_last _ _ _ _ _ w c.if-m-gt1.true c.loop-l-test.false c.lowered.ensures

pub returns-else-m-gt1 : goal.returns-else-m-gt1
returns-else-m-gt1 c = search_one _ _ _ _ c.loop-l.invariant.1 c.if-m-gt1.false
