-- `periods::order::Modulus::totient` meets its contract: what is divided out of c has its exponent, a part of n, and m is left to factor.
use native.Mathlib.Omega.{arith}
use native.Mathlib.Nat.{le_trans}
use Rattle.periods.proofs.Powers.{part_le}
use Rattle.periods.proofs.Factors.{without_some, without_less, without_nearer}
use Rattle.periods.proofs.Totient.{clean_last, dividing_start, dividing_next, dividing_clean, dividing_down, dividing_odd, dividing_end}
use Rattle.periods.proofs.order.Modulus.totient.Goals as goal

pub loop-l-init : goal.loop-l-init
loop-l-init c = (omega arith, dividing_start _ c.args.self.odd c.if-is_like_prime.ensures)

pub invariant_of-m : goal.invariant_of-m
invariant_of-m c =
    let w = c.loop-l.invariant.1 in
    let x = c.without.ensures in
    record { odd = dividing_odd _ _ _ _ _ w x; small = omega (arith, without_less _ _ _ w.some c.if-m-l-eq0.true x, c.loop-l.m.small) }

pub returns-then-is_like_prime-2 : goal.returns-then-is_like_prime-2
returns-then-is_like_prime-2 c =
    let w = c.loop-l.invariant.1 in
    let x = c.without.ensures in
    clean_last _ _ _ (dividing_clean _ _ _ _ _ w c.if-m-l-eq0.true x) (without_some _ _ _ w.some x) c.if-is_like_prime-2.ensures

pub loop-l-smaller-else-is_like_prime-2 : goal.loop-l-smaller-else-is_like_prime-2
loop-l-smaller-else-is_like_prime-2 c =
    let w = c.loop-l.invariant.1 in
    without_nearer _ _ _ (omega (arith, w.low)) c.loop-l-test.true c.if-m-l-eq0.true c.without.ensures

pub loop-l-preserved-else-is_like_prime-2 : goal.loop-l-preserved-else-is_like_prime-2
loop-l-preserved-else-is_like_prime-2 c =
    let w = c.loop-l.invariant in (
      le_trans (part_le _ _ _ (omega arith)) w.0,
      dividing_down _ _ _ _ _ w.1 c.if-m-l-eq0.true c.without.ensures c.if-is_like_prime-2.ensures,
    )

pub loop-l-preserved : goal.loop-l-preserved
loop-l-preserved c = let w = c.loop-l.invariant in (w.0, dividing_next _ _ _ _ w.1 c.if-m-l-eq0.false)

pub returns : goal.returns
returns c = dividing_end _ _ _ _ c.loop-l.invariant.1 c.loop-l-test.false
