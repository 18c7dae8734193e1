-- `periods::order::Modulus::lowered` meets its contract: r stays a multiple of the order for as long as 2^r stays 1.
use mathlib.Core.Path.{sym, ◌∙◌}
use Rattle.periods.proofs.Certificate.{lowering_step, lowered_stuck}
use Rattle.periods.proofs.order.Modulus.lowered.Goals as goal

pub returns-then-power-one : goal.returns-then-power-one
returns-then-power-one c = lowered_stuck _ _ _ _ c.loop-r.invariant (λ e. c.if-power-one.true (c.power.ensures ∙ e))

pub loop-r-preserved : goal.loop-r-preserved
loop-r-preserved c = lowering_step _ _ _ _ c.loop-r.invariant c.loop-r-test.true (sym c.power.ensures ∙ c.if-power-one.false)
