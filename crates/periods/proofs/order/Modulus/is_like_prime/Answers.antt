-- `periods::order::Modulus::is_like_prime` meets its contract: below 2 there is no exponent, and from 2 on the power is compared with 1.
use Rattle.periods.proofs.Totient.{decides_unit}
use Rattle.periods.proofs.order.Modulus.is_like_prime.Goals as goal

pub returns-then-self-gt1 : goal.returns-then-self-gt1
returns-then-self-gt1 c = decides_unit _ _ c.if-self-gt1.true c.power.ensures
