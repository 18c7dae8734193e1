-- `integers::gcd` meets its contract: the common divisors of b and a % b are those of a and b.
use Rattle.integers.proofs.Coprime.{gcd_step}
use Rattle.integers.proofs.+gcd.Goals as goal

pub returns-else-b-eq0 : goal.returns-else-b-eq0
returns-else-b-eq0 t c = gcd_step c.args.a c.args.b c.gcd.result c.gcd.ensures
