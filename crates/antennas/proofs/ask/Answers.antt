-- `antennas::ask` meets its contract: the tests are the request's, in its order, and the search answers the rest.
use mathlib.Core.Logic.{inr}
use native.Mathlib.Omega.{arith}
use Rattle.antennas.specs.Antennas.{bad_meter, no_record}
use Rattle.antennas.proofs.Given.{asked_sought}
use Rattle.antennas.proofs.ask.Goals as goal

pub returns-then-not-contains : goal.returns-then-not-contains
returns-then-not-contains c = bad_meter (λ m. grind (arith, m, c.if-not-contains.true))

pub returns-then-ordinal-eq0 : goal.returns-then-ordinal-eq0
returns-then-ordinal-eq0 c = no_record (grind arith) (inr c.if-ordinal-eq0.true)

pub returns : goal.returns
returns c = asked_sought _ _ _ _ _ (grind arith) c.find.ensures
