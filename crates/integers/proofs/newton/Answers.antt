-- `integers::newton` meets its contract: Newton's step, with the remainders that the wrapping operations leave.
use Rattle.std.proofs.Common.{arith}
use Rattle.integers.proofs.Modulo.{newton_step}
use Rattle.integers.proofs.newton.Goals as goal

pub returns : goal.returns
returns c = λ K m k w i. newton_step 18446744073709551616 K m c.args.q c.args.x _ _ _ k w c.wrapping_mul.ensures (omega arith) c.wrapping_mul-2.ensures i
