-- `registers::step` meets its contract: a valid register is advanced, and any other comes back as it was given.
use Rattle.std.proofs.Common.{subst}
use Rattle.registers.specs.Registers.{Valid}
use Rattle.registers.specs.Answers.{stepped, invalid}
use Rattle.registers.proofs.step.Goals as goal

pub returns-in-Ok : goal.returns-in-Ok
returns-in-Ok c = rw (c.advance.ensures, c.in-Ok.ensures) (stepped (subst Valid c.in-Ok.ensures c.in-Ok.v.valid))

pub returns-in-Err : goal.returns-in-Err
returns-in-Err c = invalid c.in-Err.ensures
