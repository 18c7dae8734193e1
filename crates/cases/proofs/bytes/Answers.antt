-- `cases::bytes` meets its contract: what was put into the front was put into the whole.
use Rattle.std.proofs.Common.{arith}
use Rattle.std.proofs.lemmas.Grind.{common_steps}
use Rattle.cases.proofs.Puts.{put_part}
use Rattle.cases.proofs.bytes.Goals as goal

pub returns-then-read_full-eq0-clause-put : goal.returns-then-read_full-eq0-clause-put
returns-then-read_full-eq0-clause-put c = grind (arith, common_steps, put_part 0 c.within-n.result (omega (arith, c.within-n.ensures.0)) c.loop-i.invariant)
