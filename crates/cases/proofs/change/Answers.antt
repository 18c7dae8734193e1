-- `cases::change` meets its contract: what was put at the start of the part was put into the whole.
use Rattle.std.proofs.Common.{arith}
use Rattle.cases.proofs.Puts.{put_part}
use Rattle.cases.proofs.change.Goals as goal

pub returns : goal.returns
returns c = put_part _ _ (omega (arith, c.within-at.ensures.0)) c.bytes-count.ensures.put
