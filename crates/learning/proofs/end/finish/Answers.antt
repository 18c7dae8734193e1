-- `learning::end::finish` meets its contract: p is positive where both signs fit, and else has the sign that makes q positive.
use Rattle.learning.proofs.Ends.{finished_whole, finished_turned, finished_kept}
use Rattle.learning.proofs.end.finish.Goals as goal
use Rattle.learning.proofs.end.finish.Goals.{then-unsigned_abs-n-eq0, else-unsigned_abs-n-eq0+then-g-lt0, else-unsigned_abs-n-eq0+else-g-lt0}

pub returns : goal.returns
returns c =
    let ea = c.unsigned_abs.ensures.value in
    let eb = c.unsigned_abs-2.ensures.value in
    elim c.if-unsigned_abs-n-eq0.branch [
      | then-unsigned_abs-n-eq0 w ↦ finished_whole c.requires ea eb w.if-unsigned_abs-n-eq0.true w.p-is w.abs-p.ensures.value
      | else-unsigned_abs-n-eq0+then-g-lt0 w ↦ finished_turned c.requires ea eb w.if-unsigned_abs-n-eq0.false w.if-g-lt0.true w.p-is
      | else-unsigned_abs-n-eq0+else-g-lt0 w ↦ finished_kept c.requires ea eb w.if-unsigned_abs-n-eq0.false w.if-g-lt0.false w.p-is
    ]
