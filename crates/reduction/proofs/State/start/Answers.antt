-- `State::start` meets its contract: of all pairs with q odd (0, 1) is least, and of those with q even and rest odd (1, 0).
use Rattle.reduction.specs.Reduced.{big}
use Rattle.reduction.proofs.Basis.{start_reduced}
use Rattle.reduction.proofs.State.start.Goals as goal

pub returns : goal.returns
returns c = start_reduced big
