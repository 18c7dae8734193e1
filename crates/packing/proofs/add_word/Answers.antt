-- `packing::add_word` meets its contract: the low byte is added at i, and the high byte, where there is one, at i + 1.
use Rattle.std.proofs.Common.{arith}
use Rattle.packing.proofs.Appending.{word_one, word_two}
use Rattle.packing.proofs.add_word.Goals as goal

pub returns-then-high-ne0 : goal.returns-then-high-ne0
returns-then-high-ne0 c = word_two _ c.args.i _ _ c.args.w (c.requires.next (omega (arith, c.if-high-ne0.true))) (omega arith)

pub returns-else-high-ne0 : goal.returns-else-high-ne0
returns-else-high-ne0 c = word_one _ c.args.i _ c.args.w c.requires.inside (omega arith)
