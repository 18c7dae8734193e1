-- `phrases::refused` meets its contract: the word, then the number.
use native.Mathlib.Omega.{arith}
use Rattle.std.proofs.Common.{append_assoc}
use Rattle.text.proofs.Digits.{decimal_is}
use Rattle.phrases.proofs.refused.Goals as goal

pub returns-clause-text : goal.returns-clause-text
returns-clause-text g c = rw (c.push_str-2.ensures.bytes, c.push_str.ensures.bytes, c.format.ensures.text, decimal_is c.args.number (omega arith)) (simp append_assoc)
