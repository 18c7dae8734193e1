-- `phrases::placed` meets its contract: the refusal without its place, the word, then the place.
use native.Mathlib.Omega.{arith}
use Rattle.std.proofs.Common.{append_assoc}
use Rattle.text.proofs.Digits.{decimal_is}
use Rattle.phrases.proofs.placed.Goals as goal

pub returns-clause-text : goal.returns-clause-text
returns-clause-text g c = rw (c.push_str-2.ensures.bytes, c.push_str.ensures.bytes, c.refused.ensures.text, c.format.ensures.text, decimal_is c.args.place (omega arith)) (simp append_assoc)
