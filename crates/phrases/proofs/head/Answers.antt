-- `phrases::head` meets its contract: two fields, one behind the other.
use native.Mathlib.Omega.{arith}
use Rattle.std.proofs.Common.{append_assoc}
use Rattle.text.proofs.Digits.{decimal_is}
use Rattle.phrases.proofs.head.Goals as goal

pub returns-clause-text : goal.returns-clause-text
returns-clause-text g c = rw (c.field-2.ensures.text, c.field.ensures.text, decimal_is c.args.first (omega arith), decimal_is c.args.second (omega arith)) (simp append_assoc)
