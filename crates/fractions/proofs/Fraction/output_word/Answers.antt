-- `fractions::Fraction::output_word` meets its contract: u = p times the inverse of q, modulo 2 ^ 64.
use Rattle.std.proofs.Common.{arith, rules}
use Rattle.fractions.specs.Answers.{word, outside}
use Rattle.fractions.specs.Inner.{Residue}
use Rattle.fractions.proofs.Words.{word_fits}
use Rattle.fractions.proofs.Fraction.output_word.Goals as goal

pub returns-then-is_inside : goal.returns-then-is_inside
returns-then-is_inside c = let r : Residue c.args.self.p c.residue.result = search rules in
    word c.if-is_inside.ensures (omega arith) (word_fits c.args.self.p c.args.self.q _ _ _ r (rw c.from.ensures at c.inverse.ensures) c.wrapping_mul.ensures)

pub returns-else-is_inside : goal.returns-else-is_inside
returns-else-is_inside c = outside c.if-is_inside.ensures
