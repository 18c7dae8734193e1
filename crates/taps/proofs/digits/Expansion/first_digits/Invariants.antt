-- `taps::digits::Expansion::first_digits` meets its contract: after i turns the digits are the first i, and what is left is the numerator after them.
use Rattle.std.proofs.Common.{◌≡◌}
use Rattle.fractions.specs.Expansion.{iter_num, digits_to}
use Rattle.taps.proofs.digits.Expansion.first_digits.Given as goal

abbrev pub invariant-loop-i : goal.invariant-loop-i
invariant-loop-i l = (l.self.q ≡ l.initial.self.q) × (l.bits ≡ digits_to l.initial.self.q l.i l.initial.self.p) × (l.self.p ≡ iter_num l.initial.self.q l.i l.initial.self.p)
