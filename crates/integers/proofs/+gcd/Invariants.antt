-- `integers::gcd` ends: a remainder is smaller than its divisor, so the second argument falls.
use Rattle.integers.proofs.+gcd.Given as goal

abbrev pub decreases-gcd : goal.decreases-gcd
decreases-gcd l = l.b
