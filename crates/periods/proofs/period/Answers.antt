-- `periods::period` meets its contract: the least-exponent rule is computed once over all entries of the source's own constant, and carried to the entry read.
use Rattle.std.proofs.Common.{◌≡◌, ℕ, ◌/◌, ◌%◌, ◌≤◌, ◌<◌, true, List, length, get_or, refl, sym, subst, arith}
use Rattle.periods.specs.declared.table.TheConstants.{PERIODS}
use Rattle.periods.specs.Answers.{Periods, outside}
use Rattle.periods.proofs.Entries.{every, right, entry_period}
use Rattle.periods.proofs.period.Goals as goal

-- what is read from a table that the rule has been computed over
read : (xs : List ℕ) (x q : ℕ) → x ≡ get_or xs (q / 2) 0 → every right 0 xs ≡ true → q % 2 ≡ 1 → q ≤ 1023 → q / 2 < length xs → Periods q 0 x
read xs x q e t o m l = subst (λ y. Periods q 0 y) (sym e) (entry_period xs q t o m l)

pub returns-then-q-eq0 : goal.returns-then-q-eq0
returns-then-q-eq0 c = outside (λ i. omega (arith, c.then-q-eq0.either, i.odd, i.most))

pub returns : goal.returns
returns c = read PERIODS c.from.result c.args.q c.from.ensures refl (omega arith) (omega arith) (omega arith)
