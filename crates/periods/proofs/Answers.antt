-- The table's answer is determined.
--
--   periods_unique   by its numbers
--   period_unique    and so by its case
use mathlib.Core.Path.{◌≡◌, refl, ap}
use Rattle.std.proofs.Common.{Result, Ok, Err}
use Prim.Native.Nat.{ℕ}
use native.Mathlib.Omega.{arith}
use Rattle.integers.proofs.Finite.{least_unique}
use Rattle.periods.specs.Answers.{Periods, entry, outside, number_of, period_of}
use Rattle.periods.specs.declared.Outside.{Outside}

pub periods_unique : {q m n t u : ℕ} → Periods q m t → Periods q n u → (m ≡ n) × (t ≡ u)
periods_unique (entry i a) (entry j b) = (refl, least_unique a b)
periods_unique (entry i a) (outside n) = absurd (n i)
periods_unique (outside n) (entry i a) = absurd (n i)
periods_unique (outside n) (outside k) = (refl, refl)

-- the cases of an answer differ in their numbers
pub period_unique : (q : ℕ) (r s : Result ℕ Outside) → Periods q (number_of r) (period_of r) → Periods q (number_of s) (period_of s) → r ≡ s
period_unique q (Ok t) (Ok u) a b = ap Ok (periods_unique a b).1
period_unique q (Ok t) (Err y) a b = absurd (omega (arith, (periods_unique a b).0))
period_unique q (Err x) (Ok u) a b = absurd (omega (arith, (periods_unique a b).0))
period_unique q (Err x) (Err y) a b = refl
