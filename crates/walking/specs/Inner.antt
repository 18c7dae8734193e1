-- Words of private functions; no public contract cites them. A numerator p walks by p to (p - digit·q)/2.
--
--   dist q p     how far p stands outside -q .. 0
--   nearer q d   the distance one step later: d/2 where d is even, else (d - q)/2, and 0 where q is more than d
--   Enters q p n n is the first step inside
use Rattle.std.specs.Prelude.{◌≡◌, ℕ, suc, ◌-◌, ◌*◌, ◌/◌, ◌%◌, ℤ, pos, negsuc}
use Rattle.integers.specs.Numbers.{Least}
use Rattle.fractions.specs.Expansion.{iter_num}

abbrev pub dist : ℕ → ℤ → ℕ
dist q (pos n) = n
dist q (negsuc n) = suc n - q

abbrev pub nearer : ℕ → ℕ → ℕ
nearer q d = (d - d % 2 * q) / 2

abbrev pub Enters : ℕ → ℤ → ℕ → Type 0
Enters q p = Least (λ n. dist q (iter_num q n p) ≡ 0)
