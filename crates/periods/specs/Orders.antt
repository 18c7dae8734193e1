-- The order of two modulo q: "the least T >= 1 with 2^T - 1 divisible by q".
--
--   UnitPower q t   t >= 1, and 2^t leaves the remainder of 1 on division by q: 2^t - 1 is divisible by q
--   Order q T       "the least T >= 1 with 2^T - 1 divisible by q"; for q = 1 both remainders are 0, and T is 1
-- The law `order_divides` says the rule with 2^T - 1 in place of the remainders; `order_exists` that every odd q has its T.
use Rattle.std.specs.Prelude.{◌≡◌, ℕ, ◌%◌, ◌^◌, ◌≤◌}
use Rattle.integers.specs.Numbers.{Least}

pub record UnitPower (q t : ℕ) : Type 0 where
  pub some : 1 ≤ t
  pub one : 2 ^ t % q ≡ 1 % q

abbrev pub Order : ℕ → ℕ → Type 0
Order q = Least (UnitPower q)
