-- Words that only the contracts of private functions cite: dividing a prime out of a number, and out of a multiple of the order.
--
--   Without m l r    r is m with l divided out as often as may be
--   Stuck T t p      p does not divide t, or t / p is no longer a multiple of T
--   Lowered c t l r  r is t with l divided out: still a multiple of the order of two mod c where t is, and l is stuck
use Rattle.std.specs.Prelude.{◌≡◌, ℕ, ◌*◌, ◌/◌, ◌%◌, ◌^◌, ◌≤◌}
use Rattle.periods.specs.Orders.{Order}

pub record Without (m l r : ℕ) : Type 0 where
  pub times : ℕ
  pub whole : m ≡ l ^ times * r
  pub none : r % l ≡ 0 → ⊥

abbrev pub Stuck : ℕ → ℕ → ℕ → Type 0
Stuck T t p = t % p ≡ 0 → (t / p) % T ≡ 0 → ⊥

pub record Lowered (c t l r : ℕ) : Type 0 where
  pub some : 1 ≤ r
  pub part : t % r ≡ 0
  pub keeps : (T : ℕ) → Order c T → t % T ≡ 0 → r % T ≡ 0
  pub stuck : (T : ℕ) → Order c T → Stuck T r l
