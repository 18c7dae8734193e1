-- What reading a case can promise: where in lent bytes something was put. What was read, nobody can promise.
--
--   Put old at count new   something was put over `count` bytes from `at` on: they are there, and every other byte is as it was
use Rattle.std.specs.Prelude.{◌≡◌, List, ℕ, ◌+◌, ◌≤◌, length, take, drop}

pub record Put (old : List ℕ) (at count : ℕ) (new : List ℕ) : Type 0 where
  pub there : at + count ≤ length old
  pub size : length new ≡ length old
  pub before : take at new ≡ take at old
  pub behind : drop (at + count) new ≡ drop (at + count) old
