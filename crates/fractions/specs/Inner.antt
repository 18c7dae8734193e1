-- Words of private functions; no public contract cites them.
--
--   Residue p r         r is p modulo 2^64
--   Reduced p q p' q'   p'/q' is p/q in lowest terms, and neither number has grown
--   Offset P p          P carries the numerator p: P = p + 2^62
--   Inverse q v         q is odd, and v its inverse modulo 2^32
use Rattle.std.specs.Prelude.{◌≡◌, ℕ, ◌*◌, ◌%◌, ◌^◌, ◌<◌, ◌≤◌, ℤ, pos, ◌+ℤ◌, ◌-ℤ◌, ◌*ℤ◌, unsigned_abs}
use Rattle.fractions.specs.Pairs.{Lowest}

pub record Residue (p : ℤ) (r : ℕ) : Type 0 where
  pub low : r < 2 ^ 64
  pub times : ℤ
  pub is : pos r -ℤ p ≡ pos (2 ^ 64) *ℤ times

pub record Reduced (p : ℤ) (q : ℕ) (p' : ℤ) (q' : ℕ) : Type 0 where
  pub lowest : Lowest p q p' q'
  pub p_less : unsigned_abs p' ≤ unsigned_abs p
  pub q_less : q' ≤ q

pub record Offset (P : ℕ) (p : ℤ) : Type 0 where
  pub is : pos P ≡ p +ℤ pos (2 ^ 62)

pub record Inverse (q v : ℕ) : Type 0 where
  pub odd : q % 2 ≡ 1
  pub one : q * v % 2 ^ 32 ≡ 1
  pub small : v < 2 ^ 32
