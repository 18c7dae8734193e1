-- Words on numbers, and on tests of them.
--
--   Odd z, Even z     |z| leaves 1, 0 on division by 2
--   Decides P b       b says whether P holds
--   Parity z b        b says whether z is odd
--   signed_by minus n  -n where minus is true, else n
--   odd_z z            z modulo 2, 0 or 1             ("The new cell a_r is 0 or 1 and equals s modulo 2")
--   half_z z           z / 2, rounded down            ("the new memory is s/2 rounded toward minus infinity")
--   log2 n            floor(log2 n), for n at least 1  ("r = floor(log2(q+1))")
--   Divides d n       n leaves 0 on division by d
--   Coprime a b       the only common divisor is 1   ("lowest terms")
--   IsGcd a b d       d divides a and b, and every common divisor divides d   ("the greatest common divisor")
--   Least P m         m has the property P, and no smaller number has it       ("the least L", "the least T >= 1")
use Rattle.std.specs.Prelude.{◌≡◌, ℕ, zero, suc, ◌-◌, ◌/◌, ◌%◌, ◌≤◌, Bool, true, false, ℤ, pos, negsuc, neg_ℤ, nat_lt, unsigned_abs}
use Rattle.std.specs.Int.Signed.{shr_z}

abbrev pub Odd : ℤ → Type 0
Odd z = unsigned_abs z % 2 ≡ 1

abbrev pub Even : ℤ → Type 0
Even z = unsigned_abs z % 2 ≡ 0

abbrev pub Decides : Type 0 → Bool → Type 0
Decides P true = P
Decides P false = P → ⊥

abbrev pub Parity : ℤ → Bool → Type 0
Parity z true = Odd z
Parity z false = Even z

abbrev pub signed_by : Bool → ℕ → ℤ
signed_by true n = neg_ℤ (pos n)
signed_by false n = pos n

-- negsuc n is -(n + 1)
abbrev pub odd_z : ℤ → ℕ
odd_z (pos n) = n % 2
odd_z (negsuc n) = 1 - n % 2

-- shr_z rounds down: half of -1 is -1
abbrev pub half_z : ℤ → ℤ
half_z z = shr_z z 2

abbrev pub pick_n : Bool → ℕ → ℕ → ℕ
pick_n true a b = a
pick_n false a b = b

-- how often n can be halved before it is 1; n halvings are always enough
unfoldable pub log_in : ℕ → ℕ → ℕ
log_in zero n = 0
log_in (suc f) n = pick_n (nat_lt n 2) 0 (suc (log_in f (n / 2)))

unfoldable pub log2 : ℕ → ℕ
unfolding log_in
log2 n = log_in n n

abbrev pub Divides : ℕ → ℕ → Type 0
Divides d n = n % d ≡ 0

abbrev pub Coprime : ℕ → ℕ → Type 0
Coprime a b = (d : ℕ) → Divides d a → Divides d b → d ≡ 1

pub record IsGcd (a b d : ℕ) : Type 0 where
  pub left : Divides d a
  pub right : Divides d b
  pub most : (e : ℕ) → Divides e a → Divides e b → Divides e d

pub record Least (P : ℕ → Type 0) (m : ℕ) : Type 0 where
  pub holds : P m
  pub first : (k : ℕ) → P k → m ≤ k
