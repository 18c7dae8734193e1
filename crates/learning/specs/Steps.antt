-- Vocabulary of private contracts: no contract of an entry point cites it.
--
--   flip p q              p with the sign that makes q positive
--   Finished n p q p' q'  (p', q') is (p, q) or its negative with q positive; p' is not negative where both signs fit
--   Traced A r₀ r t₀ t m  a turn of Euclid's algorithm on 2^61 and A: remainders r₀ and r with their cofactors t₀ and t, and the sign of r
--   Guess A r t m         its end: r is the first remainder of at most the limit
--   Guessed A p q         the same of a pair: p is r with its sign, q its cofactor
--   Carried bytes i p q r the pair fits the first i bits, and r is what is left: p = A q + 2^i r
use Rattle.std.specs.Prelude.{◌≡◌, Bool, not, ◌⊎◌, List, ℕ, ◌+◌, ◌*◌, ◌%◌, ◌^◌, ◌≤◌, ◌<◌, ℤ, pos, negsuc, neg_ℤ, nat_abs, ◌+ℤ◌, ◌*ℤ◌}
use Rattle.integers.specs.Numbers.{signed_by}
use Rattle.bits.specs.Bits.{value}
use Rattle.fractions.specs.Pairs.{limit, Fits, below}

-- ---- the end
abbrev pub flip : ℤ → ℤ → ℤ
flip p (pos n) = p
flip p (negsuc n) = neg_ℤ p

pub record Finished (n : ℕ) (p q p' : ℤ) (q' : ℕ) : Type 0 where
  pub q_is : q' ≡ nat_abs q
  pub p_is : nat_abs p' ≡ nat_abs p
  pub side : (p' ≡ flip p q) ⊎ ((2 * nat_abs p) % 2 ^ n ≡ 0)
  pub sign : (below p' ≡ 0) ⊎ ((2 * nat_abs p) % 2 ^ n ≡ 0 → ⊥)

-- ---- the guess
pub record Traced (A r₀ r t₀ t : ℕ) (minus : Bool) : Type 0 where
  pub sum : t * r₀ + t₀ * r ≡ 2 ^ 61
  pub last : Fits 61 A (signed_by (not minus) r₀) t₀
  pub fits : Fits 61 A (signed_by minus r) t
  pub large : limit < r₀

pub record Guess (A r t : ℕ) (minus : Bool) : Type 0 where
  pub r₀ : ℕ
  pub t₀ : ℕ
  pub traced : Traced A r₀ r t₀ t minus
  pub small : r ≤ limit

pub record Guessed (A : ℕ) (p : ℤ) (q : ℕ) : Type 0 where
  pub r : ℕ
  pub minus : Bool
  pub p_is : p ≡ signed_by minus r
  pub guess : Guess A r q minus

-- ---- the tail
pub record Carried (bytes : List ℕ) (i : ℕ) (p : ℤ) (q : ℕ) (r : ℤ) : Type 0 where
  pub small : nat_abs r ≤ limit
  pub is : p ≡ pos (value bytes i) *ℤ pos q +ℤ pos (2 ^ i) *ℤ r
