-- Pairs (p, q) as fractions p/q, in the words of the document's "Fractions and the smallest one".
--
--   limit                   "B is 1,073,741,823 (2^30 - 1)."
--   Inside p q              "A pair (p, q) is inside the limits when q is odd, 1 <= q <= B and -B <= p <= B."
--   Fits n A p q            "It fits a burst of n bits with value A (the sum of bit i times 2^i) when A·q - p is divisible by 2^n."
--   size p q                "Its size is the larger of |p| and q."
--   NotAfter p q p' q'      "least size; among those, least |p|; then least q; then p not negative"
--   Smallest n A p q        "the fitting pair inside the limits with least size; ..": the answer for a burst
--   NoneFits n A            "If none fits, refusal 3, and never otherwise."
--   LowestTerms p q         the only common divisor of |p| and q is 1
--   SameFraction p q p' q'  p/q = p'/q', without division
--   Lowest p q p' q'        p'/q' is p/q "in lowest terms, q positive; zero is (0, 1)"
use Rattle.std.specs.Prelude.{◌≡◌, ℕ, ◌%◌, ◌^◌, ◌<◌, ◌≤◌, max, ◌⊎◌, ℤ, pos, negsuc, ◌-ℤ◌, ◌*ℤ◌, unsigned_abs}
use Rattle.integers.specs.Numbers.{Coprime}

abbrev pub limit : ℕ
limit = 1073741823

pub record Inside (p : ℤ) (q : ℕ) : Type 0 where
  pub odd : q % 2 ≡ 1
  pub some : 1 ≤ q
  pub q_most : q ≤ limit
  pub p_most : unsigned_abs p ≤ limit

abbrev pub Fits : ℕ → ℕ → ℤ → ℕ → Type 0
Fits n A p q = (t : ℤ) × (pos A *ℤ pos q -ℤ p ≡ pos (2 ^ n) *ℤ t)

abbrev pub size : ℤ → ℕ → ℕ
size p q = max (unsigned_abs p) q

-- 1 where p is negative
abbrev pub below : ℤ → ℕ
below (pos n) = 0
below (negsuc n) = 1

-- a is less than b, or they are equal and what follows holds
abbrev pub Then : ℕ → ℕ → Type 0 → Type 0
Then a b rest = (a < b) ⊎ ((a ≡ b) × rest)

abbrev pub NotAfter : ℤ → ℕ → ℤ → ℕ → Type 0
NotAfter p q p' q' = Then (size p q) (size p' q') (Then (unsigned_abs p) (unsigned_abs p') (Then q q' (below p ≤ below p')))

pub record Smallest (n A : ℕ) (p : ℤ) (q : ℕ) : Type 0 where
  pub inside : Inside p q
  pub fits : Fits n A p q
  pub first : (p' : ℤ) (q' : ℕ) → Inside p' q' → Fits n A p' q' → NotAfter p q p' q'

abbrev pub NoneFits : ℕ → ℕ → Type 0
NoneFits n A = (p : ℤ) (q : ℕ) → Inside p q → Fits n A p q → ⊥

abbrev pub LowestTerms : ℤ → ℕ → Type 0
LowestTerms p q = Coprime q (unsigned_abs p)

abbrev pub SameFraction : ℤ → ℕ → ℤ → ℕ → Type 0
SameFraction p q p' q' = p *ℤ pos q' ≡ p' *ℤ pos q

pub record Lowest (p : ℤ) (q : ℕ) (p' : ℤ) (q' : ℕ) : Type 0 where
  pub some : 1 ≤ q'
  pub lowest : LowestTerms p' q'
  pub same : SameFraction p q p' q'
