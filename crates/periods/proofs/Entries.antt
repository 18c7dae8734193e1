-- A rule of a table, proved at all of its entries by one computed test, one entry after the other; and the rule of the period table.
use mathlib.Core.Path.{◌≡◌, ◌∙◌, subst, sym}
use mathlib.Core.Bool.{Bool, true, false, not, ◌&&◌}
use mathlib.Core.List.{List, [], ◌∷◌}
use mathlib.Core.Logic.{inl, inr}
use Prim.Native.Nat.{ℕ, zero, suc, ◌+◌, ◌*◌, ◌/◌, ◌%◌, ◌^◌, ◌≤◌, ◌<◌}
use native.Mathlib.Omega.{arith}
use native.Mathlib.Nat.{add-zero, zero-add, add-suc, suc-add, le_of_suc-le-suc, not-suc-le-zero, eq-or-lt_of_le}
use lib.Dec.{T, eqb, eqb→eq}
use lib.ListN.{length, get_or}
use borrow.Author.Tests.{eq-eqb}
use Rattle.integers.proofs.Tests.{and_T}
use Rattle.periods.specs.Orders.{UnitPower, Order}
use Rattle.periods.specs.Answers.{Periods, entry}

-- the test f passes at each entry of the list and its place, counted from i
abbrev pub every : (ℕ → ℕ → Bool) → ℕ → List ℕ → Bool
every f i [] = true
every f i (x ∷ xs) = f i x && every f (suc i) xs

from : (f : ℕ → ℕ → Bool) (xs : List ℕ) (i : ℕ) → T (every f i xs) → (k : ℕ) → k < length xs → T (f (i + k) (get_or xs k 0))
from f [] i t k h = absurd (not-suc-le-zero h)
from f (x ∷ xs) i t zero h = subst (λ (m : ℕ). T (f m x)) (sym (add-zero i)) (and_T (f i x) (every f (suc i) xs) t).0
from f (x ∷ xs) i t (suc k) h =
    subst (λ (m : ℕ). T (f m (get_or xs k 0))) (suc-add i k ∙ sym (add-suc i k))
    (from f xs (suc i) (and_T (f i x) (every f (suc i) xs) t).1 k (le_of_suc-le-suc h))

pub at : (f : ℕ → ℕ → Bool) (xs : List ℕ) → T (every f 0 xs) → (k : ℕ) → k < length xs → T (f k (get_or xs k 0))
at f xs t k h = subst (λ (m : ℕ). T (f m (get_or xs k 0))) (zero-add k) (from f xs 0 t k h)

-- ---- the least-exponent rule, as a test
-- at none of 1 .. n is 2^t = 1 mod q
abbrev none_to : ℕ → ℕ → Bool
none_to q zero = true
none_to q (suc n) = not (eqb (2 ^ suc n % q) (1 % q)) && none_to q n

abbrev pub is_order : ℕ → ℕ → Bool
is_order q zero = false
is_order q (suc n) = eqb (2 ^ suc n % q) (1 % q) && none_to q n

-- entry i is the order of two mod 2 i + 1
abbrev pub right : ℕ → ℕ → Bool
right i x = is_order (2 * i + 1) x

T_not : (b : Bool) → T (not b) → b ≡ true → ⊥
T_not true t e = t
T_not false t e = let z : T false = subst T (sym e) tt in z

none-to : (q n : ℕ) → T (none_to q n) → (t : ℕ) → UnitPower q t → n < t
none-to q zero h t u = u.some
none-to q (suc n) h t u = elim (eq-or-lt_of_le (none-to q n (and_T (not (eqb (2 ^ suc n % q) (1 % q))) (none_to q n) h).1 t u)) [
  | inl e ↦ absurd (T_not (eqb (2 ^ suc n % q) (1 % q)) (and_T (not (eqb (2 ^ suc n % q) (1 % q))) (none_to q n) h).0
      (eq-eqb _ _ (subst (λ (m : ℕ). 2 ^ m % q ≡ 1 % q) (sym e) u.one)))
  | inr l ↦ l
]

pub order_tested : (q x : ℕ) → T (is_order q x) → Order q x
order_tested q zero h = absurd h
order_tested q (suc n) h = record {
  holds = record { some = omega arith; one = eqb→eq _ _ (and_T (eqb (2 ^ suc n % q) (1 % q)) (none_to q n) h).0 };
  first = λ t u. none-to q n (and_T (eqb (2 ^ suc n % q) (1 % q)) (none_to q n) h).1 t u;
}

-- what the test over the whole table gives at an odd q
pub entry_period : (xs : List ℕ) (q : ℕ) → every right 0 xs ≡ true → q % 2 ≡ 1 → q ≤ 1023 → q / 2 < length xs → Periods q 0 (get_or xs (q / 2) 0)
entry_period xs q t o m l =
    entry (record { odd = o; some = omega arith; most = m })
    (subst (λ (n : ℕ). Order n (get_or xs (q / 2) 0)) (omega arith) (order_tested (2 * (q / 2) + 1) (get_or xs (q / 2) 0) (at right xs (subst T (sym t) tt) (q / 2) l)))
