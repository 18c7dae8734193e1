-- The laws of the contract alone, whatever the algorithm.
--
--   learns_unique     two answers that meet the contract have the same numbers; learned_unique: so they are the same answer
--   learns_agree      bits past the count and extra bytes have no effect
--   learned_itself    from 2 b + 1 bits of p/q in lowest terms, |p| and q below 2^b, the answer is p/q itself
--   learned_lowest    the answer is in lowest terms
--   learned_settled   where 2 size² < 2^n, every pair inside the limits that fits and is no larger is this same pair
--   learned_emits     the answer's expansion begins with the burst's bits
use mathlib.Core.Path.{◌≡◌, refl, sym, ap, ◌∙◌, subst}
use mathlib.Core.List.{List}
use Prim.Native.Nat.{ℕ, zero, suc, ◌+◌, ◌*◌, ◌%◌, ◌^◌, ◌≤◌, ◌<◌}
use native.Mathlib.Omega.{arith}
use lib.Pow.{pow_mono}
use lib.IntN.{ℤ, nat_abs}
use Rattle.bits.specs.Bits.{bit_at, value}
use Rattle.bits.proofs.Values.{value_agree}
use Rattle.std.specs.Prelude.{Option, Some, None, MatchOption, Result, Ok, Err, ok_or}
use Rattle.fractions.specs.declared.Fraction.{Fraction}
use Rattle.fractions.specs.Pairs.{Inside, Fits, size, Smallest, NoneFits, LowestTerms}
use Rattle.fractions.specs.Expansion.{digit_at, digits_to}
use Rattle.fractions.proofs.Order.{smallest_unique, smallest_lowest, smallest_settled, smallest_recovered}
use Rattle.fractions.proofs.Expansion.{expansion_fits, fits_digits}
use Rattle.learning.specs.Learning.{refusal_number, number_of, p_of, q_of, Enough, Learns, answer, too_large, too_few, none}
use Rattle.learning.specs.declared.Refusal.{Refusal}
use Rattle.learning.specs.declared.Refusal.TheVariants.{CountTooLarge, TooFewBytes, NoneInside}

-- ---- two answers are the same
pub learns_unique : (bytes : List ℕ) (count m n : ℕ) (p p' : ℤ) (q q' : ℕ) → Learns bytes count m p q → Learns bytes count n p' q' → (m ≡ n) × (p ≡ p') × (q ≡ q')
learns_unique bytes count m n p p' q q' (answer e s) (answer e' s') = let u = smallest_unique count (value bytes count) p q p' q' s s' in (refl, u.0, u.1)
learns_unique bytes count m n p p' q q' (answer e s) (too_large l) = absurd (omega (arith, e.few))
learns_unique bytes count m n p p' q q' (answer e s) (too_few l h) = absurd (omega (arith, e.there))
learns_unique bytes count m n p p' q q' (answer e s) (none e' f) = absurd (f p q s.inside s.fits)
learns_unique bytes count m n p p' q q' (too_large l) (answer e s) = absurd (omega (arith, e.few))
learns_unique bytes count m n p p' q q' (too_large l) (too_large l') = (refl, refl, refl)
learns_unique bytes count m n p p' q q' (too_large l) (too_few l' h) = absurd (omega arith)
learns_unique bytes count m n p p' q q' (too_large l) (none e f) = absurd (omega (arith, e.few))
learns_unique bytes count m n p p' q q' (too_few l h) (answer e s) = absurd (omega (arith, e.there))
learns_unique bytes count m n p p' q q' (too_few l h) (too_large l') = absurd (omega arith)
learns_unique bytes count m n p p' q q' (too_few l h) (too_few l' h') = (refl, refl, refl)
learns_unique bytes count m n p p' q q' (too_few l h) (none e f) = absurd (omega (arith, e.there))
learns_unique bytes count m n p p' q q' (none e f) (answer e' s) = absurd (f p' q' s.inside s.fits)
learns_unique bytes count m n p p' q q' (none e f) (too_large l) = absurd (omega (arith, e.few))
learns_unique bytes count m n p p' q q' (none e f) (too_few l h) = absurd (omega (arith, e.there))
learns_unique bytes count m n p p' q q' (none e f) (none e' f') = (refl, refl, refl)

-- an answer is its numbers
refusal_of : ℕ → Refusal
refusal_of (suc zero) = CountTooLarge
refusal_of (suc (suc zero)) = TooFewBytes
refusal_of _ = NoneInside

refusal_is : (e : Refusal) → e ≡ refusal_of (refusal_number e)
unfolding refusal_of
refusal_is CountTooLarge = refl
refusal_is TooFewBytes = refl
refusal_is NoneInside = refl

no_zero : (e : Refusal) → 0 ≡ refusal_number e → ⊥
no_zero CountTooLarge h = omega arith
no_zero TooFewBytes h = omega arith
no_zero NoneInside h = omega arith

same_answer : (x y : Result Fraction Refusal) → number_of x ≡ number_of y → p_of x ≡ p_of y → q_of x ≡ q_of y → x ≡ y
same_answer (Ok x) (Ok y) e ep eq = ap Ok (λ i. record { p = ep i; q = eq i })
same_answer (Ok x) (Err d) e ep eq = absurd (no_zero d e)
same_answer (Err d) (Ok y) e ep eq = absurd (no_zero d (sym e))
same_answer (Err c) (Err d) e ep eq = ap Err (refusal_is c ∙ ap refusal_of e ∙ sym (refusal_is d))

-- what the contract says of a result
abbrev pub Meets : List ℕ → ℕ → Result Fraction Refusal → Type 0
Meets bytes count x = Learns bytes count (number_of x) (p_of x) (q_of x)

pub learned_unique : (bytes : List ℕ) (count : ℕ) (x y : Result Fraction Refusal) → Meets bytes count x → Meets bytes count y → x ≡ y
learned_unique bytes count x y h k =
    let u = learns_unique bytes count (number_of x) (number_of y) (p_of x) (p_of y) (q_of x) (q_of y) h k in
    same_answer x y u.0 u.1 u.2

-- ---- the fraction that was found, or none, is the answer
pub learned : (bytes : List ℕ) (count : ℕ) → Enough bytes count → {found r : Option Fraction} → MatchOption r (NoneFits count (value bytes count)) (λ x. Smallest count (value bytes count) x.p x.q)
    → found ≡ r → {answer : Result Fraction Refusal} → answer ≡ ok_or found NoneInside → Meets bytes count answer
learned bytes count e {r = r} h ef ea = subst (Meets bytes count) (sym (ea ∙ ap (λ (o : Option Fraction). ok_or o NoneInside) ef)) (go r h)
  where
    go : (r : Option Fraction) → MatchOption r (NoneFits count (value bytes count)) (λ x. Smallest count (value bytes count) x.p x.q) → Meets bytes count (ok_or r NoneInside)
    go (Some x) s = answer e s
    go None f = none e f

-- ---- bits past the count and extra bytes have no effect
pub learns_agree : (l m : List ℕ) (count n : ℕ) (p : ℤ) (q : ℕ) → Enough l count → Enough m count → ((i : ℕ) → i < count → bit_at l i ≡ bit_at m i)
    → Learns l count n p q → Learns m count n p q
learns_agree l m count n p q el em a (answer e s) = answer em (subst (λ (A : ℕ). Smallest count A p q) (value_agree l m count a) s)
learns_agree l m count n p q el em a (too_large h) = too_large h
learns_agree l m count n p q el em a (too_few h k) = absurd (omega (arith, el.there))
learns_agree l m count n p q el em a (none e f) = none em (λ p' q' i g. f p' q' i (subst (λ (A : ℕ). Fits count A p' q') (sym (value_agree l m count a)) g))

-- ---- demand 3, first half
pub learned_itself : (bytes : List ℕ) (b n : ℕ) (p : ℤ) (q : ℕ) → b ≤ 30 → 2 * b + 1 ≤ n → Enough bytes n
    → q % 2 ≡ 1 → LowestTerms p q → nat_abs p < 2 ^ b → q < 2 ^ b → value bytes n ≡ digits_to q n p
    → (number : ℕ) (p' : ℤ) (q' : ℕ) → Learns bytes n number p' q' → (number ≡ 0) × (p' ≡ p) × (q' ≡ q)
learned_itself bytes b n p q hb l e o co lp lq v = go
  where
    top : 2 ^ b ≤ 2 ^ 30
    top = pow_mono {j = 30} hb

    inside : Inside p q
    inside = record { odd = o; some = omega arith; q_most = omega (arith, top); p_most = omega (arith, top) }

    fits : Fits n (value bytes n) p q
    fits = subst (λ (A : ℕ). Fits n A p q) (sym v) (expansion_fits q n p o)

    go : (number : ℕ) (p' : ℤ) (q' : ℕ) → Learns bytes n number p' q' → (number ≡ 0) × (p' ≡ p) × (q' ≡ q)
    go number p' q' (answer e' s) = let u = smallest_recovered n (value bytes n) b p' q' p q s inside fits co lp lq l in (refl, u.0, u.1)
    go number p' q' (too_large h) = absurd (omega (arith, e.few))
    go number p' q' (too_few h k) = absurd (omega (arith, e.there))
    go number p' q' (none e' f) = absurd (f p q inside fits)

-- ---- what an answer is
pub learned_lowest : (bytes : List ℕ) (count : ℕ) (p : ℤ) (q : ℕ) → Learns bytes count 0 p q → LowestTerms p q
learned_lowest bytes count p q (answer e s) = smallest_lowest count (value bytes count) p q s

pub learned_settled : (bytes : List ℕ) (count : ℕ) (p : ℤ) (q : ℕ) → Learns bytes count 0 p q → 2 * (size p q * size p q) < 2 ^ count
    → (p' : ℤ) (q' : ℕ) → Inside p' q' → Fits count (value bytes count) p' q' → size p' q' ≤ size p q → (p' ≡ p) × (q' ≡ q)
learned_settled bytes count p q (answer e s) l p' q' i f m = smallest_settled count (value bytes count) p q p' q' s l i f m

pub learned_emits : (bytes : List ℕ) (count : ℕ) (p : ℤ) (q : ℕ) → Learns bytes count 0 p q → (i : ℕ) → i < count → bit_at bytes i ≡ digit_at q p i
learned_emits bytes count p q (answer e s) = (fits_digits count bytes p q s.inside.odd).0 s.fits
