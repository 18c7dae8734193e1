-- A burst and its fraction, tested: computed from the definitions alone, by trying every pair that is no larger. `learns_sound` says what a passed test means.
use mathlib.Core.Path.{◌≡◌, refl, sym, ap, ◌∙◌, subst}
use mathlib.Core.Logic.{inl, inr}
use mathlib.Core.Bool.{Bool, true, false, not, ◌&&◌, ◌||◌}
use mathlib.Core.List.{List}
use Prim.Native.Nat.{ℕ, zero, suc, ◌+◌, ◌*◌, ◌/◌, ◌%◌, ◌^◌, ◌≤◌, ◌<◌}
use native.Mathlib.Omega.{arith}
use native.Mathlib.Nat.{mul-mod_right}
use lib.Dec.{T, eqb, leb, ltb, leb→le, eqb→eq, ltb→lt}
use borrow.Author.Tests.{eq-eqb}
use lib.IntN.{ℤ, pos, negsuc, nat_abs, ◌-ℤ◌, ◌*ℤ◌}
use lib.ListN.{length}
use Rattle.integers.proofs.Parts.{nat_abs-*}
use Rattle.integers.proofs.Finite.{le_or_gt}
use Rattle.bits.specs.Bits.{num, digits, value}
use Rattle.fractions.specs.Pairs.{limit, Inside, Fits, size, below, Then, NotAfter}
use Rattle.fractions.proofs.Lowest.{part}
use Rattle.integers.proofs.Tests.{and_T}
use Rattle.learning.specs.Learning.{Learns, answer}

-- ---- tests and what they mean
-- f of every number up to n
abbrev pub up_to : ℕ → (ℕ → Bool) → Bool
up_to zero f = f zero
up_to (suc n) f = f (suc n) && up_to n f

up_to_sound : (n : ℕ) (f : ℕ → Bool) → T (up_to n f) → (k : ℕ) → k ≤ n → T (f k)
up_to_sound zero f t zero l = t
up_to_sound zero f t (suc k) l = absurd (omega arith)
up_to_sound (suc n) f t k l = elim (le_or_gt k n) [ inl h ↦ up_to_sound n f (and_T (f (suc n)) (up_to n f) t).1 k h | inr h ↦ last (omega arith) ]
  where
    last : suc n ≡ k → T (f k)
    last e = subst (λ (k : ℕ). T (f k)) e (and_T (f (suc n)) (up_to n f) t).0

-- the order
abbrev pub thenb : ℕ → ℕ → Bool → Bool
thenb a b r = ltb a b || (eqb a b && r)

then_sound : (a b : ℕ) (r : Bool) {R : Type 0} → (T r → R) → T (thenb a b r) → Then a b R
then_sound a b r {R} f t = go (ltb a b) (ltb→lt a b) t
  where
    go : (s : Bool) → (T s → a < b) → T (s || (eqb a b && r)) → Then a b R
    go true l t = inl (l tt)
    go false l t = let u = and_T (eqb a b) r t in inr (eqb→eq a b u.0, f u.1)

abbrev pub not_afterb : ℤ → ℕ → ℤ → ℕ → Bool
not_afterb p q p' q' = thenb (size p q) (size p' q') (thenb (nat_abs p) (nat_abs p') (thenb q q' (leb (below p) (below p'))))

not_after_sound : (p : ℤ) (q : ℕ) (p' : ℤ) (q' : ℕ) → T (not_afterb p q p' q') → NotAfter p q p' q'
not_after_sound p q p' q' = then_sound (size p q) (size p' q') _ (then_sound (nat_abs p) (nat_abs p') _ (then_sound q q' _ (leb→le (below p) (below p'))))

-- fitting
abbrev pub fitsb : ℕ → ℕ → ℤ → ℕ → Bool
fitsb n A p q = eqb (nat_abs (pos A *ℤ pos q -ℤ p) % 2 ^ n) 0

pub fits_sound : (n A : ℕ) (p : ℤ) (q : ℕ) → T (fitsb n A p q) → Fits n A p q
fits_sound n A p q t = let y = part (2 ^ n) (pos A *ℤ pos q -ℤ p) (eqb→eq _ 0 t) in (y.0, y.1.0)

fits_true : (n A : ℕ) (p : ℤ) (q : ℕ) → Fits n A p q → fitsb n A p q ≡ true
fits_true n A p q f = eq-eqb _ 0 (ap (λ (x : ℕ). x % 2 ^ n) (ap nat_abs f.1 ∙ nat_abs-* (pos (2 ^ n)) f.0) ∙ mul-mod_right (2 ^ n) (nat_abs f.0))

-- a pair that fits does not come before (p, q); both signs of p'
abbrev pub pairb : ℕ → ℕ → ℤ → ℕ → ℤ → ℕ → Bool
pairb n A p q p' q' = not (fitsb n A p' q') || not_afterb p q p' q'

pair_sound : (n A : ℕ) (p : ℤ) (q : ℕ) (p' : ℤ) (q' : ℕ) → T (pairb n A p q p' q') → Fits n A p' q' → NotAfter p q p' q'
pair_sound n A p q p' q' t f = not_after_sound p q p' q' (subst (λ (b : Bool). T (not b || not_afterb p q p' q')) (fits_true n A p' q' f) t)

abbrev pub firstb : ℕ → ℕ → ℤ → ℕ → Bool
firstb n A p q = up_to (size p q) (λ q'. not (eqb (q' % 2) 1) || up_to (size p q) (λ a. pairb n A p q (pos a) q' && pairb n A p q (negsuc a) q'))

first_sound : (n A : ℕ) (p : ℤ) (q : ℕ) → T (firstb n A p q) → (p' : ℤ) (q' : ℕ) → Inside p' q' → Fits n A p' q' → NotAfter p q p' q'
first_sound n A p q t p' q' i f = elim (le_or_gt (size p' q') (size p q)) [ inl l ↦ at p' l f | inr l ↦ inl l ]
  where
    row : (s : ℕ) → s ≡ size p q → q' ≤ s → (a : ℕ) → a ≤ s → T (pairb n A p q (pos a) q' && pairb n A p q (negsuc a) q')
    row s e l a k = up_to_sound s (λ a. pairb n A p q (pos a) q' && pairb n A p q (negsuc a) q') odd a k
      where
        odd : T (up_to s (λ a. pairb n A p q (pos a) q' && pairb n A p q (negsuc a) q'))
        odd = subst (λ (b : Bool). T (not b || up_to s (λ a. pairb n A p q (pos a) q' && pairb n A p q (negsuc a) q'))) (eq-eqb (q' % 2) 1 i.odd)
            (up_to_sound s (λ q'. not (eqb (q' % 2) 1) || up_to s (λ a. pairb n A p q (pos a) q' && pairb n A p q (negsuc a) q'))
            (subst (λ (s : ℕ). T (up_to s (λ q'. not (eqb (q' % 2) 1) || up_to s (λ a. pairb n A p q (pos a) q' && pairb n A p q (negsuc a) q')))) (sym e) t) q' l)

    at : (p' : ℤ) → size p' q' ≤ size p q → Fits n A p' q' → NotAfter p q p' q'
    at (pos a) l f = pair_sound n A p q (pos a) q' (and_T (pairb n A p q (pos a) q') _ (row (size p q) refl (omega arith) a (omega arith))).0 f
    at (negsuc a) l f = pair_sound n A p q (negsuc a) q' (and_T (pairb n A p q (pos a) q') (pairb n A p q (negsuc a) q') (row (size p q) refl (omega arith) a (omega arith))).1 f

abbrev pub insideb : ℤ → ℕ → Bool
insideb p q = eqb (q % 2) 1 && (leb q limit && leb (nat_abs p) limit)

pub inside_sound : (p : ℤ) (q : ℕ) → T (insideb p q) → Inside p q
inside_sound p q t =
    let a = and_T (eqb (q % 2) 1) _ t in
    let b = and_T (leb q limit) (leb (nat_abs p) limit) a.1 in
    let o = eqb→eq (q % 2) 1 a.0 in
    record { odd = o; some = omega arith; q_most = leb→le q limit b.0; p_most = leb→le (nat_abs p) limit b.1 }

-- ---- the test of one burst
abbrev pub smallestb : ℕ → ℕ → ℤ → ℕ → Bool
smallestb n A p q = insideb p q && (fitsb n A p q && firstb n A p q)

abbrev pub learnsb : List ℕ → ℕ → ℤ → ℕ → Bool
learnsb bytes count p q = leb count 4096 && (leb count (8 * length bytes) && smallestb count (value bytes count) p q)

pub learns_sound : (bytes : List ℕ) (count : ℕ) (p : ℤ) (q : ℕ) → T (learnsb bytes count p q) → Learns bytes count 0 p q
learns_sound bytes count p q t =
    let A = value bytes count in
    let a = and_T (leb count 4096) _ t in
    let b = and_T (leb count (8 * length bytes)) (smallestb count A p q) a.1 in
    let c = and_T (insideb p q) (fitsb count A p q && firstb count A p q) b.1 in
    let d = and_T (fitsb count A p q) (firstb count A p q) c.1 in
    answer (record { few = leb→le count 4096 a.0; there = leb→le count (8 * length bytes) b.0 })
    (record { inside = inside_sound p q c.0; fits = fits_sound count A p q d.0; first = first_sound count A p q d.1 })

-- bits, first bit left, in as few bytes as hold them
abbrev pub packed : List ℕ → List ℕ
packed bits = digits 256 ((length bits + 7) / 8) (num 2 bits)
