-- The starred "Bench values", all of them: one table, one statement, one computed test with its soundness law.
--
--   burst bits p q               "Bits are written first bit left.": the answer for these bits is (p, q)
--   tied bits p q p' q'          .. and (p', q') fits them too, is inside the limits, and has the same size ("tied in size with (-3, 1)")
--   load p q a m p' q' L T       (p, q) loads the cells a and the memory m; they read back (p', q'); their lead-in is L and their period T, so that the allowance
--                                L + T answers and L + T - 1 refuses ("Allowance 36 answers, 35 refuses.")
--   Holds                        what the document says of a row, in the words of the contracts
--   test, holds                  the test of a row, and that a row that passes it holds
--   starred                      every row holds
use mathlib.Core.Path.{◌≡◌, refl, sym, subst}
use mathlib.Core.Bool.{Bool, true, ◌&&◌}
use mathlib.Core.List.{List, [], ◌∷◌}
use Prim.Native.Nat.{ℕ, zero, suc, ◌+◌, ◌-◌, ◌%◌}
use native.Mathlib.Omega.{arith}
use lib.Dec.{T, eqb, ltb, eqb→eq, ltb→lt}
use lib.IntN.{ℤ, pos, negsuc}
use lib.ListN.{length}
use Rattle.integers.specs.Numbers.{log2, log_in}
use Rattle.integers.proofs.Tests.{and_T}
use Rattle.bits.specs.Bits.{num, digits, value}
use Rattle.fractions.specs.Pairs.{Inside, Fits, size}
use Rattle.fractions.specs.Expansion.{next_num, iter_num, digits_to}
use Rattle.learning.specs.Learning.{Learns}
use Rattle.registers.specs.declared.Register.{Register}
use Rattle.registers.specs.Registers.{Valid, sum_below, y_to}
use Rattle.registers.specs.Answers.{Loads, loaded, ReadsBack, pair}
use Rattle.registers.proofs.Loading.{rule_numerator as load_numerator}
use Rattle.periods.proofs.Entries.{is_order, order_tested}
use Rattle.walking.specs.Walks.{Loops, states_of, Walks, walked, past}
use Rattle.walking.specs.Inner.{dist, Enters}
use Rattle.walking.proofs.LeadIn.{enters_zero, enters_suc}
use Rattle.walking.proofs.Walks.{walk_of}
use Rattle.demands.proofs.Bursts.{insideb, inside_sound, fitsb, fits_sound, learnsb, learns_sound, packed}
use Rattle.demands.proofs.Loaded.{loadsb, loads_sound}

pub data Row : Type 0 where
  burst : List ℕ → ℤ → ℕ → Row
  tied : List ℕ → ℤ → ℕ → ℤ → ℕ → Row
  load : ℤ → ℕ → ℕ → ℤ → ℤ → ℕ → ℕ → ℕ → Row

abbrev pub register : ℕ → ℕ → ℤ → Register
register q a m = record { q = q; cells = a; memory = m }

abbrev pub Holds : Row → Type 0
Holds (burst bits p q) = Learns (packed bits) (length bits) 0 p q
Holds (tied bits p q p' q') =
    Learns (packed bits) (length bits) 0 p q × Inside p' q' × Fits (length bits) (value (packed bits) (length bits)) p' q' × (size p q ≡ size p' q')
Holds (load p q a m p' q' L T) =
    Loads p q 0 (register q a m) × ReadsBack (register q a m) 0 p' q' × Walks (register q a m) (L + T) 0 L T (L + T) × Walks (register q a m) (L + T - 1) 6 0 0 0

abbrev pub Every : List Row → Type 0
Every [] = Unit {0}
Every (x ∷ xs) = Holds x × Every xs

abbrev pub rows : List Row
rows =
    burst [] (pos 0) 1
    ∷ burst (1 ∷ []) (pos 1) 1
    ∷ burst (1 ∷ 1 ∷ []) (negsuc 0) 1
    ∷ burst (0 ∷ 1 ∷ []) (pos 2) 1
    ∷ burst (0 ∷ 0 ∷ 1 ∷ []) (pos 4) 1
    ∷ tied (1 ∷ 0 ∷ 1 ∷ []) (negsuc 0) 3 (negsuc 2) 1
    ∷ burst (1 ∷ 0 ∷ 1 ∷ 1 ∷ []) (negsuc 2) 1
    ∷ burst (1 ∷ 1 ∷ 0 ∷ 0 ∷ 1 ∷ 0 ∷ 1 ∷ 0 ∷ 0 ∷ 0 ∷ 1 ∷ 0 ∷ 0 ∷ []) (negsuc 0) 37
    ∷ load (pos 1) 1 1 (negsuc 0) (pos 1) 1 1 1
    ∷ load (pos 2) 1 0 (negsuc 0) (pos 2) 1 2 1
    ∷ load (negsuc 0) 37 19 (pos 0) (negsuc 0) 37 0 36
    ∷ load (negsuc 4) 15 5 (pos 0) (negsuc 0) 3 0 2
    ∷ []

-- ---- the test
-- L is the first step inside -q .. 0: there the numerator is inside, and one step before it is not
abbrev entersb : ℕ → ℤ → ℕ → Bool
entersb q p zero = eqb (dist q p) 0
entersb q p (suc L) = ltb 0 (dist q (iter_num q L p)) && eqb (dist q (iter_num q (suc L) p)) 0

enters_sound : (q : ℕ) (p : ℤ) (L : ℕ) → q % 2 ≡ 1 → T (entersb q p L) → Enters q p L
enters_sound q p zero o t = enters_zero q p (eqb→eq (dist q p) 0 t)
enters_sound q p (suc L) o t =
    let u = and_T (ltb 0 (dist q (iter_num q L p))) (eqb (dist q (iter_num q (suc L) p)) 0) t in
    enters_suc q p L o (ltb→lt 0 (dist q (iter_num q L p)) u.0) (eqb→eq (dist q (iter_num q (suc L) p)) 0 u.1)

abbrev pub test : Row → Bool
test (burst bits p q) = learnsb (packed bits) (length bits) p q
test (tied bits p q p' q') =
    learnsb (packed bits) (length bits) p q && (insideb p' q' && (fitsb (length bits) (value (packed bits) (length bits)) p' q' && eqb (size p q) (size p' q')))
test (load p q a m p' q' L T) = loadsb p q a m p' q' && (entersb q p L && is_order q' T)

abbrev tests : List Row → Bool
tests [] = true
tests (x ∷ xs) = test x && tests xs

-- ---- and what it shows
loops_sound : (p : ℤ) (q a : ℕ) (m : ℤ) (p' : ℤ) (q' L P : ℕ) → Loads p q 0 (register q a m) → ReadsBack (register q a m) 0 p' q' → T (entersb q p L) → T (is_order q' P)
    → Valid (register q a m) × Loops (states_of (register q a m)) L P
loops_sound p q a m p' q' L P (loaded i l f) (pair v w k) e o =
    (v, walk_of (register q a m) {p' = p'} {q' = q'} v w (subst (λ (z : ℤ). Enters q z L) (sym (load_numerator p q (register q a m) l)) (enters_sound q p L v.odd e)) (order_tested q' P o))

pub holds : (x : Row) → T (test x) → Holds x
holds (burst bits p q) t = learns_sound (packed bits) (length bits) p q t
holds (tied bits p q p' q') t =
    let n = length bits in
    let A = value (packed bits) n in
    let u = and_T (learnsb (packed bits) n p q) _ t in
    let v = and_T (insideb p' q') _ u.1 in
    let w = and_T (fitsb n A p' q') (eqb (size p q) (size p' q')) v.1 in
    (learns_sound (packed bits) n p q u.0, inside_sound p' q' v.0, fits_sound n A p' q' w.0, eqb→eq (size p q) (size p' q') w.1)
holds (load p q a m p' q' L P) t =
    let u = and_T (loadsb p q a m p' q') (entersb q p L && is_order q' P) t in
    let s = loads_sound p q a m p' q' u.0 in
    let r = and_T (entersb q p L) (is_order q' P) u.1 in
    let w = loops_sound p q a m p' q' L P s.0 s.1 r.0 r.1 in
    (s.0, s.1, walked w.0 w.1 refl (omega arith), past L P w.0 w.1 (omega (arith, w.1.some)))

every : (xs : List Row) → T (tests xs) → Every xs
every [] t = tt
every (x ∷ xs) t = let u = and_T (test x) (tests xs) t in (holds x u.0, every xs u.1)

pub starred : Every rows
unfolding value num digits digits_to iter_num next_num y_to sum_below log2 log_in
starred = every rows tt
