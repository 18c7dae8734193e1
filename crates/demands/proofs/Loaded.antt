-- A pair, the register it loads and the pair that reads back, tested: computed from the definitions alone. `loads_sound` says what a passed test means.
use mathlib.Core.Path.{◌≡◌, refl, sym, subst}
use mathlib.Core.Bool.{Bool, true, false, ◌&&◌, ◌||◌}
use Prim.Native.Nat.{ℕ, zero, suc, ◌+◌, ◌%◌, ◌^◌, ◌≤◌}
use native.Mathlib.Omega.{arith}
use native.Mathlib.Nat.{mod-eq_of_lt, mod-zero}
use lib.Dec.{T, eqb, leb, eqb→eq, leb→le}
use lib.IntN.{ℤ, pos, nat_abs, ◌-ℤ◌, ◌*ℤ◌}
use Rattle.integers.specs.Numbers.{Divides, Coprime}
use Rattle.integers.proofs.Tests.{and_T}
use Rattle.integers.proofs.Parts.{up, down, eq_of}
use Rattle.fractions.specs.Pairs.{limit, Inside, Lowest}
use Rattle.fractions.specs.Expansion.{digits_to}
use Rattle.registers.specs.Registers.{cell_count, Load, y_to}
use Rattle.registers.specs.Answers.{Loads, loaded, ReadsBack, pair}
use Rattle.registers.specs.declared.Register.{Register}
use Rattle.registers.proofs.Loading.{rule_numerator as load_numerator, load_valid}
use Rattle.fractions.proofs.Lowest.{inside_lowest}

-- ---- the test
abbrev pub same : ℤ → ℤ → Bool
same x y = eqb (up x + down y) (up y + down x)

-- a 1 in the pair makes it lowest terms, which is all that the table needs
abbrev pub loadsb : ℤ → ℕ → ℕ → ℤ → ℤ → ℕ → Bool
loadsb p q a m p' q' =
    (eqb (q % 2) 1 && (leb q limit && leb (nat_abs p) limit))
    && ((eqb a (digits_to q (cell_count q) p) && (same (m *ℤ pos (2 ^ cell_count q)) (y_to q a (cell_count q) -ℤ p) && leb (nat_abs m) (2 ^ 30)))
    && (leb 1 q' && ((eqb q' 1 || eqb (nat_abs p') 1) && same (p *ℤ pos q') (p' *ℤ pos q))))

-- ---- and what it shows
divides_one : (d : ℕ) → Divides d 1 → d ≡ 1
divides_one zero h = absurd (omega (arith, mod-zero 1))
divides_one (suc zero) h = refl
divides_one (suc (suc d)) h = let e : 1 % suc (suc d) ≡ 1 = mod-eq_of_lt (omega arith) in absurd (omega arith)

one_lowest : (a b : ℕ) → T (eqb a 1 || eqb b 1) → Coprime a b
one_lowest a b t = go (eqb a 1) (eqb→eq a 1) (eqb→eq b 1) t
  where
    go : (s : Bool) → (T s → a ≡ 1) → (T (eqb b 1) → b ≡ 1) → T (s || eqb b 1) → Coprime a b
    go true f g t d h k = divides_one d (subst (Divides d) (f tt) h)
    go false f g t d h k = divides_one d (subst (Divides d) (g t) k)

pub loads_sound : (p : ℤ) (q a : ℕ) (m : ℤ) (p' : ℤ) (q' : ℕ) → T (loadsb p q a m p' q')
    → Loads p q 0 (record { q = q; cells = a; memory = m }) × ReadsBack (record { q = q; cells = a; memory = m }) 0 p' q'
loads_sound p q a m p' q' t =
    let r = cell_count q in
    let t₀ = and_T (eqb (q % 2) 1 && (leb q limit && leb (nat_abs p) limit)) _ t in
    let i₀ = and_T (eqb (q % 2) 1) _ t₀.0 in
    let i₁ = and_T (leb q limit) _ i₀.1 in
    let t₁ = and_T (eqb a (digits_to q r p) && (same (m *ℤ pos (2 ^ r)) (y_to q a r -ℤ p) && leb (nat_abs m) (2 ^ 30))) _ t₀.1 in
    let l₀ = and_T (eqb a (digits_to q r p)) _ t₁.0 in
    let l₁ = and_T (same (m *ℤ pos (2 ^ r)) (y_to q a r -ℤ p)) _ l₀.1 in
    let b₀ = and_T (leb 1 q') _ t₁.1 in
    let b₁ = and_T (eqb q' 1 || eqb (nat_abs p') 1) _ b₀.1 in
    let o : q % 2 ≡ 1 = eqb→eq (q % 2) 1 i₀.0 in
    let i : Inside p q = record { odd = o; some = omega arith; q_most = leb→le q limit i₁.0; p_most = leb→le (nat_abs p) limit i₁.1 } in
    let g : Register = record { q = q; cells = a; memory = m } in
    let l : Load p q g = record { q_is = refl; cells = eqb→eq a (digits_to q r p) l₀.0; memory = eq_of _ _ (eqb→eq _ _ l₁.0) } in
    let f : nat_abs m ≤ 2 ^ 30 = leb→le (nat_abs m) (2 ^ 30) l₁.1 in
    let k : Lowest p q p' q' = record { some = leb→le 1 q' b₀.0; lowest = one_lowest q' (nat_abs p') b₁.0; same = eq_of _ _ (eqb→eq _ _ b₁.1) } in
    (loaded i l f, pair (load_valid p q g i l f) (subst (λ (z : ℤ). Lowest z q p' q') (sym (load_numerator p q g l)) k) (inside_lowest p q p' q' i k))
