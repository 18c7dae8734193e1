-- The walk of a loaded pair in lowest terms, and the period table: demand 3 in the words of loading.
--
--   loaded_order         the period of a loaded pair is the order of two modulo the denominator in lowest terms
--   loaded_bounded       in lowest terms, |p| below 2^b: L ≤ b, T is the order of two modulo q, L + T ≤ b + max 1 (q - 1)
--   loaded_cost          .. and every such pair inside the limits has its register, its L and its T
--   walk_period_table    in lowest terms, for q in the table, the walk's period is the table's entry
use mathlib.Core.Path.{◌≡◌, sym, subst}
use Prim.Native.Nat.{ℕ, ◌^◌, ◌<◌}
use lib.IntN.{ℤ, nat_abs}
use Rattle.integers.proofs.Finite.{least_unique}
use Rattle.fractions.specs.Pairs.{Inside, LowestTerms, Lowest}
use Rattle.registers.specs.Registers.{Valid, num_of}
use Rattle.registers.specs.Answers.{Loads, loaded}
use Rattle.registers.specs.declared.Register.{Register}
use Rattle.registers.proofs.Loading.{rule_numerator, load_valid}
use Rattle.registers.proofs.Answers.{load_exists, loaded_valid}
use Rattle.periods.specs.Orders.{Order}
use Rattle.periods.specs.Answers.{Periods, entry}
use Rattle.walking.specs.Walks.{Loops, states_of, Walks, walked}
use Rattle.walking.proofs.Walks.{Bounded, walk_exists, walk_order, walk_bounded, lowest_itself}

-- what a load that is not refused gives
record Into (p : ℤ) (q : ℕ) (g : Register) : Type 0 where
  valid : Valid g
  q_is : g.q ≡ q
  p_is : num_of g ≡ p

into : {p : ℤ} {q : ℕ} {g : Register} → Loads p q 0 g → Into p q g
into {p} {q} {g} (loaded i l m) = record { valid = load_valid p q g i l m; q_is = l.q_is; p_is = rule_numerator p q g l }

pub loaded_order : (p : ℤ) (q : ℕ) (g : Register) {p' : ℤ} {q' L T : ℕ} → Loads p q 0 g → Lowest p q p' q' → Loops (states_of g) L T → Order q' T
loaded_order p q g {p'} {q'} a w s =
    let n = into a in
    walk_order g n.valid (subst (λ z. Lowest z g.q p' q') (sym n.p_is) (subst (λ m. Lowest p m p' q') (sym n.q_is) w)) s

pub loaded_bounded : (p : ℤ) (q b : ℕ) (g : Register) {L T : ℕ} → Loads p q 0 g → LowestTerms p q → nat_abs p < 2 ^ b → Loops (states_of g) L T
    → Bounded q b L T
loaded_bounded p q b g {L} {T} a c h s =
    let n = into a in
    subst (λ m. Bounded m b L T) n.q_is
    (walk_bounded g b n.valid (subst (λ z. LowestTerms z g.q) (sym n.p_is) (subst (LowestTerms p) (sym n.q_is) c))
    (subst (λ z. nat_abs z < 2 ^ b) (sym n.p_is) h) s)

pub loaded_cost : (p : ℤ) (q b : ℕ) → Inside p q → LowestTerms p q → nat_abs p < 2 ^ b
    → (g : Register) × (L : ℕ) × (T : ℕ) × (Loads p q 0 g × Loops (states_of g) L T × Bounded q b L T)
loaded_cost p q b i c h =
    let l = load_exists p q i in
    let w = walk_exists l.0 (loaded_valid p q l.0 l.1) in
    (l.0, w.0, w.1, (l.1, w.2, loaded_bounded p q b l.0 l.1 c h w.2))

pub walk_period_table : (p : ℤ) (q : ℕ) (g : Register) (allowance : ℕ) {L T S t : ℕ} → Loads p q 0 g → LowestTerms p q
    → Walks g allowance 0 L T S → Periods q 0 t → T ≡ t
walk_period_table p q g allowance {L} {T} {S} {t} a c (walked v s e h) (entry i r) =
    least_unique (loaded_order p q g a (lowest_itself p q i.some c) s) r
