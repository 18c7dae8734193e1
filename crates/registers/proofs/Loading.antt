-- Loading: the rule gives one register, and its numerator is p.
--
--   load_is         the register that the rule gives: its memory is -(p_r + over_to), p_r the numerator after r digits
--   rule_unique     .. and the only one
--   rule_numerator  its numerator is p
--   load_state      a valid register is the one that its numerator loads
--   load_valid      a loaded register whose memory fits is valid
use mathlib.Core.Path.{◌≡◌, refl, sym, ap, ap₂, ◌∙◌, subst}
use Prim.Native.Nat.{ℕ, ◌*◌, ◌%◌, ◌^◌, ◌≤◌, ◌<◌}
use native.Mathlib.Omega.{arith}
use lib.Pow.{pow_pos}
use lib.IntN.{ℤ, pos, nat_abs, neg_ℤ, ◌+ℤ◌, ◌-ℤ◌, ◌*ℤ◌}
use Rattle.integers.proofs.Ring.{ring2, ring4, neg, ◌⊕◌, ◌⊖◌, ◌⊗◌, ◌≔◌}
use Rattle.fractions.specs.Pairs.{Inside}
use Rattle.fractions.specs.Expansion.{iter_num, digits_to}
use Rattle.fractions.proofs.Numerators.{digits_lt, expansion_splits, split_eq}
use Rattle.taps.specs.Sums.{over_to}
use Rattle.registers.specs.Inner.{StateOf}
use Rattle.registers.specs.Registers.{cell_count, Valid, Load, y_to, num_of}
use Rattle.registers.specs.declared.Register.{Register}
use Rattle.registers.proofs.Numerators.{y_over}
use Rattle.registers.proofs.States.{cells_digits, memory_unique}

-- ---- y - p = -(p_r + over_to) 2^r, since p = a q + 2^r p_r and y = a q - 2^r over_to
pub load_is : (p : ℤ) (q a : ℕ) (m : ℤ) → q % 2 ≡ 1 → a ≡ digits_to q (cell_count q) p
    → m ≡ neg_ℤ (iter_num q (cell_count q) p +ℤ pos (over_to q a (cell_count q) (cell_count q))) → Load p q (record { q = q; cells = a; memory = m })
load_is p q a m o e k =
    let r = cell_count q in
    let R = 2 ^ cell_count q in
    let z = iter_num q r p in
    let S = over_to q a r r in
    let l : a < 2 ^ r = subst (λ (x : ℕ). x < 2 ^ r) (sym e) (digits_lt q r p) in
    let f : p ≡ pos (a * q) +ℤ z *ℤ pos R = split_eq R q p (digits_to q r p) z (expansion_splits q r p o) ∙ ap (λ (x : ℕ). pos (x * q) +ℤ z *ℤ pos R) (sym e) in
    record {
      q_is = refl;
      cells = e;
      memory =
          ap (λ (x : ℤ). x *ℤ pos R) k
          ∙ ring4 (λ z S R x. neg (z ⊕ S) ⊗ R ≔ x ⊖ R ⊗ S ⊖ (x ⊕ z ⊗ R)) tt z (pos S) (pos R) (pos (a * q))
          ∙ ap₂ (λ (y x : ℤ). y -ℤ x) (sym (y_over q a o l)) (sym f);
    }

pub rule_unique : (p : ℤ) (q : ℕ) (g h : Register) → Load p q g → Load p q h → g ≡ h
rule_unique p q g h a b =
    let R = 2 ^ cell_count q in
    let c : g.cells ≡ h.cells = a.cells ∙ sym b.cells in
    let e : g.memory *ℤ pos R ≡ h.memory *ℤ pos R = a.memory ∙ ap (λ (x : ℕ). y_to q x (cell_count q) -ℤ p) c ∙ sym b.memory in
    let m = memory_unique p g.memory h.memory R (pow_pos (cell_count q)) (ap (λ (z : ℤ). p -ℤ z) e) in
    let k = a.q_is ∙ sym b.q_is in
    λ i. record { q = k i; cells = c i; memory = m i }

pub rule_numerator : (p : ℤ) (q : ℕ) (g : Register) → Load p q g → num_of g ≡ p
rule_numerator p q g l =
    ap (λ (x : ℕ). y_to x g.cells (cell_count x) -ℤ g.memory *ℤ pos (2 ^ cell_count x)) l.q_is
    ∙ ap (λ (z : ℤ). y_to q g.cells (cell_count q) -ℤ z) l.memory
    ∙ ring2 (λ y p. y ⊖ (y ⊖ p) ≔ p) tt (y_to q g.cells (cell_count q)) p

pub load_state : (g : Register) → Valid g → Load (num_of g) g.q g
load_state g v =
    let y = y_to g.q g.cells (cell_count g.q) in
    record {
      q_is = refl;
      cells = cells_digits g v;
      memory = ring2 (λ x y. x ≔ y ⊖ (y ⊖ x)) tt (g.memory *ℤ pos (2 ^ cell_count g.q)) y;
    }

pub state_load : (p : ℤ) (q : ℕ) (g : Register) → StateOf p q g → Load p q g
state_load p q g s = subst (λ (x : ℕ). Load p x g) s.q_is (subst (λ (z : ℤ). Load z g.q g) s.numerator (load_state g s.valid))

pub load_valid : (p : ℤ) (q : ℕ) (g : Register) → Inside p q → Load p q g → nat_abs g.memory ≤ 2 ^ 30 → Valid g
load_valid p q g i l m =
    record {
      odd = subst (λ (x : ℕ). x % 2 ≡ 1) (sym l.q_is) i.odd;
      some = omega (arith, l.q_is, i.some);
      q_most = omega (arith, l.q_is, i.q_most);
      cells = subst (λ (x : ℕ). g.cells < 2 ^ cell_count x) (sym l.q_is) (subst (λ (x : ℕ). x < 2 ^ cell_count q) (sym l.cells) (digits_lt q (cell_count q) p));
      memory = m;
    }
