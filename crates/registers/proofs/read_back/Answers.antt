-- `registers::read_back` meets its contract: the lowest terms of a valid register's fraction are inside the limits exactly where |p| is.
use Rattle.std.proofs.Common.{◌≡◌, ◌^◌, ◌<◌, arith, ap, ◌∙◌, subst, ℕ, ℤ, nat_abs, w64, to_z, of_z}
use Rattle.std.proofs.lemmas.Result.{err_from_is_err_and}
use Rattle.fractions.specs.Inner.{Reduced}
use Rattle.fractions.proofs.Lowest.{lowest_inside}
use Rattle.integers.proofs.Sizes.{back32, back64}
use Rattle.registers.specs.Registers.{Valid, num_of}
use Rattle.registers.specs.declared.Register.{Register}
use Rattle.registers.specs.Answers.{pair, invalid, outside}
use Rattle.registers.proofs.States.{numerator_small}
use Rattle.registers.proofs.read_back.Goals as goal

-- the machine's numerator n of g
num_back : (g : Register) (n : ℤ) → Valid g → n ≡ num_of g → (to_z w64 (of_z w64 n) ≡ num_of g) × (nat_abs (num_of g) < 2 ^ 61)
num_back g n v e =
    let small = numerator_small g v in
    (rw e (back64 (num_of g) (omega arith)), small)

-- the lowest terms of what it has, as the machine reads them back
terms : (g : Register) (n : ℤ) {w : ℕ} (p : ℤ) (q : ℕ) → Valid g → n ≡ num_of g → w ≡ g.q → Reduced (to_z w64 (of_z w64 n)) w p q
    → Reduced (num_of g) g.q p q × (to_z w64 (of_z w64 p) ≡ p)
terms g n p q v e i h =
    let num = num_back g n v e in
    let reduced = rw (num.0, i) at h in
    (reduced, back64 p (omega (arith, reduced.p_less, num.1)))

pub returns-in_err-v : goal.returns-in_err-v
returns-in_err-v c =
    let e = err_from_is_err_and c.from_residual.result c.from_residual.ensures.1 in
    rw (e.1, e.2) (invalid c.in_err-v.ensures)

pub lowest_terms-t-requires : goal.lowest_terms-t-requires
lowest_terms-t-requires c =
    let is = c.in_ok-v.ensures in
    let valid = subst Valid is c.in_ok-v.v.valid in
    let num = num_back c.args.g c.numerator.result valid (c.numerator.ensures ∙ ap num_of is) in
    rw (num.0, c.from.ensures) (valid.some, omega (arith, num.1))

pub returns-then-unsigned_abs-from : goal.returns-then-unsigned_abs-from
returns-then-unsigned_abs-from c =
    let g = c.args.g in
    let is = c.in_ok-v.ensures in
    let t = c.lowest_terms-t.result in
    let valid = subst Valid is c.in_ok-v.v.valid in
    let k = terms g c.numerator.result t.p t.q valid (c.numerator.ensures ∙ ap num_of is) c.from.ensures c.lowest_terms-t.ensures in
    let size = c.unsigned_abs.ensures.value ∙ ap nat_abs k.1 in
    let small : nat_abs t.p < 2 ^ 30 = omega (arith, size) in
    rw (k.1, back32 t.p (omega arith)) (pair valid k.0.lowest (lowest_inside (num_of g) g.q t.p t.q valid.odd valid.q_most k.0.lowest (omega arith)))

pub returns-else-unsigned_abs-from : goal.returns-else-unsigned_abs-from
returns-else-unsigned_abs-from c =
    let g = c.args.g in
    let is = c.in_ok-v.ensures in
    let t = c.lowest_terms-t.result in
    let valid = subst Valid is c.in_ok-v.v.valid in
    let k = terms g c.numerator.result t.p t.q valid (c.numerator.ensures ∙ ap num_of is) c.from.ensures c.lowest_terms-t.ensures in
    let size = c.unsigned_abs.ensures.value ∙ ap nat_abs k.1 in
    outside t.p t.q valid k.0.lowest (λ i. omega (arith, i.p_most, size))
