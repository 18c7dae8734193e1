-- `registers::state_of` meets its contract: the first r digits are the cells, and the memory is -(rest + overflow).
use Rattle.std.proofs.Common.{ℕ, ap, ap₂, ◌∙◌, ℤ, pos, neg_ℤ, ◌+ℤ◌, w64}
use mir.ValLaws.{to_z-of_z}
use Rattle.fractions.specs.Expansion.{digits_to}
use Rattle.taps.specs.Sums.{over_to}
use Rattle.registers.proofs.Validity.{few}
use Rattle.registers.proofs.Loading.{load_is}
use Rattle.registers.proofs.Machine.{rested}
use Rattle.registers.proofs.state_of.Goals as goal

pub first_digits-d-requires : goal.first_digits-d-requires
first_digits-d-requires c = rw c.cell_count-r.ensures (few c.args.whole.q c.args.whole.q_small)

pub invariant_of-under : goal.invariant_of-under
invariant_of-under c = record { q_small = c.args.whole.q_small; few = rw c.cell_count-r.ensures (few c.args.whole.q c.args.whole.q_small) }

pub overflow_add-result : goal.overflow_add-result
overflow_add-result c =
    let e = c.args.whole in
    let m = rested e.p e.q e.p_small e.q_small c.cell_count-r.ensures c.first_digits-d.ensures.1 c.overflow.ensures.1 in
    rw m.sum m.sum_fits

pub overflow_sub-result : goal.overflow_sub-result
overflow_sub-result c =
    let e = c.args.whole in
    let m = rested e.p e.q e.p_small e.q_small c.cell_count-r.ensures c.first_digits-d.ensures.1 c.overflow.ensures.1 in
    rw (m.sum, to_z-of_z w64 _ m.sum_fits) m.minus_fits

pub returns : goal.returns
returns c =
    let e = c.args.whole in
    let r_is = c.cell_count-r.ensures in
    let m = rested e.p e.q e.p_small e.q_small r_is c.first_digits-d.ensures.1 c.overflow.ensures.1 in
    let bits = c.first_digits-d.ensures.0 ∙ ap (λ (n : ℕ). digits_to e.q n e.p) r_is in
    let over = c.overflow.ensures.0 ∙ ap (λ (r : ℕ). over_to e.q c.first_digits-d.result.bits r r) r_is in
    rw (m.sum, to_z-of_z w64 _ m.sum_fits, to_z-of_z w64 _ m.minus_fits)
    (load_is e.p e.q c.first_digits-d.result.bits _ c.requires bits (m.minus ∙ ap₂ (λ (z : ℤ) (s : ℕ). neg_ℤ (z +ℤ pos s)) m.rest over))
