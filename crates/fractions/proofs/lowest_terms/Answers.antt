-- `fractions::lowest_terms` meets its contract: what divides both numbers most is divided out.
use Rattle.std.proofs.Common.{◌/◌, ℤ, sym, ◌∙◌, subst, w64}
use mir.ValLaws.{to_z-of_z}
use Rattle.fractions.specs.Inner.{Reduced}
use Rattle.fractions.proofs.Lowest.{reduced_by}
use Rattle.fractions.proofs.lowest_terms.Goals as goal

pub returns : goal.returns
returns c = let back = to_z-of_z w64 c.args.p c.ranges.p in
    let size = rw back at c.unsigned_abs-size.ensures.value in
    let p_is = to_z-of_z w64 c.with_sign.result (record { sfits = c.with_sign.type_inv }) ∙ rw back at c.with_sign.ensures in
    subst (λ (z : ℤ). Reduced c.args.p c.args.q z (c.args.q / c.gcd-d.result)) (sym p_is)
    (reduced_by c.args.p c.args.q c.unsigned_abs-size.result c.gcd-d.result c.requires.0 size c.gcd-d.ensures)
