-- `fractions::residue` meets its contract: what the machine holds of p in 64 bits is p modulo 2^64.
use Rattle.std.proofs.Common.{ℤ, sym, ap, ◌∙◌, subst, w32, w64, FitsSigned, to_z, of_z}
use mir.ValLaws.{to_z-of_z}
use mir.Facts.{sfits_widen}
use Rattle.fractions.specs.Inner.{Residue}
use Rattle.fractions.proofs.Words.{residue_wraps}
use Rattle.fractions.proofs.residue.Goals as goal

pub returns : goal.returns
returns c = let wide : FitsSigned w64 c.args.p = sfits_widen tt c.ranges.p in
    let p_is = c.from.ensures ∙ to_z-of_z w32 c.args.p c.ranges.p in
    let bits = c.cast_unsigned.ensures ∙ ap (λ (z : ℤ). of_z w64 (to_z w64 (of_z w64 z))) p_is ∙ ap (of_z w64) (to_z-of_z w64 c.args.p wide) in
    subst (Residue c.args.p) (sym bits) (residue_wraps c.args.p wide)
