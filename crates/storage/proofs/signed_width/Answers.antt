-- `storage::signed_width` meets its contract: a sign bit, and the bits of the larger number.
use Rattle.std.proofs.Common.{◌≡◌, ℕ, ◌∙◌, ap, max, arith, w32}
use lib.Signed.{mag}
use mir.ValLaws.{to_z-of_z}
use Rattle.storage.proofs.Widths.{length_most, width_least}
use Rattle.storage.proofs.signed_width.Goals as goal

pub overflow_add-result : goal.overflow_add-result
overflow_add-result c = record { fits = omega (arith, length_most _ _ (omega arith) c.bit_length.ensures) }

pub returns : goal.returns
returns c =
    let past = c.past_sign.ensures ∙ ap mag (to_z-of_z w32 c.args.m c.ranges.m) in
    let h = max (mag c.args.m) c.args.k in
    let larger : c.max.result ≡ h = c.max.ensures ∙ ap (λ (s : ℕ). max s c.args.k) past in
    width_least c.args.m c.args.k h c.bit_length.result (omega arith) (omega arith) (λ P a b. omega arith) (rw larger at c.bit_length.ensures)
