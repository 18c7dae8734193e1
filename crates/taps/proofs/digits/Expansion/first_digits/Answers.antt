-- `taps::digits::Expansion::first_digits` meets its contract: after i turns the digits are the first i, and what is left is the numerator after them.
use Rattle.std.proofs.Common.{ℕ, arith, refl, sym, ap₂, ◌∙◌, ℤ}
use Rattle.fractions.specs.Expansion.{next_num, iter_num, digits_to}
use Rattle.fractions.proofs.Numerators.{digits_more, numerators_more}
use Rattle.taps.proofs.Expanding.{added}
use Rattle.taps.proofs.digits.Expansion.first_digits.Goals as goal

pub loop-i-init : goal.loop-i-init
unfolding digits_to iter_num
loop-i-init c = (refl, refl, refl)

pub overflow_add-bits : goal.overflow_add-bits
overflow_add-bits c =
    let v = c.loop-i.invariant in
    let k = added c.args.self.q c.loop-i.i c.args.self.p (omega arith) in
    record { fits = rw (v.1, c.next.ensures.digit, v.2, k.0) (omega (arith, k.1)) }

pub loop-i-preserved : goal.loop-i-preserved
loop-i-preserved c =
    let q = c.args.self.q in
    let p = c.args.self.p in
    let v = c.loop-i.invariant in
    let k = added q c.loop-i.i p (omega arith) in (
      c.next.ensures.q ∙ v.0,
      rw (v.1, c.next.ensures.digit, v.2, k.0) (sym (digits_more q c.loop-i.i p)),
      c.next.ensures.p ∙ ap₂ (λ (q : ℕ) (z : ℤ). next_num q z) v.0 v.2 ∙ sym (numerators_more q c.loop-i.i p),
    )
