-- `whitening::Expansion::new` meets its contract: the numerator of a valid register is below 2^61 in size, so that nothing wraps.
use Rattle.std.proofs.Common.{◌≡◌, ◌^◌, ◌<◌, ℤ, pos, ◌+ℤ◌, ◌-ℤ◌, nat_abs, FitsSigned, to_z, of_z, w64, Fits, arith, rules}
use Rattle.std.proofs.lemmas.Int.{ints}
use lib.Dec.{T}
use lib.Signed.{non_neg}
use mir.ValLaws.{to_z-of_z}
use Rattle.integers.proofs.Sizes.{back64}
use Rattle.registers.specs.Registers.{Valid, num_of}
use Rattle.registers.specs.declared.Register.{Register}
use Rattle.registers.proofs.States.{numerator_small}
use Rattle.fractions.proofs.Carrying.{inverse_of}
use Rattle.whitening.proofs.expansion.Expansion.new.Goals as goal

-- p + 2^62, as the code has it
record Raised (p : ℤ) : Type 0 where
  back : to_z w64 (of_z w64 p) ≡ p
  fits : FitsSigned w64 (p +ℤ pos (2 ^ 62))
  cast : T (non_neg (p +ℤ pos (2 ^ 62))) × Fits w64 (nat_abs (p +ℤ pos (2 ^ 62)))
  small : nat_abs (p +ℤ pos (2 ^ 62)) < 2 ^ 63
  lowered : pos (nat_abs (p +ℤ pos (2 ^ 62))) -ℤ pos (2 ^ 62) ≡ p

raised : (p : ℤ) → nat_abs p < 2 ^ 61 → Raised p
raised p h = record { back = back64 p (omega arith); fits = omega (arith, ints); cast = search (rules, ints); small = omega (arith, ints); lowered = omega (arith, ints) }

raised_of : (g : Register) → Valid g → Raised (num_of g)
raised_of g v = raised (num_of g) (numerator_small g v)

pub overflow_add-result : goal.overflow_add-result
overflow_add-result c = let r = raised_of c.args.v.register c.args.v.valid in rw (c.numerator-p.ensures, r.back) r.fits

pub overflow_cast-result-2 : goal.overflow_cast-result-2
overflow_cast-result-2 c = let r = raised_of c.args.v.register c.args.v.valid in rw (c.numerator-p.ensures, r.back, to_z-of_z w64 _ r.fits) r.cast

pub invariant_of-result : goal.invariant_of-result
invariant_of-result c =
    let r = raised_of c.args.v.register c.args.v.valid in
    rw (c.numerator-p.ensures, r.back, to_z-of_z w64 _ r.fits) record {
      small = r.small;
      q_small = omega (arith, c.args.v.valid.q_most);
      inverse = inverse_of c.from-q.result c.inverse.result (omega (arith, c.args.v.valid.odd, c.from-q.ensures)) c.inverse.ensures;
    }

pub returns : goal.returns
returns c =
    let r = raised_of c.args.v.register c.args.v.valid in
    rw (c.numerator-p.ensures, r.back, to_z-of_z w64 _ r.fits) (λ i. record { q = c.from-q.ensures i; p = r.lowered i })
