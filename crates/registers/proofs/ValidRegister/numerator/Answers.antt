-- `registers::ValidRegister::numerator` meets its contract: y is cells q - overflow 2^r, and a valid register's numbers are small enough for each product.
use Rattle.std.proofs.Common.{sym, w64}
use mir.ValLaws.{to_z-of_z}
use Rattle.registers.proofs.Validity.{facts}
use Rattle.registers.proofs.Numerators.{numerator_over}
use Rattle.registers.proofs.Machine.{made}
use Rattle.registers.proofs.ValidRegister.numerator.Goals as goal

pub invariant_of-under : goal.invariant_of-under
invariant_of-under c = let f = facts c.args.self.register c.args.self.valid in record { q_small = f.small; few = rw c.cell_count-r.ensures f.few }

pub overflow_mul-result : goal.overflow_mul-result
overflow_mul-result c =
    let m = made c.args.self.register c.args.self.valid c.cell_count-r.ensures c.from.ensures c.from-2.ensures c.overflow.ensures.0 c.overflow.ensures.1 c.from-3.ensures in
    rw (m.above, m.power) m.times_fits

pub overflow_sub-result : goal.overflow_sub-result
overflow_sub-result c =
    let m = made c.args.self.register c.args.self.valid c.cell_count-r.ensures c.from.ensures c.from-2.ensures c.overflow.ensures.0 c.overflow.ensures.1 c.from-3.ensures in
    rw (m.product, m.above, m.power, to_z-of_z w64 _ m.times_fits) m.whole_fits

pub returns : goal.returns
returns c =
    let m = made c.args.self.register c.args.self.valid c.cell_count-r.ensures c.from.ensures c.from-2.ensures c.overflow.ensures.0 c.overflow.ensures.1 c.from-3.ensures in
    rw (m.product, m.above, m.power, to_z-of_z w64 _ m.times_fits, to_z-of_z w64 _ m.whole_fits) (sym (numerator_over c.args.self.register c.args.self.valid))
