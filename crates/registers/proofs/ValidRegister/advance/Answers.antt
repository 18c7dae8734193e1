-- `registers::ValidRegister::advance` meets its contract: the sum is the rule's, nothing wraps since the register is valid, and half of the sum fits the memory again.
use Rattle.std.proofs.Common.{subst, sym}
use Rattle.registers.specs.Registers.{Valid}
use Rattle.registers.proofs.Validity.{facts, valid_next}
use Rattle.registers.proofs.Machine.{advanced}
use Rattle.registers.proofs.ValidRegister.advance.Goals as goal

pub invariant_of-under : goal.invariant_of-under
invariant_of-under c = let f = facts c.args.self.register c.args.self.valid in record { q_small = f.small; few = rw c.cell_count-r.ensures f.few }

pub overflow_sub-top : goal.overflow_sub-top
overflow_sub-top c = rw c.cell_count-r.ensures (facts c.args.self.register c.args.self.valid).some

pub invariant_of-result : goal.invariant_of-result
invariant_of-result c =
    let g = c.args.self.register in
    let v = c.args.self.valid in
    let is = advanced g v c.cell_count-r.ensures c.from.ensures c.tap_sum.ensures.0 c.from-2.ensures c.from-3.ensures c.half.ensures in
    record { valid = subst Valid (sym is) (valid_next g v) }

pub returns : goal.returns
returns c =
    advanced c.args.self.register c.args.self.valid c.cell_count-r.ensures c.from.ensures c.tap_sum.ensures.0 c.from-2.ensures c.from-3.ensures c.half.ensures
