-- `registers::is_valid` meets its contract: each test fails one part of what valid means, and all together are it.
use Rattle.std.proofs.Common.{◌≡◌, ◌*◌, ◌%◌, ◌^◌, arith, sym, ◌∙◌}
use Rattle.std.proofs.lemmas.Bool.Decides.{nat_tests}
use Rattle.registers.specs.Registers.{cell_count}
use Rattle.registers.proofs.Validity.{few, shifted}
use Rattle.registers.proofs.is_valid.Goals.{then-g-le-LIMIT, else-g-le-LIMIT}
use Rattle.registers.proofs.is_valid.Goals as goal

pub overflow_shl-cell_count : goal.overflow_shl-cell_count
overflow_shl-cell_count c = omega (arith, few c.args.g.q (omega arith))

pub returns-else-g-cell_count : goal.returns-else-g-cell_count
returns-else-g-cell_count c = rw c.if-g-cell_count.false (λ v. elim c.if-g-le-LIMIT.branch [
  | then-g-le-LIMIT w ↦
      (let room : 1 * 2 ^ w.cell_count.result % 2 ^ 32 ≡ 2 ^ cell_count c.args.g.q =
      rw w.cell_count.ensures (shifted (cell_count c.args.g.q) (omega (arith, few c.args.g.q (omega arith)))) in
      let tested = sym w.value-is ∙ c.if-g-cell_count.false in
      absurd (grind (arith, nat_tests, room, v.cells, tested)))
  | else-g-le-LIMIT w ↦ absurd (omega (arith, v.odd, v.q_most))
])
