-- `registers::load` meets its contract: the rule for loading, with the pair tested before it and the memory after it.
use Rattle.std.proofs.Common.{arith, ap, ◌∙◌, rules, SFits, ℤ, w32, w64, to_z, of_z}
use Rattle.integers.proofs.Sizes.{back64}
use mir.ValLaws.{to_z-of_z}
use Rattle.registers.specs.Inner.{held}
use Rattle.registers.specs.Answers.{loaded, outside, wide}
use Rattle.registers.proofs.load.Goals as goal

pub returns-then-not-is_inside : goal.returns-then-not-is_inside
returns-then-not-is_inside c =
    outside c.if-not-is_inside.ensures

pub returns-then-in_range : goal.returns-then-in_range
returns-then-in_range c =
    let small : SFits w32 c.args.pair.p = search rules in
    let back = to_z-of_z w32 c.args.pair.p small in
    let inside = c.if-not-is_inside.ensures in
    let fits : SFits w64 c.state_of-s.result.memory = search rules in
    let memory = rw (to_z-of_z w64 _ fits) at c.if-in_range.ensures in
    let p_is = ap (λ (z : ℤ). to_z w64 (of_z w64 z)) (c.from.ensures ∙ back) ∙ back64 c.args.pair.p (omega (arith, inside.p_most)) in
    rw c.narrow.ensures (loaded inside (rw p_is at c.state_of-s.ensures) memory)

pub returns-else-in_range : goal.returns-else-in_range
returns-else-in_range c =
    let small : SFits w32 c.args.pair.p = search rules in
    let back = to_z-of_z w32 c.args.pair.p small in
    let inside = c.if-not-is_inside.ensures in
    let fits : SFits w64 c.state_of-s.result.memory = search rules in
    let memory = rw (to_z-of_z w64 _ fits) at c.if-in_range.ensures in
    let p_is = ap (λ (z : ℤ). to_z w64 (of_z w64 z)) (c.from.ensures ∙ back) ∙ back64 c.args.pair.p (omega (arith, inside.p_most)) in
    wide (held c.state_of-s.result) inside (rw p_is at c.state_of-s.ensures) (omega arith)
