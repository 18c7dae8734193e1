-- `registers::register_of` meets its contract: the rule for loading gives the one valid register that is known to be there.
use Rattle.std.proofs.Common.{◌≡◌, ℕ, ◌%◌, ◌^◌, ◌≤◌, ◌<◌, arith, sym, ◌∙◌, subst, ℤ, nat_abs, w64}
use mir.ValLaws.{to_z-of_z}
use Rattle.registers.specs.Registers.{Valid}
use Rattle.registers.specs.Inner.{held, LoadsTo, StateOf, HasState}
use Rattle.registers.specs.declared.Register.{Register}
use Rattle.registers.specs.declared.State.{State}
use Rattle.registers.proofs.States.{numerator_small}
use Rattle.registers.proofs.Loading.{rule_unique, state_load}
use Rattle.registers.proofs.register_of.Goals as goal

found : (p : ℤ) (q : ℕ) (h : HasState p q) (s : State) → LoadsTo p q s → held s ≡ h.0
found p q h s l = rule_unique p q (held s) h.0 l (state_load p q h.0 h.1)

pub invariant_of-whole : goal.invariant_of-whole
invariant_of-whole c =
    let s = c.requires.1 in
    let small : nat_abs c.args.p < 2 ^ 61 = subst (λ (z : ℤ). nat_abs z < 2 ^ 61) s.numerator (numerator_small c.requires.0 s.valid) in
    record { p_small = rw (to_z-of_z w64 c.args.p c.ranges.p) (omega arith); q_small = omega (arith, s.q_is, s.valid.q_most) }

pub state_of-requires : goal.state_of-requires
state_of-requires c = let s = c.requires.1 in subst (λ (x : ℕ). x % 2 ≡ 1) s.q_is s.valid.odd

pub narrow-requires : goal.narrow-requires
narrow-requires c =
    let is = found c.args.p c.args.q c.requires c.state_of.result (rw (to_z-of_z w64 c.args.p c.ranges.p) at c.state_of.ensures) in
    subst (λ (g : Register). nat_abs g.memory ≤ 2 ^ 30) (sym is) c.requires.1.valid.memory

pub invariant_of-result : goal.invariant_of-result
invariant_of-result c =
    let is = found c.args.p c.args.q c.requires c.state_of.result (rw (to_z-of_z w64 c.args.p c.ranges.p) at c.state_of.ensures) in
    record { valid = subst Valid (sym (c.narrow.ensures ∙ is)) c.requires.1.valid }

pub returns : goal.returns
returns c =
    let is = found c.args.p c.args.q c.requires c.state_of.result (rw (to_z-of_z w64 c.args.p c.ranges.p) at c.state_of.ensures) in
    subst (StateOf c.args.p c.args.q) (sym (c.narrow.ensures ∙ is)) c.requires.1
