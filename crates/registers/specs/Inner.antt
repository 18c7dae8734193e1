-- Words of private functions; no public contract cites them.
--
--   held s           the register that the state s is, which the memory may be too wide for
--   LoadsTo p q s    the rule for loading p/q gives the state s
--   StateOf p q g    g is the valid register of q whose numerator is p
--   HasState p q     there is one
use Rattle.std.specs.Prelude.{◌≡◌, ℕ, ℤ}
use Rattle.registers.specs.Registers.{Valid, Load, num_of}
use Rattle.registers.specs.declared.Register.{Register}
use Rattle.registers.specs.declared.State.{State}

abbrev pub held : State → Register
held s = record { q = s.q; cells = s.cells; memory = s.memory }

abbrev pub LoadsTo : ℤ → ℕ → State → Type 0
LoadsTo p q s = Load p q (held s)

pub record StateOf (p : ℤ) (q : ℕ) (g : Register) : Type 0 where
  pub valid : Valid g
  pub q_is : g.q ≡ q
  pub numerator : num_of g ≡ p

abbrev pub HasState : ℤ → ℕ → Type 0
HasState p q = (g : Register) × StateOf p q g
