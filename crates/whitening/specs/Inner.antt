-- Words of private functions; no public contract cites them.
--
--   Left        what is left of the expansion of p/q: q, and the numerator p of the digits that are left
--   left_from g  what is left for a register: the digits that it emits from now on
use Rattle.std.specs.Prelude.{ℕ, ℤ}
use Rattle.registers.specs.Registers.{num_of}
use Rattle.registers.specs.declared.Register.{Register}

pub record Left : Type 0 where
  pub q : ℕ
  pub p : ℤ

abbrev pub left_from : Register → Left
left_from g = record { q = g.q; p = num_of g }
