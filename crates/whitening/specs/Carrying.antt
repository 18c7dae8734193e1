-- How what is left of an expansion is carried: its numerator as a natural number, p + 2^62, and q with the inverse of q.
--
--   left_of e    what is left, of the fields
--   Carries e    what holds of them: nothing wraps, and the inverse is one
use Rattle.std.specs.Prelude.{◌^◌, ◌<◌, pos, ◌-ℤ◌}
use Rattle.fractions.specs.Inner.{Inverse}
use Rattle.whitening.specs.Inner.{Left}
use Rattle.whitening.specs.declared.expansion.Expansion.TheInside.{Inside}

abbrev pub left_of : Inside → Left
left_of e = record { q = e.q; p = pos e.carried -ℤ pos (2 ^ 62) }

pub record Carries (e : Inside) : Type 0 where
  pub small : e.carried < 2 ^ 63
  pub q_small : e.q < 2 ^ 30
  pub inverse : Inverse e.q e.inverse
