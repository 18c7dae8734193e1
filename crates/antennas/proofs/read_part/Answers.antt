-- `antennas::read_part` meets its contract: the part is cut where the twin's answer says, which lies inside the block of its antenna.
use Rattle.std.proofs.Common.{Bor, List, ℕ, length, ap}
use native.Mathlib.Omega.{arith}
use Rattle.antennas.proofs.Given.{part_inside}
use Rattle.antennas.proofs.read_part.Goals as goal
use Rattle.antennas.proofs.read_part.Goals.{in-First, in-Second}

pub overflow_add-result : goal.overflow_add-result
overflow_add-result c =
    elim c.match-seen.branch [
      | in-First w ↦ omega (arith, part_inside c.read_about.ensures c.in-Ok.is w.in-First.is)
      | in-Second w ↦ omega (arith, part_inside c.read_about.ensures c.in-Ok.is w.in-Second.is)
    ]

pub slice_bounds-result-end-2 : goal.slice_bounds-result-end-2
slice_bounds-result-end-2 c =
    elim c.match-seen.branch [
      | in-First w ↦ omega (arith, part_inside c.read_about.ensures c.in-Ok.is w.in-First.is, ap (λ (b : Bor (List ℕ)). length b.now) w.block-is)
      | in-Second w ↦ omega (arith, part_inside c.read_about.ensures c.in-Ok.is w.in-Second.is, ap (λ (b : Bor (List ℕ)). length b.now) w.block-is)
    ]
