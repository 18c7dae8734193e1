-- `taps::sums::Cells::over_taps` meets its contract: before the turn of k the sum is that over the first k - 1 taps.
use Rattle.std.proofs.Common.{◌≡◌, ◌+◌, ◌-◌, ◌*◌, ◌^◌, ◌≤◌}
use Rattle.taps.specs.Sums.{parts_to}
use Rattle.taps.proofs.sums.Cells.over_taps.Given as goal

abbrev pub invariant-loop-k : goal.invariant-loop-k
invariant-loop-k g l = (l.k ≤ l.self.r + 1) × (l.sum ≡ parts_to g.row.BITS l.self.q l.self.cells l.self.r (l.k - 1)) × (l.sum ≤ (l.k - 1) * 2 ^ g.row.BITS)
