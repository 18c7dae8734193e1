-- `periods::order::Modulus::power` meets its contract: r is 2 to the digits of e read so far, and each turn squares it and takes one digit more.
use Rattle.std.proofs.Common.{◌≡◌, ℕ, ◌+◌, ◌-◌, ◌/◌, ◌%◌, ◌^◌, ◌≤◌, sym, ap, ◌∙◌, mod-lt, arith}
use native.Mathlib.Nat.{div-eq_of_lt}
use Rattle.integers.proofs.Log2.{length_leading}
use Rattle.periods.proofs.Powers.{power_step}
use Rattle.periods.proofs.order.Modulus.power.Goals as goal

pub loop-i-init : goal.loop-i-init
loop-i-init c = let some : 1 ≤ c.from-c.result = omega (arith, c.args.self.odd) in
    (ap (λ (k : ℕ). 2 ^ k % c.from-c.result) (sym (div-eq_of_lt (length_leading c.args.e c.ranges.e.fits).holds)), mod-lt 1 some)

pub loop-i-preserved : goal.loop-i-preserved
loop-i-preserved c = let some : 1 ≤ c.from-c.result = omega (arith, c.args.self.odd) in
    let n : c.loop-i.i ≡ c.loop-i.i - 1 + 1 = omega arith in
    rw c.from.ensures (
      power_step c.args.e (c.loop-i.i - 1) c.from-c.result c.loop-i.r (c.loop-i.invariant.0 ∙ ap (λ (k : ℕ). 2 ^ (c.args.e / 2 ^ k) % c.from-c.result) n),
      mod-lt _ some,
    )
