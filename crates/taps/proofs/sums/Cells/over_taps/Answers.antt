-- `taps::sums::Cells::over_taps` meets its contract: a turn adds the tap of k, and less than 2^BITS.
use Rattle.std.proofs.Common.{◌≡◌, ◌+◌, ◌-◌, ◌*◌, ◌^◌, ◌≤◌, arith, mul-le-mul, pow_mono}
use Rattle.taps.specs.Sums.{parts_to}
use Rattle.taps.proofs.Adding.{turn, shifted, part_le}
use Rattle.taps.proofs.sums.Cells.over_taps.Goals as goal

pub loop-k-init : goal.loop-k-init
unfolding parts_to
loop-k-init g c = omega arith

pub overflow_add-sum : goal.overflow_add-sum
overflow_add-sum g c =
    let most : 2 ^ g.row.BITS ≤ 2 ^ 32 = pow_mono {j = 32} c.requires in
    let few : (c.loop-k.k - 1) * 2 ^ g.row.BITS ≤ 30 * 2 ^ 32 = mul-le-mul {n₂ = 30} {m₂ = 2 ^ 32} (omega (arith, c.args.self.few)) most in
    rw (shifted g.row.BITS c.requires)
    (record { fits = omega (arith, c.loop-k.invariant.2, part_le c.from-tap.result c.from.result g.row.BITS) })

pub loop-k-preserved : goal.loop-k-preserved
loop-k-preserved g c =
    let s = c.args.self in
    let l = c.loop-k in
    let t = turn g.row.BITS s.q s.cells s.r l.k (l.k + 1 - 1) l.sum l.auto.k (omega arith) l.invariant.1 l.invariant.2 in
    rw (c.from-tap.ensures, c.from.ensures, shifted g.row.BITS c.requires) (omega arith, t.0, t.1)

pub returns : goal.returns
returns g c =
    let e : c.loop-k.k - 1 ≡ c.args.self.r = omega arith in
    (rw e at c.loop-k.invariant.1, rw e at c.loop-k.invariant.2)

pub returns-2 : goal.returns-2
returns-2 g c =
    let s = c.args.self in
    let l = c.loop-k in
    rw (c.from-tap.ensures, c.from.ensures, shifted g.row.BITS c.requires)
    (turn g.row.BITS s.q s.cells s.r l.k s.r l.sum l.auto.k (omega arith) l.invariant.1 l.invariant.2)
