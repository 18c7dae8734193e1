-- `walking::way_of` meets its contract: the first step inside, and the order of two modulo the denominator in lowest terms.
use Rattle.std.proofs.Common.{◌≡◌, ℤ, ◌^◌, ◌<◌, refl, to_z, of_z, w64, arith}
use Rattle.fractions.specs.Inner.{Reduced}
use Rattle.fractions.proofs.Lowest.{lowest_odd}
use Rattle.integers.proofs.Sizes.{back64}
use Rattle.registers.specs.Registers.{Valid, num_of}
use Rattle.registers.specs.declared.Register.{Register}
use Rattle.registers.proofs.States.{numerator_small}
use Rattle.periods.proofs.Orders.{order_most}
use Rattle.walking.proofs.Walks.{walk_of}
use Rattle.walking.proofs.way_of.Goals as goal
use Rattle.walking.proofs.way_of.Goals.{After-lowest_terms-lowest}

-- the number that the code has is the numerator
is : {n : ℤ} (g : Register) → Valid g → n ≡ num_of g → to_z w64 (of_z w64 n) ≡ num_of g
is g v e = let small = numerator_small g v in rw e (back64 (num_of g) (omega arith))

-- its lowest terms
reduced : (c : After-lowest_terms-lowest) → Reduced (num_of c.args.v.register) c.args.v.register.q c.lowest_terms-lowest.result.p c.lowest_terms-lowest.result.q
reduced c =
    let t = c.lowest_terms-lowest.result in
    let e : Reduced (to_z w64 (of_z w64 c.numerator-p.result)) c.from.result t.p t.q = c.lowest_terms-lowest.ensures in
    rw (is c.args.v.register c.args.v.valid c.numerator-p.ensures, c.from.ensures) at e

below : (c : After-lowest_terms-lowest) → c.lowest_terms-lowest.result.q < 2 ^ 30
below c = omega (arith, (reduced c).q_less, c.args.v.valid.q_most)

pub lowest_terms-lowest-requires : goal.lowest_terms-lowest-requires
lowest_terms-lowest-requires c =
    let small = numerator_small c.args.v.register c.args.v.valid in
    (omega (arith, c.args.v.valid.some), rw (is c.args.v.register c.args.v.valid c.numerator-p.ensures) (omega (arith, small)))

pub lead_in-lead_in-requires : goal.lead_in-lead_in-requires
lead_in-lead_in-requires c = (c.args.v.valid.odd, rw (is c.args.v.register c.args.v.valid c.numerator-p.ensures) (numerator_small c.args.v.register c.args.v.valid))

pub of_two-period-requires : goal.of_two-period-requires
of_two-period-requires c =
    let l = (goal.at.of_two-period-requires c).After-lowest_terms-lowest in
    (lowest_odd (reduced l).lowest c.args.v.valid.odd, below l)

pub overflow_add-result : goal.overflow_add-result
overflow_add-result c =
    let l = (goal.at.overflow_add-result c).After-lowest_terms-lowest in
    record { fits = omega (arith, below l, order_most _ _ (lowest_odd (reduced l).lowest c.args.v.valid.odd) c.of_two-period.ensures) }

pub returns : goal.returns
returns c =
    let l = (goal.at.returns c).After-lowest_terms-lowest in
    let e = rw (is c.args.v.register c.args.v.valid c.numerator-p.ensures) at c.lead_in-lead_in.ensures.1 in
    (refl, walk_of c.args.v.register c.args.v.valid (reduced l).lowest e c.of_two-period.ensures)
