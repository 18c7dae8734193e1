-- `walking::lead_in` meets its contract: d is the distance after n steps and none before was 0; below 2^61 it is 0 after 61 steps.
use Rattle.std.proofs.Common.{w64, arith}
use mir.ValLaws.{to_z-of_z}
use Rattle.walking.proofs.LeadIn.{leads_start, leads_few, leads_step, leads_end, enters_within}
use Rattle.walking.proofs.lead_in.Goals as goal

pub loop-d-init : goal.loop-d-init
loop-d-init c =
    let back = to_z-of_z w64 _ c.ranges.p in
    rw back (leads_start _ _ _ c.requires.0 c.requires.1 (rw back at c.distance-d.ensures))

pub overflow_add-n : goal.overflow_add-n
overflow_add-n c = record { fits = omega (arith, leads_few _ _ _ _ c.loop-d.invariant c.loop-d-test.true) }

pub loop-d-smaller : goal.loop-d-smaller
loop-d-smaller c = omega (arith, leads_few _ _ _ _ c.loop-d.invariant c.loop-d-test.true)

pub loop-d-preserved : goal.loop-d-preserved
loop-d-preserved c = leads_step _ _ _ _ _ c.loop-d.invariant c.loop-d-test.true c.step_nearer-d.ensures

pub returns : goal.returns
returns c =
    let e = rw (to_z-of_z w64 _ c.ranges.p) at (leads_end _ _ _ _ c.loop-d.invariant (λ h. omega arith)) in
    (enters_within _ 61 _ _ c.requires.0 c.requires.1 e, e)
