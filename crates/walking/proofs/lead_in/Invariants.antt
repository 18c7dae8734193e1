-- `walking::lead_in` meets its contract: d is the distance after n steps and none before was 0; below 2^61 it is 0 after 61 steps.
use Prim.Native.Nat.{◌-◌}
use Rattle.walking.proofs.LeadIn.{Leads}
use Rattle.walking.proofs.lead_in.Given as goal

abbrev pub invariant-loop-d : goal.invariant-loop-d
invariant-loop-d l = Leads l.q l.p l.n l.d

abbrev pub decreases-loop-d : goal.decreases-loop-d
decreases-loop-d l = 61 - l.n
