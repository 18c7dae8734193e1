-- `by_meter::learn_meter` meets its contract: the place's part of the store holds the meter's burst, and learning's answer for it is the answer.
use mathlib.Core.Path.{sym, ◌∙◌}
use native.Mathlib.Omega.{arith}
use borrow.Author.Rules.{rules}
use Rattle.places.specs.Places.{burst, HasPlace}
use Rattle.by_meter.specs.ByMeter.{damaged, unknown}
use Rattle.places.proofs.Bursts.{part_holds, Holds}
use Rattle.places.proofs.Laws.{count_here, held_here}
use Rattle.by_meter.proofs.Answers.{place_inside, passed_on}
use Rattle.by_meter.proofs.learn_meter.Goals as goal

pub returns-then-not-is_store : goal.returns-then-not-is_store
returns-then-not-is_store c = damaged (sym c.is_store.ensures ∙ c.if-not-is_store.true)

pub returns-then-not-contains : goal.returns-then-not-contains
returns-then-not-contains c = unknown (sym c.is_store.ensures ∙ c.if-not-is_store.false) (grind (arith, c.if-not-contains.true))

pub at-place-requires : goal.at-place-requires
at-place-requires c = place_inside (λ i. (c.type_inv.store i).fits) (search rules) c.place_at.ensures

pub returns : goal.returns
returns c =
    let a : HasPlace c.args.store.now c.args.meter = search rules in
    let store = c.args.store.now in
    let holds : Holds c.bits.result.now c.count.result (burst store c.args.meter) =
    part_holds _ _ (λ i. (c.type_inv.store i).fits) a.store a.low a.high _ _ _
    (held_here store c.place_at.result c.at-place.ensures c.bits.ensures) c.place_at.ensures (count_here store c.place_at.result c.at-place.ensures c.count.ensures.0) in
    passed_on _ _ _ _ a holds c.learn.result c.map_err.result c.learn.ensures c.map_err.ensures.cases (λ e d k. search rules)
