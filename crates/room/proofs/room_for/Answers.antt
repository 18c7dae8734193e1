-- `room::room_for` meets its contract: the lists so far have the lengths of the counts in the store and the bits already used.
use mathlib.Core.Path.{ap, ◌∙◌}
use native.Mathlib.Omega.{arith}
use Rattle.std.proofs.Common.{rules}
use Rattle.places.specs.Places.{count_of}
use Rattle.places.proofs.Encode.{store_parts}
use Rattle.places.proofs.Laws.{count_here}
use Rattle.room.proofs.Tally.{tallied_start, met, tallied_full, tallied_more, tallied_none, tallied_end}
use Rattle.room.proofs.room_for.Goals as goal

pub loop-record-init : goal.loop-record-init
loop-record-init c = tallied_start c.requires (search rules) (search rules)

pub overflow_sub-used : goal.overflow_sub-used
overflow_sub-used c = (met c.loop-record.invariant c.next.ensures.steps c.in-Some.is c.in-Ok.is).low

pub offset_bounds-used-record : goal.offset_bounds-used-record
offset_bounds-used-record c = let m = met c.loop-record.invariant c.next.ensures.steps c.in-Some.is c.in-Ok.is in omega arith

pub bounds-used-record : goal.bounds-used-record
bounds-used-record c = let m = met c.loop-record.invariant c.next.ensures.steps c.in-Some.is c.in-Ok.is in omega arith

pub overflow_cast-used : goal.overflow_cast-used
overflow_cast-used c = let m = met c.loop-record.invariant c.next.ensures.steps c.in-Some.is c.in-Ok.is in record { fits = omega arith }

pub overflow_add-used : goal.overflow_add-used
overflow_add-used c = let m = met c.loop-record.invariant c.next.ensures.steps c.in-Some.is c.in-Ok.is in omega arith

pub place_at-requires : goal.place_at-requires
place_at-requires c = let m = met c.loop-record.invariant c.next.ensures.steps c.in-Some.is c.in-Ok.is in (m.low, m.high)

pub at-place-requires : goal.at-place-requires
at-place-requires c = let m = met c.loop-record.invariant c.next.ensures.steps c.in-Some.is c.in-Ok.is in omega (arith, (store_parts _ c.requires).0)

pub overflow_add-count : goal.overflow_add-count
overflow_add-count c = let m = met c.loop-record.invariant c.next.ensures.steps c.in-Some.is c.in-Ok.is in omega (arith, c.count.ensures)

pub overflow_sub-result : goal.overflow_sub-result
overflow_sub-result c = (met c.loop-record.invariant c.next.ensures.steps c.in-Some.is c.in-Ok.is).start

pub returns-then-count-from-gt-MOST_BITS : goal.returns-then-count-from-gt-MOST_BITS
returns-then-count-from-gt-MOST_BITS c =
    let n = count_here c.args.store.now c.place_at.result c.at-place.ensures c.count.ensures.0 ∙ ap (count_of c.args.store.now) c.place_at.ensures in
    tallied_full c.loop-record.invariant c.next.ensures.steps c.in-Some.is c.in-Ok.is n (rw c.from.ensures at c.if-count-from-gt-MOST_BITS.true)

pub loop-record-preserved : goal.loop-record-preserved
loop-record-preserved c =
    let n = count_here c.args.store.now c.place_at.result c.at-place.ensures c.count.ensures.0 ∙ ap (count_of c.args.store.now) c.place_at.ensures in
    tallied_more c.loop-record.invariant c.next.ensures.steps c.in-Some.is c.in-Ok.is n (rw c.from.ensures at c.if-count-from-gt-MOST_BITS.false)

pub returns-in-None : goal.returns-in-None
returns-in-None c = tallied_end c.loop-record.invariant c.next.ensures.steps c.in-None.is

pub returns-in_default : goal.returns-in_default
returns-in_default c = tallied_none c.loop-record.invariant c.next.ensures.steps c.in-Some.is c.in_default.is
