-- `store::write_all` meets its contract: the store is the encoding of the lists so far, and what is left to append is the rest of the block.
use native.Mathlib.Omega.{arith}
use Rattle.std.proofs.Common.{rules}
use Rattle.places.proofs.Encode.{store_law}
use Rattle.places.proofs.Laws.{count_here}
use Rattle.store.proofs.Pass.{writing_start, written, fits_put, writes_put, writing_none, writing_end}
use Rattle.store.proofs.write_all.Goals as goal

pub loop-record-init : goal.loop-record-init
loop-record-init c = writing_start (store_law _ (λ i. (c.type_inv.store i).fits) c.requires.0) c.requires.1 (search rules) (search rules)

pub place_at-at-requires : goal.place_at-at-requires
place_at-at-requires c = let m = written c.loop-record.invariant c.next.ensures.steps c.in-Some.is c.in-Ok.is in (m.low, m.high)

pub at-requires : goal.at-requires
at-requires c = let m = written c.loop-record.invariant c.next.ensures.steps c.in-Some.is c.in-Ok.is in omega arith

pub slice_bounds-payload-count : goal.slice_bounds-payload-count
slice_bounds-payload-count c = (written c.loop-record.invariant c.next.ensures.steps c.in-Some.is c.in-Ok.is).ordered

pub slice_bounds-payload-start : goal.slice_bounds-payload-start
slice_bounds-payload-start c = (written c.loop-record.invariant c.next.ensures.steps c.in-Some.is c.in-Ok.is).ordered

pub slice_bounds-payload-end : goal.slice_bounds-payload-end
slice_bounds-payload-end c = (written c.loop-record.invariant c.next.ensures.steps c.in-Some.is c.in-Ok.is).inside

pub append_bits-requires : goal.append_bits-requires
append_bits-requires c =
    fits_put c.loop-record.invariant c.next.ensures.steps c.in-Some.is c.in-Ok.is c.place_at-at.ensures
    (count_here c.loop-record.store c.place_at-at.result c.at.ensures c.count-have.ensures.0)

pub loop-record-preserved : goal.loop-record-preserved
loop-record-preserved c =
    writes_put c.loop-record.invariant c.next.ensures.steps c.in-Some.is c.in-Ok.is c.place_at-at.ensures
    (count_here c.loop-record.store c.place_at-at.result c.at.ensures c.count-have.ensures.0) c.append_bits.ensures

pub returns-in-None : goal.returns-in-None
returns-in-None c = writing_end c.loop-record.invariant c.next.ensures.steps c.in-None.is

pub returns-in_default : goal.returns-in_default
returns-in_default c = writing_none c.loop-record.invariant c.next.ensures.steps c.in-Some.is c.in_default.is
