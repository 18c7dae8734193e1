-- `places::bit_count` meets its contract: the count of a place is the number of its bits.
use mathlib.Core.Path.{sym, ap, ◌∙◌}
use native.Mathlib.Omega.{arith}
use Rattle.places.specs.Places.{count_of}
use Rattle.places.proofs.Encode.{store_parts, burst_count}
use Rattle.places.proofs.Laws.{count_here}
use Rattle.places.proofs.bit_count.Goals as goal

pub at-requires : goal.at-requires
at-requires c = omega (arith, (store_parts c.args.store.now c.requires.store).0, c.requires.low, c.requires.high, c.place_at.ensures)

pub returns : goal.returns
returns c = count_here c.args.store.now c.place_at.result c.at.ensures c.count.ensures.0 ∙ ap (count_of c.args.store.now) c.place_at.ensures ∙ sym (burst_count c.args.meter c.requires.low c.requires.high c.args.store.now)
