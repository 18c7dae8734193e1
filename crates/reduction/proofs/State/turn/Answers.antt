-- `State::turn` meets its contract: past the bit sums stay sums and keys stay keys, so each choice is one that the record names.
use borrow.Author.Rules.{rules}
use Rattle.reduction.proofs.Moves.{within_past2, past_third, turned_even, turned_odd, doubles_even, doubles_odd}
use Rattle.reduction.proofs.State.turn.Goals as goal

pub add-requires : goal.add-requires
add-requires c = within_past2 c.requires c.past-g.ensures c.past-f.ensures

pub sub-requires : goal.sub-requires
sub-requires c = within_past2 c.requires c.past-g.ensures c.past-f.ensures

pub doubled-requires : goal.doubled-requires
doubled-requires c = doubles_even (past_third c.requires c.past-f.ensures c.past-g.ensures c.add.ensures c.sub.ensures c.smaller-s.ensures) c.smaller.ensures

pub doubled-requires-else-g-eq0 : goal.doubled-requires-else-g-eq0
doubled-requires-else-g-eq0 c =
    doubles_odd (past_third c.requires c.past-f.ensures c.past-g.ensures c.add.ensures c.sub.ensures c.smaller-s.ensures) c.smaller-else-g-eq0.ensures

pub returns-then-g-eq0 : goal.returns-then-g-eq0
returns-then-g-eq0 c =
    turned_even (past_third c.requires c.past-f.ensures c.past-g.ensures c.add.ensures c.sub.ensures c.smaller-s.ensures) (search rules) c.if-g-eq0.true
    c.smaller.ensures c.doubled.ensures c.halved.ensures

pub returns-else-g-eq0 : goal.returns-else-g-eq0
returns-else-g-eq0 c =
    turned_odd (past_third c.requires c.past-f.ensures c.past-g.ensures c.add.ensures c.sub.ensures c.smaller-s.ensures) (search rules) c.if-g-eq0.false
    c.smaller-else-g-eq0.ensures c.doubled-else-g-eq0.ensures c.halved-else-g-eq0.ensures
