-- `room::room_for` meets its contract: the lists so far have the lengths of the counts in the store and the bits already used.
use Rattle.room.proofs.Tally.{Tallied}
use Rattle.room.proofs.room_for.Given as goal

abbrev pub invariant-loop-record : goal.invariant-loop-record
invariant-loop-record l = Tallied l.store l.block l.used l.record-iterator
