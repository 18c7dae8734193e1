-- `store::write_all` meets its contract: the store is the encoding of the lists so far, and what is left to append is the rest of the block.
use Rattle.store.proofs.Pass.{Writing}
use Rattle.store.proofs.write_all.Given as goal

abbrev pub invariant-loop-record : goal.invariant-loop-record
invariant-loop-record l = Writing l.initial.store l.block l.store l.record-iterator
