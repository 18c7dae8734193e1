-- `records::form_of` meets its contract: what is left to parse has the form that the whole block has.
use mathlib.Core.Path.{◌≡◌}
use Rattle.records.specs.Block.{form_of}
use Rattle.records.proofs.Walk.{Left}
use Rattle.records.proofs.form_of.Given as goal

abbrev pub invariant-loop-record : goal.invariant-loop-record
invariant-loop-record l = Left (λ rest. rest.form ≡ form_of l.block) l.block l.record-iterator
