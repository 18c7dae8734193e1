-- The walk over a block's records, as the iterator `Records` makes it.
--
--   Moves block at r next   what the walk gives at a position, and where it goes on: "records end to end", up to the end or the first refusal
--   Steps w r t             the iterator w gives r, and goes on as t over the same block
use Rattle.std.specs.Prelude.{◌≡◌, ℕ, List, length, Option, Some, None, Result, Ok, Err}
use Rattle.records.specs.declared.Record.{Record}
use Rattle.records.specs.declared.Records.{Records}
use Rattle.records.specs.declared.Refusal.{Refusal}
use Rattle.records.specs.Block.{head_at}

abbrev pub Moves : List ℕ → ℕ → Option (Result Record Refusal) → ℕ → Type 0
Moves block at None next = (head_at block at ≡ Ok None) × (next ≡ at)
Moves block at (Some (Ok r)) next = (head_at block at ≡ Ok (Some r)) × (next ≡ r.next)
Moves block at (Some (Err x)) next = (head_at block at ≡ Err x) × (next ≡ length block)

pub record Steps (w : Records) (r : Option (Result Record Refusal)) (t : Records) : Type 0 where
  pub block : t.block.now ≡ w.block.now
  pub moves : Moves w.block.now w.at r t.at
