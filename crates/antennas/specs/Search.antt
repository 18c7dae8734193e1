-- What the search through one block comes to; only a private function's contract cites it.
--
--   Sought antenna records ordinal r   r tells of the ordinal-th of the records, or that there are fewer
use Rattle.std.specs.Prelude.{ℕ, ◌<◌, List, length}
use Rattle.records.specs.Block.{Entry}
use Rattle.std.specs.Prelude.{Ok, Err}
use Rattle.antennas.specs.declared.Antenna.{Antenna}
use Rattle.antennas.specs.declared.Refusal.TheVariants.{NoRecord}
use Rattle.antennas.specs.Antennas.{About, Nth, seen_of}

pub data Sought (antenna : Antenna) (es : List Entry) (ordinal : ℕ) : About → Type 0 where
  sought : {e : Entry} → Nth ordinal es e → Sought antenna es ordinal (Ok (seen_of antenna e))
  fewer : length es < ordinal → Sought antenna es ordinal (Err NoRecord)
