-- The flat answers of the C interface. Their numbers are those of the library's own relations (Learns, LearnsMeter, ReadsBack, Loads, Steps, Walks, Sheets,
-- Periods, Outputs, Whitens, Reads); what is added is taking a block and reading two in flat numbers.
--
--   Takes s b number place t     the number and the place of the answer to taking the block b into the store s, and the store t afterwards
--   Reading first second meter ordinal refusal ..   the six numbers of the answer to reading one record out of two antennas' blocks
use Rattle.std.specs.Prelude.{◌≡◌, List, ℕ}
use Rattle.store.specs.Taking.{take_of, number_of, place_of}
use Rattle.antennas.specs.Antennas.{About, Reads}

pub record Takes (s b : List ℕ) (number place : ℕ) (t : List ℕ) : Type 0 where
  pub number_is : number ≡ number_of (take_of s b).answer
  pub place_is : place ≡ place_of (take_of s b).answer
  pub store_is : t ≡ (take_of s b).store

pub record Reading (first second : List ℕ) (meter ordinal refusal place count antenna start size : ℕ) : Type 0 where
  pub about : About
  pub reads : Reads first second meter ordinal about refusal place count antenna start size
