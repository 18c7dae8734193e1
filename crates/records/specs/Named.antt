-- The words that the laws on blocks are stated in. Of the contracts only the two-antenna reader's cite one: `named`.
--
--   named m es         the records that name a meter, in block order
--   bytes_of block e    a record's own bytes: from its first to the last before the next record
--   own_bytes block m   the bytes of each record of a block that names the meter, in block order
--   brought m es       the bits that records bring to a meter: those of the records that name it, in order
--   counts es          the sum of the counts of records
--   moved n e          the same record n bytes further on
use Rattle.std.specs.Prelude.{ℕ, ◌+◌, ◌-◌, cond, length, take, drop, eqb}
use mathlib.Core.List.{List, [], ◌∷◌, map, flatten}
use Rattle.records.specs.Block.{Entry, parse}

unfoldable pub named : ℕ → List Entry → List Entry
named m [] = []
named m (e ∷ es) = cond (eqb e.meter m) (e ∷ named m es) (named m es)

abbrev pub bytes_of : List ℕ → Entry → List ℕ
bytes_of block e = take (e.next - e.at) (drop e.at block)

abbrev pub own_bytes : List ℕ → ℕ → List (List ℕ)
own_bytes block m = map (bytes_of block) (named m (parse block).records)

abbrev pub brought : ℕ → List Entry → List ℕ
brought m es = flatten (map (λ (e : Entry). e.bits) (named m es))

unfoldable pub counts : List Entry → ℕ
counts [] = 0
counts (e ∷ es) = length e.bits + counts es

abbrev pub moved : ℕ → Entry → Entry
moved n e = record { at = n + e.at; start = n + e.start; next = n + e.next; meter = e.meter; bits = e.bits }
