-- The room of a block's records, over the 32 lists of bits.
--
--   append_to l e   a record's bits "to its meter's place"
--   Room            that every record has room, or where the first begins that has not
--   room_of l es    "17, at the first record that overfills": "meter's count would pass 4,096", earlier records of the block included
use Rattle.std.specs.Prelude.{ℕ, ◌+◌, ◌-◌, List, [], ◌∷◌, ◌++◌, cond, length, get_or, set, ltb, Result, Ok, Err}
use Rattle.records.specs.Block.{Entry}
use Rattle.places.specs.Places.{most_bits}
use Rattle.room.specs.declared.Full.{Full}

abbrev pub Room : Type 0
Room = Result (Unit {0}) Full

-- meter k is place k, counted from 1
abbrev pub append_to : List (List ℕ) → Entry → List (List ℕ)
append_to l e = set l (e.meter - 1) (get_or l (e.meter - 1) [] ++ e.bits)

unfoldable pub room_of : List (List ℕ) → List Entry → Room
room_of l [] = Ok tt
room_of l (e ∷ es) =
    cond (ltb most_bits (length (get_or l (e.meter - 1) []) + length e.bits)) (Err (record { at = e.at })) (room_of (append_to l e) es)
