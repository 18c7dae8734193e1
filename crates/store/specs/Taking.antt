-- Taking a block, over the 32 lists of bits.
--
--   append_all              "Taking a block appends each record's bits, in block order, to its meter's place."
--   take_of s block         the answer and the store afterwards: "Block: 10, 11, then records in order ..; only when all have passed, 17".
--                          "A block is taken whole or refused whole." "A refusal returns its number and changes nothing lent."
--   Answer                  that the block was taken and nothing more, or why not
--   refusal_number, refusal_place   the number of a refusal, and its place: "the first byte of the offending record, or 0 for 10 and 11"
--   number_of x, place_of x  the number and the place of an answer, both 0 for a block that was taken
use Rattle.std.specs.Prelude.{ℕ, List, [], ◌∷◌, cond, Result, Ok, Err}
use Rattle.refusals.specs.Refusals as refusals
use Rattle.records.specs.Block as block
use Rattle.records.specs.Block.{Entry, parse, Form, form_of}
use Rattle.places.specs.Places.{is_store, bits_of, encode_all}
use Rattle.room.specs.Rooms.{Room, append_to, room_of}
use Rattle.store.specs.declared.Refusal.{Refusal}
use Rattle.store.specs.declared.Refusal.TheVariants.{NotAStore, Malformed, NoRoom}

unfoldable pub append_all : List (List ℕ) → List Entry → List (List ℕ)
append_all l [] = l
append_all l (e ∷ es) = append_all (append_to l e) es

abbrev pub Answer : Type 0
Answer = Result (Unit {0}) Refusal

pub record Took : Type 0 where
  pub answer : Answer
  pub store : List ℕ

abbrev pub on_room : Room → List ℕ → List ℕ → Took
on_room (Ok u) s t = record { answer = Ok tt; store = t }
on_room (Err x) s t = record { answer = Err (NoRoom x.at); store = s }

abbrev pub on_form : Form → List ℕ → Took → Took
on_form (Ok u) s t = t
on_form (Err x) s t = record { answer = Err (Malformed x); store = s }

unfoldable pub take_of : List ℕ → List ℕ → Took
take_of s b =
    cond (is_store s)
    (on_form (form_of b) s (on_room (room_of (bits_of s) (parse b).records) s (encode_all (append_all (bits_of s) (parse b).records))))
    (record { answer = Err NotAStore; store = s })

abbrev pub refusal_number : Refusal → ℕ
refusal_number NotAStore = 10
refusal_number (Malformed x) = block.number_of x
refusal_number (NoRoom p) = 17

abbrev pub refusal_place : Refusal → ℕ
refusal_place NotAStore = 0
refusal_place (Malformed x) = block.place_of x
refusal_place (NoRoom p) = p

abbrev pub number_of : Answer → ℕ
number_of r = refusals.number_of refusal_number r

abbrev pub place_of : Answer → ℕ
place_of (Ok u) = 0
place_of (Err x) = refusal_place x
