-- The record block, in the words of the document's section "Record block and store" and of its table "Numbers for no".
--
--   header_size meter_at count_at   the sizes of "mark 5A C3; meter number, two bytes ..; bit count, two bytes", and where the two stand
--   mark_word meters record_bits block_bytes   "5A C3", "1 to 32", "1 to 512", "0 to 16,384 bytes"
--   two_bytes bytes at            "two bytes, high byte first"
--   bytes_for count               "then the bits in as few bytes as hold them"
--   payload block start count    the bytes that hold a record's bits
--   number_of x, place_of x        the number of a refusal, and its place: "the first byte of the offending record, or 0 for 10 and 11"
--   judged                        a record by its header, or its refusal: ".. 13, 14, 15, 12 (bits past end), 16"
--   head_at block at              the record at a position, or its refusal, or that the block ends: "each 12 (short header), 13, 14, 15, 12 (bits past end), 16"
--   Entry, entry_of               a record as its readers see it: where it begins, where its bits start, where the next record begins, its meter and its bits
--   parse block                  "records end to end", up to the end of the block or the first refusal
--   form_of block                 "11, then records in order"
--   Head, Form                    what stands at a position, and what the form of a block is; each may be a refusal
use Rattle.std.specs.Prelude.{ℕ, zero, suc, ◌+◌, ◌-◌, ◌*◌, ◌/◌, ◌^◌, List, [], ◌∷◌, cond, length, get_or, take, drop, ltb, leb, eqb, Option, Some, None, Result, Ok, Err}
use Rattle.bits.specs.Bits.{num, digits}
use Rattle.records.specs.declared.Record.{Record}
use Rattle.records.specs.declared.Refusal.{Refusal}
use Rattle.records.specs.declared.Refusal.TheVariants.{TooLong, ShortHeader, WrongMark, BadMeter, BadCount, RunsPast, SpareBit}

abbrev pub header_size : ℕ
header_size = 6

abbrev pub meter_at : ℕ
meter_at = 2

abbrev pub count_at : ℕ
count_at = 4

abbrev pub mark_word : ℕ
mark_word = 23235

abbrev pub meters : ℕ
meters = 32

abbrev pub record_bits : ℕ
record_bits = 512

abbrev pub block_bytes : ℕ
block_bytes = 16384

abbrev pub two_bytes : List ℕ → ℕ → ℕ
two_bytes bytes at = 256 * get_or bytes at 0 + get_or bytes (at + 1) 0

abbrev pub bytes_for : ℕ → ℕ
bytes_for count = (count + 7) / 8

abbrev pub payload : List ℕ → ℕ → ℕ → List ℕ
payload block start count = take (bytes_for count) (drop start block)

abbrev pub number_of : Refusal → ℕ
number_of TooLong = 11
number_of (ShortHeader p) = 12
number_of (WrongMark p) = 13
number_of (BadMeter p) = 14
number_of (BadCount p) = 15
number_of (RunsPast p) = 12
number_of (SpareBit p) = 16

abbrev pub place_of : Refusal → ℕ
place_of TooLong = 0
place_of (ShortHeader p) = p
place_of (WrongMark p) = p
place_of (BadMeter p) = p
place_of (BadCount p) = p
place_of (RunsPast p) = p
place_of (SpareBit p) = p

abbrev pub Head : Type 0
Head = Result (Option Record) Refusal

abbrev pub Form : Type 0
Form = Result (Unit {0}) Refusal

-- a whole header, by its three numbers; that the number of the bytes is below 2 to the count says "spare high bits of the last byte zero" (law `spare_rule`)
unfoldable pub judged : List ℕ → ℕ → ℕ → ℕ → ℕ → Result Record Refusal
judged block at mark meter count =
    cond (eqb mark mark_word)
    (cond (eqb meter 0) (Err (BadMeter at))
    (cond (ltb meters meter) (Err (BadMeter at))
    (cond (eqb count 0) (Err (BadCount at))
    (cond (ltb record_bits count) (Err (BadCount at))
    (cond (ltb (length block - (at + header_size)) (bytes_for count)) (Err (RunsPast at))
    (cond (ltb (num 256 (payload block (at + header_size) count)) (2 ^ count))
    (Ok (record { meter = meter; count = count; start = at + header_size; next = at + header_size + bytes_for count }))
    (Err (SpareBit at))))))))
    (Err (WrongMark at))

abbrev pub head_of : Result Record Refusal → Head
head_of (Ok r) = Ok (Some r)
head_of (Err x) = Err x

unfoldable pub head_at : List ℕ → ℕ → Head
head_at block at =
    cond (leb (length block) at) (Ok None)
    (cond (ltb (length block - at) header_size) (Err (ShortHeader at))
    (head_of (judged block at (two_bytes block at) (two_bytes block (at + meter_at)) (two_bytes block (at + count_at)))))

pub record Entry : Type 0 where
  pub at : ℕ
  pub start : ℕ
  pub next : ℕ
  pub meter : ℕ
  pub bits : List ℕ

abbrev pub entry_of : List ℕ → ℕ → Record → Entry
entry_of block at r =
    record { at = at; start = r.start; next = r.next; meter = r.meter; bits = digits 2 r.count (num 256 (payload block r.start r.count)) }

-- the records of a block up to its end or the first refusal, and which of the two it was
pub record Parsed : Type 0 where
  pub records : List Entry
  pub form : Form

abbrev pub on_head : Head → List ℕ → ℕ → (ℕ → Parsed) → Parsed
on_head (Ok (Some r)) block at go = record { records = entry_of block at r ∷ (go r.next).records; form = (go r.next).form }
on_head (Ok None) block at go = record { records = []; form = Ok tt }
on_head (Err x) block at go = record { records = []; form = Err x }

-- by a number of turns, of which one more than the length is enough: each record has a byte at least
unfoldable pub parse_from : ℕ → List ℕ → ℕ → Parsed
parse_from zero block at = record { records = []; form = Ok tt }
parse_from (suc turns) block at = on_head (head_at block at) block at (parse_from turns block)

unfoldable pub parse : List ℕ → Parsed
parse block = parse_from (length block + 1) block 0

unfoldable pub form_of : List ℕ → Form
form_of block = cond (ltb block_bytes (length block)) (Err TooLong) (parse block).form
