-- Words of private functions, and what adding bits to bytes asks of its callers; no contract of an entry point rests on them.
--
--   five_from bytes j          the number of the five bytes from byte j on, zeros past the end
--   WordFits bytes i w        a word of two bytes added at byte i stays inside the bytes there
--   MoreFits bytes have more  the bytes hold `have` bits, and have room for the bits of `more` past them
use Rattle.std.specs.Prelude.{ℕ, ◌+◌, ◌*◌, ◌%◌, ◌^◌, ◌≤◌, ◌<◌, ◌≡◌, List, length, get_or}
use Rattle.bits.specs.Bits.{num}

abbrev pub five_from : List ℕ → ℕ → ℕ
five_from bytes j = get_or bytes j 0 + 256 * get_or bytes (j + 1) 0 + 65536 * get_or bytes (j + 2) 0 + 16777216 * get_or bytes (j + 3) 0 + 4294967296 * get_or bytes (j + 4) 0

pub record WordFits (bytes : List ℕ) (i w : ℕ) : Type 0 where
  pub inside : i < length bytes
  pub low : get_or bytes i 0 + w % 256 < 256
  pub short : w < 65536
  pub next : 256 ≤ w → i + 1 < length bytes
  pub clear : 256 ≤ w → get_or bytes (i + 1) 0 ≡ 0

pub record MoreFits (bytes : List ℕ) (have : ℕ) (more : List ℕ) : Type 0 where
  pub held : num 256 bytes < 2 ^ have
  pub room : have + 8 * length more < 8 * length bytes + 8
  pub total : 2 ^ have * num 256 more < 256 ^ length bytes
