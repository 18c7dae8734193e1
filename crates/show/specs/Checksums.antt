-- A checksum of bytes, by which programs print a whole store or payload in one number.
--
--   modulus            a prime, so that a change of any one byte changes the sum (law `checksum_tells`)
--   sum_from s bytes    the sum that goes on from s with these bytes
--   checksum_of bytes   the sum of all of them, from 1 on
use Rattle.std.specs.Prelude.{List, [], ◌∷◌, ℕ, ◌+◌, ◌*◌, ◌%◌}

abbrev pub modulus : ℕ
modulus = 65521

unfoldable pub sum_from : ℕ → List ℕ → ℕ
sum_from s [] = s
sum_from s (b ∷ bytes) = sum_from ((s * 31 + b) % modulus) bytes

abbrev pub checksum_of : List ℕ → ℕ
checksum_of bytes = sum_from 1 bytes
