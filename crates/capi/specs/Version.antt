-- The version of the C interface: the one that the header names too (CJ_VERSION), which tests/header/run holds to this number.
--
--   version    0.2.0 as one number, a byte to each part: 0 · 2^16 + 2 · 2^8 + 0
use Rattle.std.specs.Prelude.{ℕ}

abbrev pub version : ℕ
version = 512
