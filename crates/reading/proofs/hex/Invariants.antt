-- `reading::hex` meets its contract: after i turns the digits of the first i bytes are written.
use Rattle.std.proofs.Common.{◌≡◌, ◌++◌, take}
use Rattle.reading.specs.Line.{hex_of}
use Rattle.reading.proofs.hex.Given as goal

abbrev pub invariant-loop-byte : goal.invariant-loop-byte
invariant-loop-byte l = l.out.bytes ≡ l.fn.out.bytes ++ hex_of (take l.byte-index l.bytes)
