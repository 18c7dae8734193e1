-- `show::checksum` meets its contract: the sum so far, gone on with the bytes that are left, is the sum of all.
use Rattle.std.proofs.Common.{◌≡◌, ◌<◌, drop}
use Rattle.show.specs.Checksums.{modulus, sum_from, checksum_of}
use Rattle.show.proofs.checksum.Given as goal

abbrev pub invariant-loop-b : goal.invariant-loop-b
invariant-loop-b l = (l.sum < modulus) × (sum_from l.sum (drop l.b-index l.bytes) ≡ checksum_of l.bytes)
