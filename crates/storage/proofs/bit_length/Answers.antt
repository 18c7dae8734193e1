-- `storage::bit_length` meets its contract: all 32 bits but the zeros above the highest one.
use native.Mathlib.Omega.{arith}
use Rattle.integers.proofs.Log2.{length_leading}
use Rattle.storage.proofs.bit_length.Goals as goal

pub returns : goal.returns
returns c = length_leading c.args.n (omega arith)
