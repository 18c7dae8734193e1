-- `whitening::whiten_valid` meets its contract: the bytes that each loop has passed are whitened, and what is left of the expansion is the register's after them.
use Rattle.std.proofs.Common.{◌*◌}
use Rattle.bits.specs.Bits.{Below}
use Rattle.registers.specs.Registers.{iter_of}
use Rattle.whitening.proofs.Bytes.{Going}
use Rattle.whitening.proofs.whiten_valid.Given as goal

abbrev pub invariant-loop-i : goal.invariant-loop-i
invariant-loop-i l = Going l.fn.v.register l.initial.bytes (4 * l.i) l.bytes l.left × Below 256 l.initial.bytes

abbrev pub invariant-loop-byte : goal.invariant-loop-byte
invariant-loop-byte l = Going (iter_of (8 * (4 * l.words)) l.fn.v.register) l.initial.byte-items l.byte-index l.byte-items l.left
