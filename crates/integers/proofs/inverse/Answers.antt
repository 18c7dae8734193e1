-- `integers::inverse` meets its contract: right modulo 4, 16, 256, 2 ^ 16, 2 ^ 32, 2 ^ 64.
use Rattle.std.proofs.Common.{refl, arith}
use Rattle.integers.proofs.Modulo.{odd_square}
use Rattle.integers.proofs.inverse.Goals as goal

pub returns : goal.returns
returns c = let a = c.newton-a.ensures 4 1152921504606846976 (omega arith) refl (odd_square c.args.q c.requires) in
    let b = c.newton-b.ensures 16 72057594037927936 (omega arith) refl a in
    let d = c.newton-c.ensures 256 281474976710656 (omega arith) refl b in
    let e = c.newton-d.ensures 65536 4294967296 (omega arith) refl d in
    c.newton.ensures 4294967296 1 (omega arith) refl e
