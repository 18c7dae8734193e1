-- `reduction::search` meets its contract: after i turns the state is reduced for the first i bits, and so its entries are at most 2^i.
use mathlib.Core.Path.{sym, subst}
use Prim.Native.Nat.{ℕ}
use native.Mathlib.Omega.{arith}
use native.Mathlib.Numerals.{add-one}
use lib.Pow.{pow_mono}
use lib.IntN.{pos}
use Rattle.reduction.specs.Vectors.{vect}
use Rattle.reduction.specs.Reduced.{Turned, After}
use Rattle.reduction.proofs.States.{at_none, at_more, at_small, within_le}
use Rattle.reduction.proofs.search.Goals as goal

pub loop-i-init : goal.loop-i-init
loop-i-init c = at_none c.args.bytes.now c.start-x.ensures

pub turn-x-requires : goal.turn-x-requires
turn-x-requires c =
    let bytes = c.args.bytes.now in
    let s = at_small bytes c.loop-i.i (omega arith) c.loop-i.invariant in
    let p = pow_mono {i = c.loop-i.i} {j = 60} (omega arith) in
    (within_le p s.in_f, within_le p s.in_g, omega (arith, c.bit_at.ensures))

pub loop-i-preserved : goal.loop-i-preserved
loop-i-preserved c =
    let bytes = c.args.bytes.now in
    subst (λ (k : ℕ). After bytes k c.turn-x.result) (sym (add-one c.loop-i.i))
    (at_more bytes c.loop-i.i c.loop-i.invariant
    (subst (λ (n : ℕ). Turned (pos n) (vect c.loop-i.x.f) (vect c.loop-i.x.g) (vect c.turn-x.result.f) (vect c.turn-x.result.g)) c.bit_at.ensures c.turn-x.ensures))
