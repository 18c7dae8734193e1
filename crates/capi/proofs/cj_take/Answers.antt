-- `capi::cj_take` meets its contract: number and place are those of the answer of `take`, and a place is at most 16,384.
use mathlib.Core.Path.{◌≡◌, ap}
use mathlib.Core.List.{List}
use Prim.Native.Nat.{ℕ}
use native.Mathlib.Omega.{arith}
use Rattle.store.specs.Taking.{Answer, take_of, place_of}
use Rattle.store.proofs.Positions.{take_place}
use Rattle.flat.specs.Flat.{NarrowPlace}
use Rattle.capi.proofs.cj_take.Goals as goal

narrow : (s b : List ℕ) {x : Answer} → x ≡ (take_of s b).answer → NarrowPlace x
narrow s b e = omega (arith, take_place s b, ap place_of e)

pub from_taken-requires : goal.from_taken-requires
from_taken-requires c = narrow c.args.store.now c.args.block.now c.take.ensures.0
