-- `capi::cj_read` meets its contract: `read_about`'s own relation, at the fields of the flat answer; `read_within` keeps each of them below 2^32.
use mathlib.Core.List.{List}
use Prim.Native.Nat.{ℕ}
use native.Mathlib.Omega.{arith}
use Rattle.antennas.specs.Antennas.{About, Read}
use Rattle.antennas.proofs.Laws.{read_within}
use Rattle.flat.specs.Flat.{NarrowRecord}
use Rattle.capi.proofs.cj_read.Goals as goal

narrow : {first second : List ℕ} {meter ordinal : ℕ} {x : About} → Read first second meter ordinal x → NarrowRecord x
narrow {first} {second} {meter} {ordinal} {x} h =
    let w = read_within first second meter ordinal x h in
    record { place_narrow = omega (arith, w.place_low); count_narrow = omega (arith, w.count_few); start_narrow = omega (arith, w.in_block); length_narrow = omega (arith, w.in_block) }

pub from_about-requires : goal.from_about-requires
from_about-requires c = narrow c.read_about.ensures
