-- Several reads of one input: of known bytes they consume what they put, one read's bytes behind the other's.
use mathlib.Core.Path.{◌≡◌, sym, ap, ◌∙◌, subst}
use mathlib.Core.List.{List, ◌++◌}
use Prim.Native.Nat.{ℕ, ◌+◌, ◌≤◌}
use lib.ListN.{length, take}
use lib.Seq.{take_at, drop_at, take-add, take-append-le, length-take-le}
use borrow.Rule.Slice.PartMut.{put_mid, post_of}
use Rattle.std.specs.Prelude.{Option}
use Rattle.std.specs.Io.KnownBytes.{Consumes}
use Rattle.std.proofs.KnownBytes.{Consumes-trans}

-- one read more, into the room behind what was read
pub read_more : (old mid new : Option (List ℕ)) (xs ys : List ℕ) (d k n : ℕ) → d ≤ length xs → n ≤ length ys → Consumes old mid (take d xs) → Consumes mid new (take n ys)
    → Consumes old new (take (d + n) (put_mid d k xs ys))
read_more old mid new xs ys d k n h f c r =
    subst (Consumes old new) (sym (take_through)) (Consumes-trans old mid new (take d xs) (take n ys) c r)
  where
    take_through : take (d + n) (put_mid d k xs ys) ≡ take d xs ++ take n ys
    take_through =
        take-add d n (put_mid d k xs ys)
        ∙ (λ i. take_at (take d xs) (ys ++ post_of d k xs) d (length-take-le d xs h) i ++ take n (drop_at (take d xs) (ys ++ post_of d k xs) d (length-take-le d xs h) i))
        ∙ ap (λ (l : List ℕ). take d xs ++ l) (take-append-le n ys (post_of d k xs) f)
