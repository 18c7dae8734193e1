-- `places::is_store` meets its contract: the bytes are 32 places, and each is judged by its own bytes.
use Prim.Native.Nat.{ℕ, ◌/◌}
use mathlib.Core.Path.{◌≡◌, sym, ap, ◌∙◌}
use native.Mathlib.Omega.{arith}
use lib.ListN.{length}
use borrow.Author.Tests.{eq-eqb}
use Rattle.std.specs.List.{list_all}
use Rattle.std.specs.Simd.{first_chunks}
use Rattle.records.specs.Block.{meters}
use Rattle.records.proofs.Cond.{yes}
use Rattle.places.specs.Places.{place_size, store_size, is_place, is_store}
use Rattle.places.proofs.Laws.{each_place}
use Rattle.places.proofs.is_store.Goals as goal

pub returns-then-store-eq-STORE_SIZE : goal.returns-then-store-eq-STORE_SIZE
unfolding is_store
returns-then-store-eq-STORE_SIZE c =
    let s = c.args.store.now in
    let n : length s / place_size ≡ meters = omega (arith, c.if-store-eq-STORE_SIZE.true) in
    c.all_sound.ensures ∙ ap (list_all (λ p. is_place p 0)) c.as_chunks.ensures.front ∙ ap (λ (k : ℕ). list_all (λ p. is_place p 0) (first_chunks place_size k s)) n
    ∙ each_place meters s 0 ∙ sym (yes _ _ (eq-eqb (length s) store_size c.if-store-eq-STORE_SIZE.true))
