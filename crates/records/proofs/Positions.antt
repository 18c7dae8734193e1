-- Where the records and the refusals of a block are: inside it.
--
--   Starts n entries   each of the entries begins before n
--   records_inside     every record of a block begins inside it
--   form_placed        the place of a refused block lies inside it, and is at most 16,384; it is 0 for a block that is too long
use Prim.Native.Nat.{ℕ, zero, suc, ◌+◌, ◌≤◌, ◌<◌}
use mathlib.Core.Path.{◌≡◌, refl, sym, ap, subst}
use Rattle.std.proofs.lemmas.Bool.Decides.{nat_tests}
use mathlib.Core.Bool.{Bool, true, false, cond}
use mathlib.Core.List.{List}
use native.Mathlib.Omega.{arith}
use lib.ListN.{length}
use lib.Dec.{ltb}
use borrow.Author.Tests.{ltb-false}
use Rattle.std.specs.Prelude.{Some, None, Ok, Err}
use Rattle.records.specs.declared.Refusal.{Refusal}
use Rattle.records.specs.declared.Refusal.TheVariants.{TooLong}
use Rattle.records.specs.Block.{block_bytes, place_of, Head, judged, head_at, Form, Entry, Parsed, on_head, parse_from, parse, form_of}
use Rattle.records.proofs.Standing.{found_stands}
use Rattle.records.proofs.Walk.{Each, each_of}

abbrev pub Starts : ℕ → List Entry → Type 0
Starts n es = Each (λ (e : Entry). e.at < n) es

-- ---- a refusal at a position has that position for its place
refused_at : (block : List ℕ) (at : ℕ) (x : Refusal) → head_at block at ≡ Err x → place_of x ≡ at
unfolding head_at judged
refused_at block at x e = grind (arith, nat_tests, e)

-- ---- the records
pub records_inside : (s : List ℕ) → Starts (length s) (parse s).records
records_inside s = each_of s (λ (e : Entry). e.at < length s) (λ at r i. omega (arith, i.starts, i.ends, i.last))

-- ---- the form: the place of a refused one is at most n
abbrev Placed : ℕ → Form → Type 0
Placed n (Ok u) = Unit {0}
Placed n (Err x) = place_of x ≤ n

placed_step : (s : List ℕ) (at : ℕ) (go : ℕ → Parsed) → at ≤ length s → ((n : ℕ) → n ≤ length s → Placed (length s) (go n).form) → (h : Head) → head_at s at ≡ h
    → Placed (length s) (on_head h s at go).form
placed_step s at go l k (Ok (Some r)) e = k r.next (found_stands s at r e).last
placed_step s at go l k (Err x) e = omega (arith, refused_at s at x e)
placed_step s at go l k (Ok None) e = tt

placed_from : (f : ℕ) (s : List ℕ) (at : ℕ) → at ≤ length s → Placed (length s) (parse_from f s at).form
unfolding parse_from
placed_from zero s at l = tt
placed_from (suc f) s at l = placed_step s at (parse_from f s) l (λ n h. placed_from f s n h) (head_at s at) refl

pub form_placed : (b : List ℕ) (x : Refusal) → form_of b ≡ Err x → (place_of x ≤ length b) × (place_of x ≤ block_bytes)
unfolding form_of parse
form_placed b x = go (ltb block_bytes (length b)) refl
  where
    go : (t : Bool) → ltb block_bytes (length b) ≡ t → cond t (Err TooLong) (parse_from (length b + 1) b 0).form ≡ Err x → (place_of x ≤ length b) × (place_of x ≤ block_bytes)
    go true p e = let q : place_of x ≡ 0 = let h : TooLong ≡ x = cc in sym (ap place_of h) in (omega (arith, q), omega (arith, q))
    go false p e = let h = subst (Placed (length b)) e (placed_from (length b + 1) b 0 (omega arith)) in (h, omega (arith, h, ltb-false block_bytes (length b) p))
