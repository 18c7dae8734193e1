-- What records bring to a meter, in their order.
--
--   named_append     the records of two lists that name a meter are those of the first, then those of the second
--   brought_append   the bits of more records come after those of the first
--   brought_moved    where the records stand in the block makes no difference
--   brought_join     a block behind another brings its bits after those of the first
--   brought_none     records of which none names the meter bring it nothing
--   counts_append    the counts of two lists of records add up
--   brought_count    as many bits as the counts of the records that name the meter come to
use Prim.Native.Nat.{ℕ, ◌+◌}
use mathlib.Core.Path.{◌≡◌, refl, sym, ap, ◌∙◌}
use mathlib.Core.Bool.{Bool, true, false, cond}
use mathlib.Core.List.{List, [], ◌∷◌, ◌++◌, map, flatten, append_assoc}
use native.Mathlib.Omega.{arith}
use lib.ListN.{length, length-append}
use lib.Dec.{eqb}
use Rattle.std.specs.Prelude.{Ok}
use Rattle.records.specs.Block.{Entry, Parsed, parse}
use Rattle.records.specs.Named.{named, brought, counts, moved}
use Rattle.records.proofs.Blocks.{parse_append}

pub named_append : (m : ℕ) (es fs : List Entry) → named m (es ++ fs) ≡ named m es ++ named m fs
unfolding named
named_append m [] fs = refl
named_append m (e ∷ es) fs = go (eqb e.meter m) (named_append m es fs)
  where
    go : (t : Bool) → named m (es ++ fs) ≡ named m es ++ named m fs → cond t (e ∷ named m (es ++ fs)) (named m (es ++ fs)) ≡ cond t (e ∷ named m es) (named m es) ++ named m fs
    go true h = ap (λ (x : List Entry). e ∷ x) h
    go false h = h

bits_append : (es fs : List Entry) → flatten (map (λ (e : Entry). e.bits) (es ++ fs)) ≡ flatten (map (λ (e : Entry). e.bits) es) ++ flatten (map (λ (e : Entry). e.bits) fs)
unfolding flatten
bits_append [] fs = refl
bits_append (e ∷ es) fs = ap (λ (x : List ℕ). e.bits ++ x) (bits_append es fs) ∙ sym (append_assoc e.bits _ _)

pub brought_append : (m : ℕ) (es fs : List Entry) → brought m (es ++ fs) ≡ brought m es ++ brought m fs
brought_append m es fs = ap (λ (x : List Entry). flatten (map (λ (e : Entry). e.bits) x)) (named_append m es fs) ∙ bits_append (named m es) (named m fs)

pub brought_moved : (m n : ℕ) (es : List Entry) → brought m (map (moved n) es) ≡ brought m es
unfolding named flatten
brought_moved m n [] = refl
brought_moved m n (e ∷ es) = go (eqb e.meter m) (brought_moved m n es)
  where
    go : (t : Bool) → brought m (map (moved n) es) ≡ brought m es
        → flatten (map (λ (x : Entry). x.bits) (cond t (moved n e ∷ named m (map (moved n) es)) (named m (map (moved n) es)))) ≡ flatten (map (λ (x : Entry). x.bits) (cond t (e ∷ named m es) (named m es)))
    go true h = ap (λ (x : List ℕ). e.bits ++ x) h
    go false h = h

pub brought_join : (m : ℕ) (a b : List ℕ) → (parse a).form ≡ Ok tt → (parse b).form ≡ Ok tt → brought m (parse (a ++ b)).records ≡ brought m (parse a).records ++ brought m (parse b).records
brought_join m a b p q =
    ap (λ (x : Parsed). brought m x.records) (parse_append a b p q)
    ∙ brought_append m (parse a).records (map (moved (length a)) (parse b).records)
    ∙ ap (λ (x : List ℕ). brought m (parse a).records ++ x) (brought_moved m (length a) (parse b).records)

pub brought_none : (m : ℕ) (es : List Entry) → named m es ≡ [] → brought m es ≡ []
unfolding flatten
brought_none m es e = ap (λ (x : List Entry). flatten (map (λ (y : Entry). y.bits) x)) e

length_bits : (es : List Entry) → length (flatten (map (λ (e : Entry). e.bits) es)) ≡ counts es
unfolding flatten counts
length_bits [] = refl
length_bits (e ∷ es) = length-append e.bits _ ∙ ap (λ (n : ℕ). length e.bits + n) (length_bits es)

pub brought_count : (m : ℕ) (es : List Entry) → length (brought m es) ≡ counts (named m es)
brought_count m es = length_bits (named m es)

pub counts_append : (es fs : List Entry) → counts (es ++ fs) ≡ counts es + counts fs
unfolding counts
counts_append [] fs = omega arith
counts_append (e ∷ es) fs = let h = counts_append es fs in omega arith
