-- The records of a well-formed block: they cover it exactly, each is known from its own bytes alone, and two such blocks may be joined.
--
--   RecordsOf block at es   the records from `at` to the end of the block, end to end
--   parse_records           a block whose parse is sound consists of its records
--   records_parse           and a block that consists of records parses to them
--   records_cover           the bytes of its records, in order, are the block: each byte once
--   record_alone            the bytes of a record by themselves parse to that record: nothing outside it counts
--   bits_own                so the bits that a meter gets are known from the bytes of its own records
--   parse_append            a block behind another: the records of both, those of the second moved on
--   form_append             and its form is sound where the two are, if it is not too long
use Prim.Native.Nat.{ℕ, zero, suc, ◌+◌, ◌-◌, ◌≤◌, ◌<◌}
use mathlib.Core.Path.{◌≡◌, refl, sym, ap, ◌∙◌, subst}
use mathlib.Core.Bool.{Bool, true, false, cond}
use mathlib.Core.List.{List, [], ◌∷◌, ◌++◌, map, flatten, append-nil}
use native.Mathlib.Omega.{arith}
use native.Mathlib.Nat.{add-zero, zero-add}
use lib.ListN.{length, get_or, take, drop, length-drop, length-append, take-append-drop, get_or-append}
use lib.Seq.{length-take-le, get_or-take, get_or-drop, drop-drop, get_or-append-add, drop-length}
use lib.Dec.{ltb, eqb}
use borrow.Author.Tests.{ltb-false, le-ltb}
use Rattle.records.specs.declared.Record.{Record}
use Rattle.records.specs.declared.Refusal.TheVariants.{TooLong}
use Rattle.std.proofs.lemmas.Bool.Decides.{nat_tests}
use Rattle.std.specs.Prelude.{Some, None, Ok, Err}
use Rattle.records.specs.Block.{header_size, block_bytes, Head, head_at, Entry, entry_of, Parsed, on_head, parse_from, parse, form_of}
use Rattle.records.specs.Named.{named, bytes_of, own_bytes, brought, moved}
use Rattle.records.proofs.Cond.{no}
use Rattle.records.proofs.Standing.{Stands, found_stands, stands_found, placed, stands_where, bits_where}

pub data RecordsOf (block : List ℕ) : ℕ → List Entry → Type 0 where
  done : {at : ℕ} → at ≡ length block → RecordsOf block at []
  next : {at : ℕ} {es : List Entry} (r : Record) → Stands block at r → RecordsOf block r.next es → RecordsOf block at (entry_of block at r ∷ es)

-- ---- the parse, and back
-- where the parser says that the block ends, no byte is left
pub end_none : (block : List ℕ) (at : ℕ) → head_at block at ≡ Ok None → length block ≤ at
unfolding head_at
end_none block at e = grind (arith, nat_tests, e)

none_end : (block : List ℕ) (at : ℕ) → length block ≤ at → head_at block at ≡ Ok None
unfolding head_at
none_end block at h = grind (arith, nat_tests, h)

module _ (block : List ℕ) where
  from_head : (f at : ℕ) → ((n : ℕ) → length block < n + f → n ≤ length block → (parse_from f block n).form ≡ Ok tt → RecordsOf block n (parse_from f block n).records)
      → length block < at + suc f → at ≤ length block → (x : Head) → head_at block at ≡ x → (on_head x block at (parse_from f block)).form ≡ Ok tt → RecordsOf block at (on_head x block at (parse_from f block)).records
  from_head f at go l h (Ok (Some r)) p q = let s = found_stands block at r p in next r s (go r.next (omega (arith, s.starts, s.ends)) s.last q)
  from_head f at go l h (Err x) p q = cc
  from_head f at go l h (Ok None) p q = done {at = at} (omega (arith, end_none block at p))

  from_parse : (f at : ℕ) → length block < at + f → at ≤ length block → (parse_from f block at).form ≡ Ok tt → RecordsOf block at (parse_from f block at).records
  unfolding parse_from
  from_parse zero at l h e = absurd (omega arith)
  from_parse (suc f) at l h e = from_head f at (λ n k j q. from_parse f n k j q) l h (head_at block at) refl e

  pub parse_records : (parse block).form ≡ Ok tt → RecordsOf block 0 (parse block).records
  unfolding parse
  parse_records = from_parse (length block + 1) 0 (omega arith) (omega arith)

  to_parse : (f at : ℕ) (es : List Entry) → length block < at + f → RecordsOf block at es → parse_from f block at ≡ record { records = es; form = Ok tt }
  unfolding parse_from
  to_parse zero at es l (done e) = absurd (omega arith)
  to_parse zero at es l (next r s k) = absurd (omega (arith, s.starts, s.ends, s.last))
  to_parse (suc f) at es l (done e) = ap (λ (x : Head). on_head x block at (parse_from f block)) (none_end block at (omega arith))
  to_parse (suc f) at es l (next {es = fs} r s k) =
      ap (λ (x : Head). on_head x block at (parse_from f block)) (stands_found block at r s)
      ∙ ap (λ (p : Parsed). record { records = entry_of block at r ∷ p.records; form = p.form }) (to_parse f r.next fs (omega (arith, s.starts, s.ends)) k)

  pub records_parse : (es : List Entry) → RecordsOf block 0 es → parse block ≡ record { records = es; form = Ok tt }
  unfolding parse
  records_parse es k = to_parse (length block + 1) 0 es (omega arith) k

  -- ---- the records cover the block
  cover_from : (at : ℕ) (es : List Entry) → RecordsOf block at es → flatten (map (bytes_of block) es) ≡ drop at block
  unfolding flatten
  cover_from at es (done e) = sym (ap (λ (n : ℕ). drop n block) e ∙ drop-length block)
  cover_from at es (next {es = fs} r s k) =
      let q : at + (r.next - at) ≡ r.next = omega (arith, s.starts, s.ends) in
      ap (λ (x : List ℕ). take (r.next - at) (drop at block) ++ x) (cover_from r.next fs k ∙ sym (drop-drop (r.next - at) at block ∙ ap (λ (n : ℕ). drop n block) q))
      ∙ take-append-drop (r.next - at) (drop at block)

  pub records_cover : (parse block).form ≡ Ok tt → flatten (map (bytes_of block) (parse block).records) ≡ block
  records_cover e = cover_from 0 (parse block).records (parse_records e)

-- ---- a record by its own bytes
alone : (x : List ℕ) (r : Record) → Stands x 0 r → r.next ≡ length x → parse x ≡ record { records = entry_of x 0 r ∷ []; form = Ok tt }
alone x r st e = records_parse x (entry_of x 0 r ∷ []) (next r st (done e))

own_byte : (block : List ℕ) (at n i : ℕ) → i < n → get_or (take n (drop at block)) (0 + i) 0 ≡ get_or block (at + i) 0
own_byte block at n i h = ap (λ (k : ℕ). get_or (take n (drop at block)) k 0) (omega arith) ∙ get_or-take n (drop at block) i 0 h ∙ get_or-drop at block i 0

pub record_alone : (block : List ℕ) (at : ℕ) (r : Record) → Stands block at r
    → parse (bytes_of block (entry_of block at r)) ≡ record { records = record { at = 0; start = r.start - at; next = r.next - at; meter = r.meter; bits = (entry_of block at r).bits } ∷ []; form = Ok tt }
record_alone block at r s =
    let n = r.next - at in
    let x = take n (drop at block) in
    let l : length x ≡ n = length-take-le n (drop at block) (rw length-drop (omega (arith, s.last))) in
    let long : 0 + n ≤ length x = omega arith in
    let same = own_byte block at n in
    let own-start : 0 + header_size ≡ r.start - at = omega (arith, s.starts) in
    alone x (placed block at r s x 0 long same) (stands_where block at r s x 0 long same) (zero-add n ∙ sym l)
    ∙ λ i. record { records = record { at = 0; start = own-start i; next = zero-add n i; meter = r.meter; bits = bits_where block at r s x 0 long same i } ∷ []; form = Ok tt }

-- the bits of the records that some bytes parse to
abbrev own_bits : List ℕ → List ℕ
own_bits x = flatten (map (λ (e : Entry). e.bits) (parse x).records)

bits_alone : (block : List ℕ) (at : ℕ) (r : Record) → Stands block at r → own_bits (bytes_of block (entry_of block at r)) ≡ (entry_of block at r).bits
unfolding flatten
bits_alone block at r s = ap (λ (p : Parsed). flatten (map (λ (e : Entry). e.bits) p.records)) (record_alone block at r s) ∙ append-nil (entry_of block at r).bits

named_own : (block : List ℕ) (m at : ℕ) (es : List Entry) → RecordsOf block at es → map own_bits (map (bytes_of block) (named m es)) ≡ map (λ (e : Entry). e.bits) (named m es)
unfolding named
named_own block m at es (done e) = refl
named_own block m at es (next {es = fs} r s k) = go (eqb r.meter m) (named_own block m r.next fs k)
  where
    go : (t : Bool) → map own_bits (map (bytes_of block) (named m fs)) ≡ map (λ (e : Entry). e.bits) (named m fs)
        → map own_bits (map (bytes_of block) (cond t (entry_of block at r ∷ named m fs) (named m fs))) ≡ map (λ (e : Entry). e.bits) (cond t (entry_of block at r ∷ named m fs) (named m fs))
    go true h = λ i. bits_alone block at r s i ∷ h i
    go false h = h

pub bits_own : (a b : List ℕ) (m : ℕ) → (parse a).form ≡ Ok tt → (parse b).form ≡ Ok tt → own_bytes a m ≡ own_bytes b m → brought m (parse a).records ≡ brought m (parse b).records
bits_own a b m p q e =
    ap flatten (sym (named_own a m 0 (parse a).records (parse_records a p)) ∙ ap (map own_bits) e ∙ named_own b m 0 (parse b).records (parse_records b q))

-- ---- a block inside another: its records stand there too, moved on
module _ (s t : List ℕ) (n : ℕ) (long : n + length s ≤ length t) (same : (i : ℕ) → i < length s → get_or t (n + i) 0 ≡ get_or s i 0) where
  moved_stands : (at : ℕ) (r : Record) (st : Stands s at r) → (l : n + at + (r.next - at) ≤ length t) × ((i : ℕ) → i < r.next - at → get_or t (n + at + i) 0 ≡ get_or s (at + i) 0)
  moved_stands at r st = (omega (arith, st.starts, st.ends, st.last), λ i h. ap (λ (k : ℕ). get_or t k 0) (omega arith) ∙ same (at + i) (omega (arith, st.last)))

  pub records_moved : (at : ℕ) (es fs : List Entry) → RecordsOf s at es → RecordsOf t (n + length s) fs → RecordsOf t (n + at) (map (moved n) es ++ fs)
  records_moved at es fs (done e) k = subst (λ (x : ℕ). RecordsOf t (n + x) fs) (sym e) k
  records_moved at es fs (next {es = gs} r st h) k =
      let m = moved_stands at r st in
      let p = placed s at r st t (n + at) m.0 m.1 in
      let w = stands_where s at r st t (n + at) m.0 m.1 in
      let q : n + at + (r.next - at) ≡ n + r.next = omega (arith, st.starts, st.ends) in
      let b : n + at + header_size ≡ n + r.start = omega (arith, st.starts) in
      let later : RecordsOf t p.next (map (moved n) gs ++ fs) = subst (λ (x : ℕ). RecordsOf t x (map (moved n) gs ++ fs)) (sym q) (records_moved r.next gs fs h k) in
      subst (λ (e : Entry). RecordsOf t (n + at) (e ∷ (map (moved n) gs ++ fs)))
      (λ i. record { at = n + at; start = b i; next = q i; meter = r.meter; bits = bits_where s at r st t (n + at) m.0 m.1 i })
      (next p w later)

moved_none : (es : List Entry) → map (moved 0) es ≡ es
moved_none [] = refl
moved_none (e ∷ es) = λ i. record { at = zero-add e.at i; start = zero-add e.start i; next = zero-add e.next i; meter = e.meter; bits = e.bits } ∷ moved_none es i

module _ (a b : List ℕ) where
  joined : (es fs : List Entry) → RecordsOf a 0 es → RecordsOf b 0 fs → RecordsOf (a ++ b) 0 (es ++ map (moved (length a)) fs)
  joined es fs h k =
      let l = length-append a b in
      let second : RecordsOf (a ++ b) (length a + 0) (map (moved (length a)) fs ++ []) =
      records_moved b (a ++ b) (length a) (omega arith) (λ i _. get_or-append-add a b i 0) 0 fs [] k (done (sym l)) in
      let first : RecordsOf (a ++ b) (0 + 0) (map (moved 0) es ++ map (moved (length a)) fs) =
      records_moved a (a ++ b) 0 (omega arith) (λ i j. ap (λ (x : ℕ). get_or (a ++ b) x 0) (zero-add i) ∙ get_or-append a b 0 i j) 0 es (map (moved (length a)) fs) h
      (subst (λ (x : ℕ). RecordsOf (a ++ b) x (map (moved (length a)) fs)) (add-zero (length a) ∙ sym (zero-add (length a))) (subst (RecordsOf (a ++ b) (length a + 0)) (append-nil (map (moved (length a)) fs)) second)) in
      subst (λ (xs : List Entry). RecordsOf (a ++ b) 0 (xs ++ map (moved (length a)) fs)) (moved_none es) first

  pub parse_append : (parse a).form ≡ Ok tt → (parse b).form ≡ Ok tt
      → parse (a ++ b) ≡ record { records = (parse a).records ++ map (moved (length a)) (parse b).records; form = Ok tt }
  parse_append p q = records_parse (a ++ b) _ (joined (parse a).records (parse b).records (parse_records a p) (parse_records b q))

-- ---- the form of a block: short enough, and records end to end
pub form_parts : (b : List ℕ) → form_of b ≡ Ok tt → (length b ≤ block_bytes) × ((parse b).form ≡ Ok tt)
unfolding form_of
form_parts b = go (ltb block_bytes (length b)) refl
  where
    go : (t : Bool) → ltb block_bytes (length b) ≡ t → cond t (Err TooLong) (parse b).form ≡ Ok tt → (length b ≤ block_bytes) × ((parse b).form ≡ Ok tt)
    go true p q = cc
    go false p q = (ltb-false block_bytes (length b) p, q)

pub form_whole : (b : List ℕ) → length b ≤ block_bytes → (parse b).form ≡ Ok tt → form_of b ≡ Ok tt
unfolding form_of
form_whole b h e = no _ _ (le-ltb block_bytes (length b) h) ∙ e

pub form_append : (a b : List ℕ) → form_of a ≡ Ok tt → form_of b ≡ Ok tt → length a + length b ≤ block_bytes
    → (form_of (a ++ b) ≡ Ok tt) × ((parse (a ++ b)).records ≡ (parse a).records ++ map (moved (length a)) (parse b).records)
form_append a b p q h =
    let e = parse_append a b (form_parts a p).1 (form_parts b q).1 in
    (form_whole (a ++ b) (rw length-append h) (ap (λ (x : Parsed). x.form) e), ap (λ (x : Parsed). x.records) e)
