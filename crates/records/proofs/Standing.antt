-- A record stands at a position exactly when its bytes say so: the facts that the parser's tests come to, and back.
--
--   Stands block at r     the record r stands at `at`, whole, with correct fields
--   found_stands          where the parser finds a record, it stands
--   stands_found          where a record stands, the parser finds it
--   stands_inside         its bytes lie inside the block, and its bits' bytes inside the record
--   bytes_few             the bytes of a record's bits are as few as hold them
--   entry_bit             bit i of a record is bit i of its own bytes
--   spare_rule            the test for refusal 16 is the document's sentence: no bit of its bytes at or past the count is set
--   entry_spare           so the spare bits of a record that stands are zero
--   stands_where           a record stands wherever its bytes stand, with the same meter and bits: nothing outside them counts
use Prim.Native.Nat.{ℕ, ◌+◌, ◌-◌, ◌*◌, ◌/◌, ◌^◌, ◌≤◌, ◌<◌}
use mathlib.Core.Path.{◌≡◌, refl, sym, ap, ◌∙◌, subst}
use mathlib.Core.Logic.{◌↔◌}
use mathlib.Core.List.{List}
use native.Mathlib.Omega.{arith}
use lib.ListN.{length, get_or, drop, length-drop}
use lib.Seq.{length-take-le, get_or-take, get_or-drop, ext_get_or}
use Rattle.bits.specs.Bits.{num, digits, Below, bit_at}
use Rattle.bits.proofs.Bits.{unpacked_bit, spare_bits}
use Rattle.bits.proofs.Laws.{below-take}
use Rattle.records.specs.declared.Record.{Record}
use Rattle.std.specs.Prelude.{Some, Ok, Err}
use Rattle.std.proofs.lemmas.Bool.Decides.{nat_tests}
use Rattle.records.specs.declared.Refusal.{Refusal}
use Rattle.records.specs.Block.{header_size, meter_at, count_at, mark_word, meters, record_bits, two_bytes, bytes_for, payload, judged, head_at, entry_of}

pub record Stands (block : List ℕ) (at : ℕ) (r : Record) : Type 0 where
  pub starts : r.start ≡ at + header_size
  pub ends : r.next ≡ r.start + bytes_for r.count
  pub last : r.next ≤ length block
  pub mark_is : two_bytes block at ≡ mark_word
  pub meter_is : two_bytes block (at + meter_at) ≡ r.meter
  pub count_is : two_bytes block (at + count_at) ≡ r.count
  pub meter_low : 0 < r.meter
  pub meter_high : r.meter ≤ meters
  pub count_low : 0 < r.count
  pub count_high : r.count ≤ record_bits
  pub spare : num 256 (payload block r.start r.count) < 2 ^ r.count

-- ---- the spare bits
below-payload : (block : List ℕ) (start count : ℕ) → Below 256 block → Below 256 (payload block start count)
below-payload block start count l = below-take 256 (drop start block) (bytes_for count) (omega arith) (λ i. subst (λ (x : ℕ). x < 256) (sym (get_or-drop start block i 0)) (l (start + i)))

pub spare_rule : (block : List ℕ) (start count : ℕ) → Below 256 block
    → (num 256 (payload block start count) < 2 ^ count) ↔ ((i : ℕ) → count ≤ i → bit_at (payload block start count) i ≡ 0)
spare_rule block start count l = spare_bits (payload block start count) count (below-payload block start count l)

-- ---- from the parser's answer, and back
module _ (block : List ℕ) (at : ℕ) (r : Record) where
  pub found_stands : head_at block at ≡ Ok (Some r) → Stands block at r
  unfolding head_at judged
  found_stands e = record {
    starts = grind (arith, nat_tests, e);
    ends = grind (arith, nat_tests, e);
    last = grind (arith, nat_tests, e);
    mark_is = grind (arith, nat_tests, e);
    meter_is = grind (arith, nat_tests, e);
    count_is = grind (arith, nat_tests, e);
    meter_low = grind (arith, nat_tests, e);
    meter_high = grind (arith, nat_tests, e);
    count_low = grind (arith, nat_tests, e);
    count_high = grind (arith, nat_tests, e);
    spare = grind (arith, nat_tests, e);
  }

  pub stands_found : Stands block at r → head_at block at ≡ Ok (Some r)
  unfolding head_at judged
  stands_found s = grind (arith, nat_tests, s)

  -- ---- a record or a refusal leads on inside the block
  pub found_ahead : head_at block at ≡ Ok (Some r) → (at < r.next) × (r.next ≤ length block)
  found_ahead e = let s = found_stands e in (omega (arith, s.starts, s.ends), s.last)

  -- ---- what a record that stands keeps to
  module _ (s : Stands block at r) where
    pub stands_inside : (at < r.start) × (r.start < r.next) × (r.next ≤ length block)
    stands_inside = (omega (arith, s.starts), omega (arith, s.ends, s.count_low), s.last)

    pub payload_long : length (payload block r.start r.count) ≡ bytes_for r.count
    payload_long = length-take-le (bytes_for r.count) (drop r.start block) (rw length-drop (omega (arith, s.ends, s.last)))

    -- the byte that holds bit i lies between the record's start and its end
    pub entry_bit : Below 256 block → (i : ℕ) → i < r.count → (get_or (entry_of block at r).bits i 0 ≡ bit_at (payload block r.start r.count) i) × (r.start + i / 8 < r.next)
    entry_bit l i h =
        (unpacked_bit (payload block r.start r.count) r.count i (below-payload block r.start r.count l) h, omega (arith, s.ends))

    pub entry_spare : Below 256 block → (i : ℕ) → r.count ≤ i → bit_at (payload block r.start r.count) i ≡ 0
    entry_spare l = (spare_rule block r.start r.count l).0 s.spare

pub refused_inside : (block : List ℕ) (at : ℕ) (x : Refusal) → head_at block at ≡ Err x → at < length block
unfolding head_at
refused_inside block at x e = grind (arith, nat_tests, e)

pub bytes_few : (count : ℕ) → (count ≤ 8 * bytes_for count) × ((n : ℕ) → count ≤ 8 * n → bytes_for count ≤ n)
bytes_few count = (omega arith, λ n h. omega arith)

-- ---- a record that stands somewhere stands wherever its bytes stand: nothing outside them counts
module _ (s : List ℕ) (at : ℕ) (r : Record) (st : Stands s at r) (t : List ℕ) (to : ℕ) (long : to + (r.next - at) ≤ length t)
    (same : (i : ℕ) → i < r.next - at → get_or t (to + i) 0 ≡ get_or s (at + i) 0) where
  abbrev pub placed : Record
  placed = record { meter = r.meter; count = r.count; start = to + header_size; next = to + (r.next - at) }

  two_same : (i : ℕ) → i + 1 < r.next - at → two_bytes t (to + i) ≡ two_bytes s (at + i)
  two_same i h =
      let p : get_or t (to + i + 1) 0 ≡ get_or s (at + i + 1) 0 = ap (λ (k : ℕ). get_or t k 0) (omega arith) ∙ same (i + 1) h ∙ ap (λ (k : ℕ). get_or s k 0) (omega arith) in
      omega (arith, same i (omega arith))

  few : bytes_for r.count + header_size ≡ r.next - at
  few = omega (arith, st.starts, st.ends)

  pub payload_where : payload t (to + header_size) r.count ≡ payload s r.start r.count
  payload_where =
      let n = bytes_for r.count in
      let p : length (payload t (to + header_size) r.count) ≡ n = length-take-le n (drop (to + header_size) t) (rw length-drop (omega (arith, few))) in
      ext_get_or 0 (payload t (to + header_size) r.count) (payload s r.start r.count) (p ∙ sym (payload_long s at r st))
      (λ i h.
      get_or-take n (drop (to + header_size) t) i 0 (omega arith) ∙ get_or-drop (to + header_size) t i 0
      ∙ ap (λ (k : ℕ). get_or t k 0) (omega arith) ∙ same (header_size + i) (omega (arith, few)) ∙ ap (λ (k : ℕ). get_or s k 0) (omega (arith, st.starts))
      ∙ sym (get_or-take n (drop r.start s) i 0 (omega arith) ∙ get_or-drop r.start s i 0))

  pub stands_where : Stands t to placed
  stands_where = record {
    starts = refl;
    ends = omega (arith, few);
    last = long;
    mark_is = ap (λ (k : ℕ). two_bytes t k) (omega arith) ∙ two_same 0 (omega (arith, few)) ∙ ap (λ (k : ℕ). two_bytes s k) (omega arith) ∙ st.mark_is;
    meter_is = two_same meter_at (omega (arith, few)) ∙ st.meter_is;
    count_is = two_same count_at (omega (arith, few)) ∙ st.count_is;
    meter_low = st.meter_low;
    meter_high = st.meter_high;
    count_low = st.count_low;
    count_high = st.count_high;
    spare = subst (λ (x : List ℕ). num 256 x < 2 ^ r.count) (sym payload_where) st.spare;
  }

  pub bits_where : (entry_of t to placed).bits ≡ (entry_of s at r).bits
  bits_where = ap (λ (x : List ℕ). digits 2 r.count (num 256 x)) payload_where
