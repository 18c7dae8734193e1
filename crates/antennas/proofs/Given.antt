-- The record that an answer tells of stands in the block that was used.
--
--   Standing       a record of a block's records, and the record of the parser behind it
--   Given          what an answer with a record says: the ordinal-th of the well-formed block's records that name the meter
--   asked_sought   the search answers the question
--   read_given     an answer with a record tells of one in the first block, as antenna 1, or in the second, as antenna 2
--   given_inside   its stretch lies inside that block
--   some_end ..    for `read_part`: the bytes of the part, where they end and where they lie, by the antenna
use Prim.Native.Nat.{ℕ, ◌+◌, ◌≤◌}
use mathlib.Core.Path.{◌≡◌, refl, sym, ap, ◌∙◌, subst}
use mathlib.Core.Bool.{Bool, true, false, cond}
use mathlib.Core.Logic.{◌⊎◌, inl, inr, ⊎_elim}
use mathlib.Core.List.{List, ◌∷◌}
use native.Mathlib.Omega.{arith}
use lib.ListN.{length}
use lib.Dec.{eqb}
use Rattle.bits.specs.Bits.{num}
use Rattle.bits.proofs.Numbers.{length_digits}
use Rattle.records.specs.declared.Record.{Record}
use Rattle.records.specs.Block.{bytes_for, payload, Entry, entry_of, parse, form_of}
use Rattle.records.specs.Named.{named}
use Rattle.records.proofs.Standing.{Stands}
use Rattle.records.proofs.Blocks.{RecordsOf, done, next, parse_records, form_parts}
use Rattle.antennas.specs.declared.Seen.{Seen}
use Rattle.std.specs.Prelude.{Ok}
use Rattle.antennas.specs.declared.Antenna.{Antenna}
use Rattle.antennas.specs.declared.Antenna.TheVariants.{First, Second}
use Rattle.antennas.specs.Antennas.{About, IsMeter, Nth, seen_of, of_antenna, read_number, read_place, read_count, read_antenna, read_start, read_length, Asked, found, bad_meter, no_record, Reads, by_first, by_second, neither, Read}
use Rattle.antennas.specs.Search.{Sought, sought, fewer}
use Rattle.antennas.proofs.Ordinals.{nth_cons, nth_none}

-- ---- the answer of the search
pub asked_sought : (antenna : Antenna) (block : List ℕ) (meter ordinal : ℕ) (r : About) → IsMeter meter → Sought antenna (named meter (parse block).records) ordinal r
    → Asked antenna block meter ordinal r (read_number r) (read_place r) (read_count r) (read_antenna r) (read_start r) (read_length r)
asked_sought antenna block meter ordinal r m (sought n) = found m n
asked_sought antenna block meter ordinal r m (fewer h) = no_record m (inl h)

-- ---- a record among those that name the meter stands in the block
pub record Standing (block : List ℕ) (e : Entry) : Type 0 where
  pub at : ℕ
  pub of : Record
  pub stands : Stands block at of
  pub entry_is : entry_of block at of ≡ e

named_stands : (block : List ℕ) (meter at : ℕ) (es : List Entry) → RecordsOf block at es → (n : ℕ) (e : Entry) → Nth n (named meter es) e → Standing block e
unfolding named
named_stands block meter at es (done q) n e k = absurd (nth_none k)
named_stands block meter at es (next {es = fs} r s rs) n e k = go (eqb r.meter meter) k (λ m j. named_stands block meter r.next fs rs m e j)
  where
    go : (t : Bool) → Nth n (cond t (entry_of block at r ∷ named meter fs) (named meter fs)) e → ((m : ℕ) → Nth m (named meter fs) e → Standing block e) → Standing block e
    go true j f = nth_cons j (λ q. record { at = at; of = r; stands = s; entry_is = q }) f
    go false j f = f n j

-- ---- what an answer with a record says
pub record Given (antenna : Antenna) (block : List ℕ) (meter ordinal : ℕ) (x : Seen) : Type 0 where
  pub sound : form_of block ≡ Ok tt
  pub is_meter : IsMeter meter
  pub entry : Entry
  pub nth : Nth ordinal (named meter (parse block).records) entry
  pub seen : x ≡ seen_of antenna entry

pub asked_given : {antenna : Antenna} {block : List ℕ} {meter ordinal : ℕ} {r : About} {refusal place count which start size : ℕ} → form_of block ≡ Ok tt
    → Asked antenna block meter ordinal r refusal place count which start size → (x : Seen) → r ≡ Ok x → Given antenna block meter ordinal x
asked_given s (found {e} m n) x q = record { sound = s; is_meter = m; entry = e; nth = n; seen = cc }
asked_given s (bad_meter m) x q = cc
asked_given s (no_record m h) x q = cc

abbrev pub GivenIn : List ℕ → List ℕ → ℕ → ℕ → Seen → Type 0
GivenIn first second meter ordinal x = Given First first meter ordinal x ⊎ Given Second second meter ordinal x

reads_given : {first second : List ℕ} {meter ordinal : ℕ} {r : About} {refusal place count which start size : ℕ}
    → Reads first second meter ordinal r refusal place count which start size → (x : Seen) → r ≡ Ok x → GivenIn first second meter ordinal x
reads_given (by_first s a) x q = inl (asked_given s a x q)
reads_given (by_second t s a) x q = inr (asked_given s a x q)
reads_given (neither t s) x q = cc

pub read_given : (first second : List ℕ) (meter ordinal : ℕ) (x : Seen) → Read first second meter ordinal (Ok x) → GivenIn first second meter ordinal x
read_given first second meter ordinal x h = reads_given h x refl

-- ---- its stretch
pub record Stretch (block : List ℕ) (e : Entry) (x : Seen) : Type 0 where
  pub standing : Standing block e
  pub count_is : x.count ≡ standing.of.count
  pub start_is : x.start ≡ standing.of.start
  pub length_is : x.length ≡ bytes_for x.count
  pub last : x.start + x.length ≡ standing.of.next

module _ {antenna : Antenna} {block : List ℕ} {meter ordinal : ℕ} {x : Seen} (g : Given antenna block meter ordinal x) where
  pub given_standing : Standing block g.entry
  given_standing = named_stands block meter 0 (parse block).records (parse_records block (form_parts block g.sound).1) ordinal g.entry g.nth

  pub given_antenna : x.antenna ≡ antenna
  given_antenna = ap (λ (y : Seen). y.antenna) g.seen

  pub given_stretch : Stretch block g.entry x
  given_stretch =
      let w = given_standing in
      let s = w.stands in
      let n : length g.entry.bits ≡ w.of.count =
      ap (λ (e : Entry). length e.bits) (sym w.entry_is) ∙ length_digits 2 w.of.count (num 256 (payload block w.of.start w.of.count)) in
      let c : x.count ≡ w.of.count = ap (λ (y : Seen). y.count) g.seen ∙ n in
      let a : x.start ≡ w.of.start = ap (λ (y : Seen). y.start) g.seen ∙ ap (λ (e : Entry). e.start) (sym w.entry_is) in
      let l : x.length ≡ bytes_for x.count = ap (λ (y : Seen). y.length) g.seen ∙ ap (λ (y : Seen). bytes_for y.count) (sym g.seen) in
      record {
        standing = w;
        count_is = c;
        start_is = a;
        length_is = l;
        last = omega (arith, s.ends, ap bytes_for c);
      }

  pub given_inside : x.start + x.length ≤ length block
  given_inside = let w = given_stretch in omega (arith, w.last, w.standing.stands.last)

-- ---- for the part: it lies in the block of that antenna
pub part_inside : {first second : List ℕ} {meter ordinal : ℕ} {r : About} {x : Seen} {a : Antenna} → Read first second meter ordinal r → r ≡ Ok x → x.antenna ≡ a
    → x.start + x.length ≤ length (of_antenna a first second)
part_inside {first} {second} {x = x} h q e =
    let inside = λ (b : Antenna). x.start + x.length ≤ length (of_antenna b first second) in
    ⊎_elim (λ g. subst inside (sym (given_antenna g) ∙ e) (given_inside g)) (λ g. subst inside (sym (given_antenna g) ∙ e) (given_inside g)) (reads_given h x q)
