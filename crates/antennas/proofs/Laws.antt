-- What the two answers have to do with each other and with the block that was used.
--
--   Holds, part_holds   the part is the payload of the ordinal-th record of that meter in the block of the twin's antenna: as many bytes as the count
--                       needs, cut out of that record's own bytes, and the record's bits are the part's
--   Agree, answers_agree   the part is as long as the twin says, non-empty where the twin tells of a record and empty where it refuses
--   Within, read_within    start and length lie inside the block of that antenna, and every number is small
--   read_more_first, read_more_second, part_more_first, part_more_second   a block with anything well formed behind it: the same record, the same part
use Prim.Native.Nat.{ℕ, ◌+◌, ◌-◌, ◌≤◌, ◌<◌}
use mathlib.Core.Path.{◌≡◌, refl, sym, ap, ◌∙◌, subst}
use mathlib.Core.Logic.{◌⊎◌, inl, inr, ⊎_elim}
use mathlib.Core.List.{List, [], ◌++◌, map}
use native.Mathlib.Omega.{arith}
use lib.ListN.{length, take, drop, length-drop}
use Rattle.std.proofs.lemmas.List.{drop-take}
use lib.Seq.{drop-drop, take-append-le, drop-append-le}
use Rattle.bits.specs.Bits.{num, digits}
use Rattle.records.specs.declared.Refusal as records
use Rattle.antennas.specs.declared.Refusal.{Refusal}
use Rattle.records.specs.Block.{bytes_for, record_bits, block_bytes, payload, Entry, parse, form_of}
use Rattle.records.specs.Named.{named, bytes_of, moved}
use Rattle.records.proofs.Unique.{number_some}
use Rattle.records.proofs.Standing.{payload_long}
use Rattle.records.proofs.Blocks.{form_parts, form_append}
use Rattle.records.proofs.Positions.{form_placed}
use Rattle.records.proofs.Brought.{named_append}
use Rattle.antennas.specs.declared.Seen.{Seen}
use Rattle.std.specs.Prelude.{Ok, Err}
use Rattle.antennas.specs.declared.Antenna.{Antenna}
use Rattle.antennas.specs.declared.Antenna.TheVariants.{First, Second}
use Rattle.antennas.specs.declared.Refusal.TheVariants.{Malformed, BadMeter, NoRecord}
use Rattle.antennas.specs.Antennas.{About, Nth, antenna_of, of_antenna, refusal_number, read_number, read_place, read_count, read_antenna, read_start, read_length, Asked, found, bad_meter, no_record, Reads, by_first, by_second, neither, Read, part_of, Part}
use Rattle.antennas.proofs.Ordinals.{nth_append}
use Rattle.antennas.proofs.Given.{Given, GivenIn, read_given, asked_given, given_antenna, given_stretch, given_inside}
use Rattle.antennas.proofs.Unique.{read_about_unique}

-- ---- the record that a part holds
pub record Holds (block : List ℕ) (meter ordinal count : ℕ) (bytes : List ℕ) : Type 0 where
  pub sound : form_of block ≡ Ok tt
  pub entry : Entry
  pub nth : Nth ordinal (named meter (parse block).records) entry
  pub count_is : count ≡ length entry.bits
  pub long : length bytes ≡ bytes_for count
  pub own : bytes ≡ drop (entry.start - entry.at) (bytes_of block entry)
  pub bits : entry.bits ≡ digits 2 count (num 256 bytes)

module _ {antenna : Antenna} {block : List ℕ} {meter ordinal : ℕ} {x : Seen} (g : Given antenna block meter ordinal x) where
  abbrev cut : List ℕ
  cut = take x.length (drop x.start block)

  cut_is : cut ≡ payload block (given_stretch g).standing.of.start x.count
  cut_is = let w = given_stretch g in λ i. take (w.length_is i) (drop (w.start_is i) block)

  -- from where the record's bits start, up to its end
  cut_own : cut ≡ drop (g.entry.start - g.entry.at) (bytes_of block g.entry)
  cut_own =
      let w = given_stretch g in
      let s = w.standing.stands in
      let at = w.standing.at in
      let head = w.standing.of.start - at in
      let n : w.standing.of.next - at ≡ head + x.length = omega (arith, w.last, w.start_is, s.starts) in
      let b : at + head ≡ x.start = omega (arith, w.start_is, s.starts) in
      sym (ap (λ (e : Entry). drop (e.start - e.at) (bytes_of block e)) (sym w.standing.entry_is)
      ∙ ap (λ (k : ℕ). drop head (take k (drop at block))) n
      ∙ drop-take head x.length (drop at block)
      ∙ ap (take x.length) (drop-drop head at block ∙ ap (λ (k : ℕ). drop k block) b))

  given_holds : Holds block meter ordinal x.count cut
  given_holds =
      let w = given_stretch g in
      let c = w.count_is in
      let r = w.standing.of in
      record {
        sound = g.sound;
        entry = g.entry;
        nth = g.nth;
        count_is = ap (λ (y : Seen). y.count) g.seen;
        long = ap length (cut_is ∙ ap (payload block r.start) c) ∙ payload_long block w.standing.at r w.standing.stands ∙ ap bytes_for (sym c);
        own = cut_own;
        bits = ap (λ (e : Entry). e.bits) (sym w.standing.entry_is) ∙ ap (λ (k : ℕ). digits 2 k (num 256 (payload block r.start k))) (sym c) ∙ ap (λ (l : List ℕ). digits 2 x.count (num 256 l)) (sym cut_is);
      }

module _ (first second : List ℕ) (meter ordinal : ℕ) where
  pub part_is : (r : About) (bytes : List ℕ) → Read first second meter ordinal r → Part first second meter ordinal bytes → bytes ≡ part_of first second r
  part_is r bytes h p = p.bytes_are ∙ ap (part_of first second) (read_about_unique first second meter ordinal p.about r p.read h)

  cut_first : (x : Seen) → x.antenna ≡ First → part_of first second (Ok x) ≡ take x.length (drop x.start first)
  cut_first x e = ap (λ (a : Antenna). take x.length (drop x.start (of_antenna a first second))) e

  cut_second : (x : Seen) → x.antenna ≡ Second → part_of first second (Ok x) ≡ take x.length (drop x.start second)
  cut_second x e = ap (λ (a : Antenna). take x.length (drop x.start (of_antenna a first second))) e

  pub part_holds : (x : Seen) (bytes : List ℕ) → Read first second meter ordinal (Ok x) → Part first second meter ordinal bytes
      → ((x.antenna ≡ First) × Holds first meter ordinal x.count bytes) ⊎ ((x.antenna ≡ Second) × Holds second meter ordinal x.count bytes)
  part_holds x bytes h p =
      let q = part_is (Ok x) bytes h p in
      ⊎_elim
      (λ g. inl (given_antenna g, subst (Holds first meter ordinal x.count) (sym (q ∙ cut_first x (given_antenna g))) (given_holds g)))
      (λ g. inr (given_antenna g, subst (Holds second meter ordinal x.count) (sym (q ∙ cut_second x (given_antenna g))) (given_holds g)))
      (read_given first second meter ordinal x h)

-- ---- the two answers agree
pub record Agree (r : About) (bytes : List ℕ) : Type 0 where
  pub as_many : length bytes ≡ bytes_for (read_count r)
  pub as_long : length bytes ≡ read_length r
  pub some : read_number r ≡ 0 → 0 < length bytes
  pub none : (read_number r ≡ 0 → ⊥) → bytes ≡ []

given_some : {antenna : Antenna} {block : List ℕ} {meter ordinal : ℕ} {x : Seen} → Given antenna block meter ordinal x → (0 < x.length) × (x.length ≡ bytes_for x.count) × (x.count ≤ record_bits)
given_some g =
    let w = given_stretch g in
    let s = w.standing.stands in
    (omega (arith, w.length_is, w.count_is, s.count_low), w.length_is, omega (arith, w.count_is, s.count_high))

-- a refusal has a number
refusal_some : (x : Refusal) → refusal_number x ≡ 0 → ⊥
refusal_some (Malformed x) e = number_some x e
refusal_some BadMeter e = absurd (omega arith)
refusal_some NoRecord e = absurd (omega arith)

module _ (first second : List ℕ) (meter ordinal : ℕ) where
  some_length : (x : Seen) → GivenIn first second meter ordinal x → (0 < x.length) × (x.length ≡ bytes_for x.count) × (x.count ≤ record_bits)
  some_length x = ⊎_elim (λ g. given_some g) (λ g. given_some g)

  agrees : (r : About) → Read first second meter ordinal r → Agree r (part_of first second r)
  agrees (Ok x) h =
      let w = some_length x (read_given first second meter ordinal x h) in
      let l : length (part_of first second (Ok x)) ≡ bytes_for x.count =
      ⊎_elim (λ y. y.1.long) (λ y. y.1.long) (part_holds first second meter ordinal x _ h (record { about = Ok x; read = h; bytes_are = refl })) in
      record { as_many = l; as_long = l ∙ sym w.1; some = λ _. omega (arith, w); none = λ n. absurd (n refl) }
  agrees (Err x) h = record { as_many = refl; as_long = refl; some = λ e. absurd (refusal_some x e); none = λ _. refl }

  pub answers_agree : (r : About) (bytes : List ℕ) → Read first second meter ordinal r → Part first second meter ordinal bytes → Agree r bytes
  answers_agree r bytes h p = subst (Agree r) (sym (part_is first second meter ordinal r bytes h p)) (agrees r h)

-- ---- the numbers of an answer
pub record Within (first second : List ℕ) (r : About) : Type 0 where
  pub antenna_few : read_antenna r ≤ 2
  pub in_first : read_antenna r ≡ 1 → read_start r + read_length r ≤ length first
  pub in_second : read_antenna r ≡ 2 → read_start r + read_length r ≤ length second
  pub in_block : read_start r + read_length r ≤ block_bytes
  pub count_few : read_count r ≤ record_bits
  pub place_in : read_place r ≤ length first
  pub place_low : read_place r ≤ block_bytes

asked_malformed : {antenna : Antenna} {block : List ℕ} {meter ordinal : ℕ} {r : About} {n p c a s l : ℕ} → Asked antenna block meter ordinal r n p c a s l → (x : records.Refusal) → r ≡ Err (Malformed x) → ⊥
asked_malformed (found m k) x q = cc
asked_malformed (bad_meter m) x q = cc
asked_malformed (no_record m h) x q = cc

module _ (first second : List ℕ) (meter ordinal : ℕ) where
  found_within : (x : Seen) → GivenIn first second meter ordinal x → Within first second (Ok x)
  found_within x (inl g) = record {
    antenna_few = omega (arith, ap antenna_of (given_antenna g));
    in_first = λ _. given_inside g;
    in_second = λ e. absurd (omega (arith, ap antenna_of (given_antenna g)));
    in_block = omega (arith, given_inside g, (form_parts first g.sound).0);
    count_few = (given_some g).2;
    place_in = omega arith;
    place_low = omega arith;
  }
  found_within x (inr g) = record {
    antenna_few = omega (arith, ap antenna_of (given_antenna g));
    in_first = λ e. absurd (omega (arith, ap antenna_of (given_antenna g)));
    in_second = λ _. given_inside g;
    in_block = omega (arith, given_inside g, (form_parts second g.sound).0);
    count_few = (given_some g).2;
    place_in = omega arith;
    place_low = omega arith;
  }

  refused_within : (r : About) → read_antenna r ≡ 0 → read_start r ≡ 0 → read_length r ≡ 0 → read_count r ≡ 0 → (read_place r ≤ length first) × (read_place r ≤ block_bytes) → Within first second r
  refused_within r a s l c p = record {
    antenna_few = omega arith;
    in_first = λ e. absurd (omega arith);
    in_second = λ e. absurd (omega arith);
    in_block = omega arith;
    count_few = omega arith;
    place_in = p.0;
    place_low = p.1;
  }

  first_refused : {r : About} {n p c a s l : ℕ} → Reads first second meter ordinal r n p c a s l → (x : records.Refusal) → r ≡ Err (Malformed x) → form_of first ≡ Err x
  first_refused (by_first e k) x q = absurd (asked_malformed k x q)
  first_refused (by_second e f k) x q = absurd (asked_malformed k x q)
  first_refused (neither e f) x q = e ∙ cc

  pub read_within : (r : About) → Read first second meter ordinal r → Within first second r
  read_within (Ok x) h = found_within x (read_given first second meter ordinal x h)
  read_within (Err (Malformed x)) h = refused_within (Err (Malformed x)) refl refl refl refl (form_placed first x (first_refused h x refl))
  read_within (Err BadMeter) h = refused_within (Err BadMeter) refl refl refl refl (omega arith, omega arith)
  read_within (Err NoRecord) h = refused_within (Err NoRecord) refl refl refl refl (omega arith, omega arith)

-- ---- a block with another behind it
module _ {antenna : Antenna} {a : List ℕ} {meter ordinal : ℕ} {x : Seen} (b : List ℕ) (sound : form_of b ≡ Ok tt) (short : length a + length b ≤ block_bytes) (g : Given antenna a meter ordinal x) where
  given_more : Given antenna (a ++ b) meter ordinal x
  given_more =
      let w = form_append a b g.sound sound short in
      let e : named meter (parse (a ++ b)).records ≡ named meter (parse a).records ++ named meter (map (moved (length a)) (parse b).records) =
      ap (named meter) w.1 ∙ named_append meter (parse a).records (map (moved (length a)) (parse b).records) in
      record {
        sound = w.0;
        is_meter = g.is_meter;
        entry = g.entry;
        nth = subst (λ (l : List Entry). Nth ordinal l g.entry) (sym e) (nth_append (named meter (map (moved (length a)) (parse b).records)) g.nth);
        seen = g.seen;
      }

  cut_more : take x.length (drop x.start (a ++ b)) ≡ take x.length (drop x.start a)
  cut_more =
      let i = given_inside g in
      ap (take x.length) (drop-append-le x.start a b (omega arith)) ∙ take-append-le x.length (drop x.start a) b (rw length-drop (omega arith))

found_first : {f : List ℕ} {meter ordinal : ℕ} {x : Seen} (s : List ℕ) → Given First f meter ordinal x → Read f s meter ordinal (Ok x)
found_first {f} {meter} {ordinal} s g = subst (λ (y : Seen). Read f s meter ordinal (Ok y)) (sym g.seen) (by_first g.sound (found g.is_meter g.nth))

found_second : {s : List ℕ} {meter ordinal : ℕ} {x : Seen} (f : List ℕ) (y : records.Refusal) → form_of f ≡ Err y → Given Second s meter ordinal x → Read f s meter ordinal (Ok x)
found_second {s} {meter} {ordinal} f y e g = subst (λ (z : Seen). Read f s meter ordinal (Ok z)) (sym g.seen) (by_second e g.sound (found g.is_meter g.nth))

second_given : {f s : List ℕ} {meter ordinal : ℕ} {r : About} {n p c a st l : ℕ} → Reads f s meter ordinal r n p c a st l → (x : Seen) → r ≡ Ok x → x.antenna ≡ Second
    → (y : records.Refusal) × (form_of f ≡ Err y) × Given Second s meter ordinal x
second_given (by_first e k) x q d = let a = given_antenna (asked_given e k x q) in cc
second_given (by_second {x = y} e f k) x q d = (y, e, asked_given f k x q)
second_given (neither e f) x q d = cc

module _ (a b : List ℕ) (meter ordinal : ℕ) (x : Seen) (sound : form_of b ≡ Ok tt) (short : length a + length b ≤ block_bytes) where
  first_given : (s : List ℕ) → Read a s meter ordinal (Ok x) → x.antenna ≡ First → Given First a meter ordinal x
  first_given s h e = ⊎_elim (λ g. g) (λ g. let i = given_antenna g in cc) (read_given a s meter ordinal x h)

  pub read_more_first : (s : List ℕ) → x.antenna ≡ First → Read a s meter ordinal (Ok x) → Read (a ++ b) s meter ordinal (Ok x)
  read_more_first s e h = found_first s (given_more b sound short (first_given s h e))

  pub part_more_first : (s bytes : List ℕ) → x.antenna ≡ First → Read a s meter ordinal (Ok x) → Part a s meter ordinal bytes → Part (a ++ b) s meter ordinal bytes
  part_more_first s bytes e h p = record {
    about = Ok x;
    read = read_more_first s e h;
    bytes_are = part_is a s meter ordinal (Ok x) bytes h p ∙ cut_first a s meter ordinal x e ∙ sym (cut_first (a ++ b) s meter ordinal x e ∙ cut_more b sound short (first_given s h e));
  }

  pub read_more_second : (f : List ℕ) → x.antenna ≡ Second → Read f a meter ordinal (Ok x) → Read f (a ++ b) meter ordinal (Ok x)
  read_more_second f e h = let w = second_given h x refl e in found_second f w.0 w.1 (given_more b sound short w.2)

  pub part_more_second : (f bytes : List ℕ) → x.antenna ≡ Second → Read f a meter ordinal (Ok x) → Part f a meter ordinal bytes → Part f (a ++ b) meter ordinal bytes
  part_more_second f bytes e h p = record {
    about = Ok x;
    read = read_more_second f e h;
    bytes_are = part_is f a meter ordinal (Ok x) bytes h p ∙ cut_second f a meter ordinal x e ∙ sym (cut_second f (a ++ b) meter ordinal x e ∙ cut_more b sound short (second_given h x refl e).2);
  }
