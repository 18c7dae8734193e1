-- Any two results that meet a contract are equal, and there is one.
--
--   asked_unique, reads_unique   one answer to a question, and its numbers are those of the answer
--   read_about_unique            the twin's answers are equal
--   read_exists                  every question has an answer
--   part_unique, lies_unique     the parts are equal as lists of bytes, and lie at one address
--   read_part_unique             both: any two parts that meet the contract are one part
use Prim.Native.Nat.{ℕ, ◌≤◌, ◌<◌}
use mathlib.Core.Path.{◌≡◌, refl, sym, ap, ◌∙◌}
use mathlib.Core.Logic.{◌⊎◌, inl, inr, ⊎_elim}
use mathlib.Core.List.{List}
use native.Mathlib.Omega.{arith}
use native.Mathlib.Decide.{dec_le}
use lib.ListN.{length}
use Rattle.records.specs.Block.{meters, Entry, parse, Form, form_of}
use Rattle.records.specs.Named.{named}
use Rattle.std.specs.Prelude.{Ok, Err}
use Rattle.antennas.specs.declared.Antenna.{Antenna}
use Rattle.antennas.specs.declared.Antenna.TheVariants.{First, Second}
use Rattle.antennas.specs.declared.Refusal.TheVariants.{Malformed, BadMeter, NoRecord}
use Rattle.antennas.specs.Antennas.{About, Nth, seen_of, read_number, read_place, read_count, read_antenna, read_start, read_length, Asked, found, bad_meter, no_record, Reads, by_first, by_second, neither, Read, part_of, Part, Address, part_at, Lies}
use Rattle.antennas.proofs.Ordinals.{nth_within, nth_unique, nth_exists}

past_end : {n : ℕ} {es : List Entry} {e : Entry} → Nth n es e → (length es < n) ⊎ (n ≡ 0) → ⊥
past_end k = let w = nth_within k in ⊎_elim (λ h. omega arith) (λ h. omega arith)

module _ {antenna : Antenna} {block : List ℕ} {meter ordinal : ℕ} where
  pub asked_unique : {r t : About} {n p c a s l n' p' c' a' s' l' : ℕ} → Asked antenna block meter ordinal r n p c a s l → Asked antenna block meter ordinal t n' p' c' a' s' l' → r ≡ t
  asked_unique (found m k) (found m' k') = ap (λ (e : Entry). Ok (seen_of antenna e)) (nth_unique k k')
  asked_unique (found m k) (bad_meter n) = absurd (n m)
  asked_unique (found m k) (no_record m' h) = absurd (past_end k h)
  asked_unique (bad_meter n) (found m k) = absurd (n m)
  asked_unique (bad_meter n) (bad_meter n') = refl
  asked_unique (bad_meter n) (no_record m h) = absurd (n m)
  asked_unique (no_record m h) (found m' k) = absurd (past_end k h)
  asked_unique (no_record m h) (bad_meter n) = absurd (n m)
  asked_unique (no_record m h) (no_record m' h') = refl

module _ {first second : List ℕ} {meter ordinal : ℕ} where
  pub reads_unique : {r t : About} {n p c a s l n' p' c' a' s' l' : ℕ} → Reads first second meter ordinal r n p c a s l → Reads first second meter ordinal t n' p' c' a' s' l' → r ≡ t
  reads_unique (by_first f k) (by_first f' k') = asked_unique k k'
  reads_unique (by_first f k) (by_second f' g k') = cc
  reads_unique (by_first f k) (neither f' g) = cc
  reads_unique (by_second f g k) (by_first f' k') = cc
  reads_unique (by_second f g k) (by_second f' g' k') = asked_unique k k'
  reads_unique (by_second f g k) (neither f' g') = cc
  reads_unique (neither f g) (by_first f' k) = cc
  reads_unique (neither f g) (by_second f' g' k) = cc
  reads_unique (neither {x = x} f g) (neither {x = y} f' g') = cc

-- ---- the numbers are those of the answer
pub record NumbersOf (r : About) (refusal place count antenna start size : ℕ) : Type 0 where
  pub refusal_is : refusal ≡ read_number r
  pub place_is : place ≡ read_place r
  pub count_is : count ≡ read_count r
  pub antenna_is : antenna ≡ read_antenna r
  pub start_is : start ≡ read_start r
  pub length_is : size ≡ read_length r

asked_numbers : {antenna : Antenna} {block : List ℕ} {meter ordinal : ℕ} {r : About} {n p c a s l : ℕ} → Asked antenna block meter ordinal r n p c a s l → NumbersOf r n p c a s l
asked_numbers (found m k) = record { refusal_is = refl; place_is = refl; count_is = refl; antenna_is = refl; start_is = refl; length_is = refl }
asked_numbers (bad_meter m) = record { refusal_is = refl; place_is = refl; count_is = refl; antenna_is = refl; start_is = refl; length_is = refl }
asked_numbers (no_record m h) = record { refusal_is = refl; place_is = refl; count_is = refl; antenna_is = refl; start_is = refl; length_is = refl }

pub reads_numbers : {first second : List ℕ} {meter ordinal : ℕ} {r : About} {n p c a s l : ℕ} → Reads first second meter ordinal r n p c a s l → NumbersOf r n p c a s l
reads_numbers (by_first f k) = asked_numbers k
reads_numbers (by_second f g k) = asked_numbers k
reads_numbers (neither f g) = record { refusal_is = refl; place_is = refl; count_is = refl; antenna_is = refl; start_is = refl; length_is = refl }

-- ---- every question has an answer
Answered : Antenna → List ℕ → ℕ → ℕ → Type 0
Answered antenna block meter ordinal = (r : About) × Asked antenna block meter ordinal r (read_number r) (read_place r) (read_count r) (read_antenna r) (read_start r) (read_length r)

asked_exists : (antenna : Antenna) (block : List ℕ) (meter ordinal : ℕ) → Answered antenna block meter ordinal
unfolding Answered
asked_exists antenna block meter ordinal = go (dec_le 1 meter) (dec_le meter meters) (dec_le 1 ordinal) (dec_le ordinal (length es))
  where
    es : List Entry
    es = named meter (parse block).records

    go : Dec (1 ≤ meter) → Dec (meter ≤ meters) → Dec (1 ≤ ordinal) → Dec (ordinal ≤ length es) → Answered antenna block meter ordinal
    go (no l) h o e = ((Err BadMeter), bad_meter (λ m. l m.0))
    go (yes l) (no h) o e = ((Err BadMeter), bad_meter (λ m. h m.1))
    go (yes l) (yes h) (no o) e = ((Err NoRecord), no_record (l, h) (inr (omega arith)))
    go (yes l) (yes h) (yes o) (no e) = ((Err NoRecord), no_record (l, h) (inl (omega arith)))
    go (yes l) (yes h) (yes o) (yes e) = let k = nth_exists ordinal es o e in (Ok (seen_of antenna k.0), found (l, h) k.1)

pub read_exists : (first second : List ℕ) (meter ordinal : ℕ) → (r : About) × Read first second meter ordinal r
unfolding Answered
read_exists first second meter ordinal = go (form_of first) (form_of second) refl refl
  where
    go : (f g : Form) → form_of first ≡ f → form_of second ≡ g → (r : About) × Read first second meter ordinal r
    go (Ok tt) g p q = let a = asked_exists First first meter ordinal in (a.0, by_first p a.1)
    go (Err x) (Ok tt) p q = let a = asked_exists Second second meter ordinal in (a.0, by_second p q a.1)
    go (Err x) (Err y) p q = (Err (Malformed x), neither p q)

-- ---- the contracts
pub number_unique : (r : About) (x y : ℕ) → x ≡ read_number r → y ≡ read_number r → x ≡ y
number_unique r x y p q = p ∙ sym q

module _ (first second : List ℕ) (meter ordinal : ℕ) where
  pub read_about_unique : (r t : About) → Read first second meter ordinal r → Read first second meter ordinal t → r ≡ t
  read_about_unique r t p q = reads_unique p q

  pub part_unique : (x y : List ℕ) → Part first second meter ordinal x → Part first second meter ordinal y → x ≡ y
  part_unique x y p q = p.bytes_are ∙ ap (part_of first second) (read_about_unique p.about q.about p.read q.read) ∙ sym q.bytes_are

  module _ (a b : Address) where
    pub lies_unique : (at at' : Address) → Lies first second meter ordinal a b at → Lies first second meter ordinal a b at' → at ≡ at'
    lies_unique at at' p q = p.at_is ∙ ap (part_at a b) (read_about_unique p.about q.about p.read q.read) ∙ sym q.at_is

    pub read_part_unique : (x y : List ℕ) (at at' : Address) → Part first second meter ordinal x × Lies first second meter ordinal a b at
        → Part first second meter ordinal y × Lies first second meter ordinal a b at' → (x ≡ y) × (at ≡ at')
    read_part_unique x y at at' p q = (part_unique x y p.0 q.0, lies_unique at at' p.1 q.1)
