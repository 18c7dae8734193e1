-- Each contract determines the answer: any two flat answers that meet it are equal. Of `cj_whiten` that is `whitens_unique` itself.
--
--   learn_unique, learn_meter_unique, read_back_unique, load_unique, step_unique, walk_unique, sheet_unique, period_unique,
--   output_word_unique, take_unique, read_unique
use mathlib.Core.Path.{◌≡◌, sym, ap, ◌∙◌}
use mathlib.Core.List.{List}
use Prim.Native.Nat.{ℕ}
use lib.IntN.{ℤ}
use Rattle.fractions.specs.Answers.{Outputs}
use Rattle.fractions.proofs.Expansion.{outputs_unique}
use Rattle.learning.specs.Learning.{Learns}
use Rattle.learning.proofs.Laws.{learns_unique}
use Rattle.periods.specs.Answers.{Periods}
use Rattle.periods.proofs.Answers.{periods_unique}
use Rattle.registers.specs.declared.Register.{Register}
use Rattle.registers.specs.Answers.{Steps, Loads, ReadsBack}
use Rattle.storage.specs.Storage.{Sheets}
use Rattle.registers.proofs.Answers.{steps_same, loads_same, reads_same}
use Rattle.storage.proofs.Answers.{sheets_same}
use Rattle.by_meter.specs.ByMeter.{LearnsMeter}
use Rattle.by_meter.proofs.Answers.{meter_unique}
use Rattle.walking.specs.Walks.{Walks}
use Rattle.walking.proofs.Walks.{walks_unique}
use Rattle.antennas.specs.Antennas.{read_number, read_place, read_count, read_antenna, read_start, read_length}
use Rattle.antennas.proofs.Unique.{reads_unique, reads_numbers}
use Rattle.capi.specs.Flat.{Takes, Reading}
use Rattle.flat.specs.declared.Fraction.{Fraction}
use Rattle.flat.specs.declared.Loaded.{Loaded}
use Rattle.flat.specs.declared.Stepped.{Stepped}
use Rattle.flat.specs.declared.Walked.{Walked}
use Rattle.flat.specs.declared.Storage.{Storage}
use Rattle.flat.specs.declared.Entry.{Entry}
use Rattle.flat.specs.declared.Word.{Word}
use Rattle.flat.specs.declared.Taken.{Taken}
use Rattle.flat.specs.declared.Read.{Read}

-- ---- pairs
fraction_same : (r s : Fraction) → r.refusal ≡ s.refusal → r.p ≡ s.p → r.q ≡ s.q → r ≡ s
fraction_same r s e f g = λ i. record { refusal = e i; p = f i; q = g i }

pub learn_unique : (bytes : List ℕ) (count : ℕ) (r s : Fraction) → Learns bytes count r.refusal r.p r.q → Learns bytes count s.refusal s.p s.q → r ≡ s
learn_unique bytes count r s h k = let e = learns_unique bytes count _ _ _ _ _ _ h k in fraction_same r s e.0 e.1 e.2

pub learn_meter_unique : (store : List ℕ) (meter : ℕ) (r s : Fraction) → LearnsMeter store meter r.refusal r.p r.q → LearnsMeter store meter s.refusal s.p s.q → r ≡ s
learn_meter_unique store meter r s h k = let e = meter_unique store meter _ _ _ _ _ _ h k in fraction_same r s e.0 e.1.0 e.1.1

pub read_back_unique : (g : Register) (r s : Fraction) → ReadsBack g r.refusal r.p r.q → ReadsBack g s.refusal s.p s.q → r ≡ s
read_back_unique g r s h k = let e = reads_same h k in fraction_same r s e.0 e.1 e.2

-- ---- registers
pub load_unique : (p : ℤ) (q : ℕ) (r s : Loaded) → Loads p q r.refusal r.state → Loads p q s.refusal s.state → r ≡ s
load_unique p q r s h k = let e = loads_same h k in λ i. record { refusal = e.0 i; state = e.1 i }

pub step_unique : (g : Register) (r s : Stepped) → Steps g r.refusal r.bit r.state → Steps g s.refusal s.bit s.state → r ≡ s
step_unique g r s h k = let e = steps_same h k in λ i. record { refusal = e.0 i; bit = e.1 i; state = e.2 i }

pub sheet_unique : (g : Register) (r s : Storage) → Sheets g r.refusal r.cells r.memory_bits → Sheets g s.refusal s.cells s.memory_bits → r ≡ s
sheet_unique g r s h k = let e = sheets_same h k in λ i. record { refusal = e.0 i; cells = e.1 i; memory_bits = e.2 i }

-- ---- walks
pub walk_unique : (g : Register) (allowance : ℕ) (r s : Walked) → Walks g allowance r.refusal r.lead r.period r.sum → Walks g allowance s.refusal s.lead s.period s.sum → r ≡ s
walk_unique g allowance r s h k = let e = walks_unique h k in λ i. record { refusal = e.0 i; lead = e.1 i; period = e.2 i; sum = e.3 i }

-- ---- the table, the output word, and taking a block
pub period_unique : (q : ℕ) (r s : Entry) → Periods q r.refusal r.period → Periods q s.refusal s.period → r ≡ s
period_unique q r s h k = let e = periods_unique h k in λ i. record { refusal = e.0 i; period = e.1 i }

pub output_word_unique : (p : ℤ) (q : ℕ) (r s : Word) → Outputs p q r.refusal r.word → Outputs p q s.refusal s.word → r ≡ s
output_word_unique p q r s h k = let e = outputs_unique p q _ _ _ _ h k in λ i. record { refusal = e.0 i; word = e.1 i }

pub take_unique : (store block : List ℕ) (r s : Taken) (t u : List ℕ) → Takes store block r.refusal r.place t → Takes store block s.refusal s.place u → (r ≡ s) × (t ≡ u)
take_unique store block r s t u h k =
    let number = h.number_is ∙ sym k.number_is in
    let place = h.place_is ∙ sym k.place_is in
    (λ i. record { refusal = number i; place = place i }, h.store_is ∙ sym k.store_is)

-- ---- a record of two antennas' blocks
abbrev ReadFlat : List ℕ → List ℕ → ℕ → ℕ → Read → Type 0
ReadFlat first second meter ordinal r = Reading first second meter ordinal r.refusal r.place r.count r.antenna r.start r.length

pub read_unique : (first second : List ℕ) (meter ordinal : ℕ) (r s : Read) → ReadFlat first second meter ordinal r → ReadFlat first second meter ordinal s → r ≡ s
read_unique first second meter ordinal r s h k =
    let e = reads_unique h.reads k.reads in
    let v = reads_numbers h.reads in
    let w = reads_numbers k.reads in
    let refusal = v.refusal_is ∙ ap read_number e ∙ sym w.refusal_is in
    let place = v.place_is ∙ ap read_place e ∙ sym w.place_is in
    let count = v.count_is ∙ ap read_count e ∙ sym w.count_is in
    let antenna = v.antenna_is ∙ ap read_antenna e ∙ sym w.antenna_is in
    let start = v.start_is ∙ ap read_start e ∙ sym w.start_is in
    let size = v.length_is ∙ ap read_length e ∙ sym w.length_is in
    λ i. record { refusal = refusal i; place = place i; count = count i; antenna = antenna i; start = start i; length = size i }
