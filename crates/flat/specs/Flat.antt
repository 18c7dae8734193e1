-- The library's answers laid out flat, in the library's own numbers: "A refusal returns its number .. Any other number that its answer has room for is 0; a register
-- taken by value comes back as it was given." No number is defined here: where an answer may be a refusal, `number` has the numbers of its reasons (the trait
-- `Numbered`), and the other fields are those of the answer, or 0 (`field_of`); the rest are the ones that the answer's own crate defines.
--
--   flat_fraction number x .. flat_about x   the flat answer of each library answer, field by field
--   NarrowPlace x, NarrowRecord x            the sizes and positions of an answer fit the 32 bits of their fields
use Rattle.std.specs.Prelude.{ℕ, ◌^◌, ◌<◌, pos, Result}
use Rattle.refusals.specs.Refusals.{number_of, field_of}
use Rattle.fractions.specs.declared.Fraction as pair
use Rattle.registers.specs.declared.Register.{Register}
use Rattle.registers.specs.declared.Stepped as step
use Rattle.registers.specs.Answers.{none, step_number, step_bit, step_register}
use Rattle.storage.specs.declared.StorageSheet.{StorageSheet}
use Rattle.walking.specs.declared.Way.{Way}
use Rattle.store.specs.Taking as taking
use Rattle.antennas.specs.Antennas as antennas
use Rattle.flat.specs.declared.Fraction.{Fraction}
use Rattle.flat.specs.declared.Loaded.{Loaded}
use Rattle.flat.specs.declared.Stepped.{Stepped}
use Rattle.flat.specs.declared.Walked.{Walked}
use Rattle.flat.specs.declared.Storage.{Storage}
use Rattle.flat.specs.declared.Entry.{Entry}
use Rattle.flat.specs.declared.Word.{Word}
use Rattle.flat.specs.declared.Taken.{Taken}
use Rattle.flat.specs.declared.Read.{Read}

-- ---- answers that may be refusals, for any reasons E

module _ {E : Type 0} (number : E → ℕ) where
  abbrev pub flat_fraction : Result pair.Fraction E → Fraction
  flat_fraction x = record { refusal = number_of number x; p = field_of (pos 0) (λ (f : pair.Fraction). f.p) x; q = field_of 0 (λ (f : pair.Fraction). f.q) x }

  abbrev pub flat_loaded : Result Register E → Loaded
  flat_loaded x = record { refusal = number_of number x; state = field_of none (λ (g : Register). g) x }

  abbrev pub flat_walked : Result Way E → Walked
  flat_walked x = record {
    refusal = number_of number x;
    lead = field_of 0 (λ (w : Way). w.lead_in) x;
    period = field_of 0 (λ (w : Way). w.period) x;
    sum = field_of 0 (λ (w : Way). w.sum) x;
  }

  abbrev pub flat_sheet : Result StorageSheet E → Storage
  flat_sheet x = record { refusal = number_of number x; cells = field_of 0 (λ (s : StorageSheet). s.cells) x; memory_bits = field_of 0 (λ (s : StorageSheet). s.memory_bits) x }

  abbrev pub flat_lookup : Result ℕ E → Entry
  flat_lookup x = record { refusal = number_of number x; period = field_of 0 (λ (t : ℕ). t) x }

  abbrev pub flat_output : Result ℕ E → Word
  flat_output x = record { refusal = number_of number x; word = field_of 0 (λ (u : ℕ). u) x }

-- ---- a step

abbrev pub flat_stepped : step.Stepped → Stepped
flat_stepped x = record { refusal = step_number x; bit = step_bit x; state = step_register x }

-- ---- blocks

abbrev pub flat_taken : taking.Answer → Taken
flat_taken x = record { refusal = taking.number_of x; place = taking.place_of x }

abbrev pub NarrowPlace : taking.Answer → Type 0
NarrowPlace x = taking.place_of x < 2 ^ 32

abbrev pub flat_about : antennas.About → Read
flat_about x = record {
  refusal = antennas.read_number x;
  place = antennas.read_place x;
  count = antennas.read_count x;
  antenna = antennas.read_antenna x;
  start = antennas.read_start x;
  length = antennas.read_length x;
}

pub record NarrowRecord (x : antennas.About) : Type 0 where
  pub place_narrow : antennas.read_place x < 2 ^ 32
  pub count_narrow : antennas.read_count x < 2 ^ 32
  pub start_narrow : antennas.read_start x < 2 ^ 32
  pub length_narrow : antennas.read_length x < 2 ^ 32
