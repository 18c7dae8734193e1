-- What the public functions answer, by the document's numbers for no. "A refusal returns its number .. Any other number that
-- its answer has room for is 0; a register taken by value comes back as it was given."
--
--   Steps g number bit register   a step: 0, or 5 and the register as it was given   ("Step and sheet: 5.")
--   Loads p q number register     a load: 0, 4, or 8                                 ("Load: 4, 8.")
--   ReadsBack g number p q        a pair read back: 0, 5, or 7                       ("Read back: 5, 7.")
-- The functions over them give the number and the values of every case of each answer, and those of refusals the document's number of each.
use Rattle.std.specs.Prelude.{ℕ, ◌^◌, ◌≤◌, ◌<◌, ℤ, pos, nat_abs, Result}
use Rattle.refusals.specs.Refusals.{number_of, field_of}
use Rattle.fractions.specs.Pairs.{Inside, Lowest}
use Rattle.registers.specs.Registers.{Valid, emitted, next_of, num_of, Load}
use Rattle.registers.specs.declared.Register.{Register}
use Rattle.registers.specs.declared.Invalid.{Invalid}
use Rattle.registers.specs.declared.Stepped.{Stepped}
use Rattle.registers.specs.declared.LoadRefusal.{LoadRefusal}
use Rattle.registers.specs.declared.LoadRefusal.TheVariants as Load
use Rattle.registers.specs.declared.ReadRefusal.{ReadRefusal}
use Rattle.registers.specs.declared.ReadRefusal.TheVariants as Read
use Rattle.fractions.specs.declared.Fraction.{Fraction}

-- ---- step

abbrev pub invalid_number : Invalid → ℕ
invalid_number x = 5

abbrev pub step_number : Stepped → ℕ
step_number s = number_of invalid_number s.bit

abbrev pub step_bit : Stepped → ℕ
step_bit s = field_of 0 (λ (b : ℕ). b) s.bit

abbrev pub step_register : Stepped → Register
step_register s = s.register

pub data Steps (g : Register) : ℕ → ℕ → Register → Type 0 where
  stepped : Valid g → Steps g 0 (emitted g) (next_of g)
  invalid : (Valid g → ⊥) → Steps g 5 0 g

-- ---- load

-- a register of zeros, where an answer has room for one and there is none
abbrev pub none : Register
none = record { q = 0; cells = 0; memory = pos 0 }

abbrev pub load_refusal_number : LoadRefusal → ℕ
load_refusal_number Load.Outside = 4
load_refusal_number Load.Wide = 8

abbrev pub load_number : Result Register LoadRefusal → ℕ
load_number r = number_of load_refusal_number r

abbrev pub load_register : Result Register LoadRefusal → Register
load_register r = field_of none (λ (g : Register). g) r

pub data Loads (p : ℤ) (q : ℕ) : ℕ → Register → Type 0 where
  loaded : {g : Register} → Inside p q → Load p q g → nat_abs g.memory ≤ 2 ^ 30 → Loads p q 0 g
  -- "pair .. outside its limits"
  outside : (Inside p q → ⊥) → Loads p q 4 none
  -- "loaded memory would be outside -2^30 to 2^30"
  wide : (g : Register) → Inside p q → Load p q g → 2 ^ 30 < nat_abs g.memory → Loads p q 8 none

-- ---- read back

abbrev pub read_refusal_number : ReadRefusal → ℕ
read_refusal_number Read.Invalid = 5
read_refusal_number Read.Outside = 7

abbrev pub read_number : Result Fraction ReadRefusal → ℕ
read_number r = number_of read_refusal_number r

abbrev pub read_p : Result Fraction ReadRefusal → ℤ
read_p r = field_of (pos 0) (λ (f : Fraction). f.p) r

abbrev pub read_q : Result Fraction ReadRefusal → ℕ
read_q r = field_of 0 (λ (f : Fraction). f.q) r

-- "p = y - m·2^r, then the pair in lowest terms, q positive; zero is (0, 1)"
pub data ReadsBack (g : Register) : ℕ → ℤ → ℕ → Type 0 where
  pair : {p : ℤ} {q : ℕ} → Valid g → Lowest (num_of g) g.q p q → Inside p q → ReadsBack g 0 p q
  invalid : (Valid g → ⊥) → ReadsBack g 5 (pos 0) 0
  -- "read-back pair, in lowest terms, outside the limits"
  outside : (p : ℤ) (q : ℕ) → Valid g → Lowest (num_of g) g.q p q → (Inside p q → ⊥) → ReadsBack g 7 (pos 0) 0
