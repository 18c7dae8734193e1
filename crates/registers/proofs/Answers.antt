-- The answers: each contract determines them, and what loading and reading back are to each other.
--
--   step_unique, load_unique, read_back_unique
--                    any two results that meet the contract of one of the public functions are equal
--   steps_same, loads_same, reads_same
--                    the same of the numbers that the relations are between
--   load_emits       demand 2: the register loaded from a pair, stepped n times, emits the first n bits of p/q, for every n
--   load_exists      every pair inside the limits loads, and load_accepted, is not refused
--   loaded_valid     a loaded register is valid
--   load_numerator   its numerator is p
--   load_read_back   reading back a loaded pair gives its lowest terms, and is not refused
--   read_back_emits  loading what was read back emits the same bits
use mathlib.Core.Path.{◌≡◌, refl, sym, ap, ap₂, ◌∙◌, subst}
use Prim.Native.Nat.{ℕ}
use native.Mathlib.Omega.{arith}
use lib.IntN.{ℤ, pos, nat_abs, neg_ℤ, ◌+ℤ◌}
use Rattle.fractions.specs.Pairs.{Inside, Lowest}
use Rattle.fractions.specs.Expansion.{iter_num, digits_to}
use Rattle.fractions.proofs.Lowest.{lowest_unique, inside_lowest}
use Rattle.registers.specs.Registers.{cell_count, Valid, Load, num_of, out_to}
use Rattle.registers.specs.Answers.{Steps, stepped, invalid_number, step_number, step_bit, step_register, Loads, loaded, wide, load_number, load_register, ReadsBack, pair, read_number, read_p, read_q}
use Rattle.registers.specs.Answers as A
use Rattle.registers.specs.declared.Register.{Register}
use Rattle.std.specs.Prelude.{Result, Ok, Err}
use Rattle.refusals.specs.Refusals.{number_of, field_of}
use Rattle.fractions.specs.declared.Fraction.{Fraction}
use Rattle.registers.specs.declared.Invalid.{Invalid}
use Rattle.registers.specs.declared.Stepped.{Stepped}
use Rattle.registers.specs.declared.LoadRefusal.{LoadRefusal}
use Rattle.registers.specs.declared.LoadRefusal.TheVariants as Load
use Rattle.registers.specs.declared.ReadRefusal.{ReadRefusal}
use Rattle.registers.specs.declared.ReadRefusal.TheVariants as Read
use Rattle.taps.specs.Sums.{over_to}
use Rattle.registers.proofs.Memory.{load_narrow}
use Rattle.registers.proofs.States.{emits}
use Rattle.registers.proofs.Loading.{rule_unique, rule_numerator, load_valid, load_is}
use Rattle.fractions.proofs.Expansion.{digits_same}

-- ---- step
pub steps_same : {g : Register} {m n b c : ℕ} {x y : Register} → Steps g m b x → Steps g n c y → (m ≡ n) × (b ≡ c) × (x ≡ y)
steps_same (stepped v) (stepped w) = (refl, refl, refl)
steps_same (stepped v) (A.Steps.invalid w) = absurd (w v)
steps_same (A.Steps.invalid v) (stepped w) = absurd (v w)
steps_same (A.Steps.invalid v) (A.Steps.invalid w) = (refl, refl, refl)

bit_same : (a b : Result ℕ Invalid) → number_of invalid_number a ≡ number_of invalid_number b → field_of 0 (λ (x : ℕ). x) a ≡ field_of 0 (λ (x : ℕ). x) b → a ≡ b
bit_same (Ok x) (Ok y) m f = ap Ok f
bit_same (Ok x) (Err e) m f = absurd (omega arith)
bit_same (Err e) (Ok y) m f = absurd (omega arith)
bit_same (Err e) (Err f) m g = refl

pub step_unique : (g : Register) (r s : Stepped) → Steps g (step_number r) (step_bit r) (step_register r) → Steps g (step_number s) (step_bit s) (step_register s) → r ≡ s
step_unique g r s h k =
    let e = steps_same h k in
    let bit = bit_same r.bit s.bit e.0 e.1 in
    λ i. record { bit = bit i; register = e.2 i }

-- ---- load
pub loads_same : {p : ℤ} {q m n : ℕ} {x y : Register} → Loads p q m x → Loads p q n y → (m ≡ n) × (x ≡ y)
loads_same {p} {q} (loaded i a f) (loaded j b g) = (refl, rule_unique p q _ _ a b)
loads_same (loaded i a f) (A.outside j) = absurd (j i)
loads_same {p} {q} (loaded i a f) (wide g j b e) = absurd (omega (arith, f, e, ap (λ (x : Register). nat_abs x.memory) (rule_unique p q _ _ a b)))
loads_same (A.outside i) (loaded j b g) = absurd (i j)
loads_same (A.outside i) (A.outside j) = (refl, refl)
loads_same (A.outside i) (wide g j b e) = absurd (i j)
loads_same {p} {q} (wide g i a e) (loaded j b f) = absurd (omega (arith, f, e, ap (λ (x : Register). nat_abs x.memory) (rule_unique p q _ _ a b)))
loads_same (wide g i a e) (A.outside j) = absurd (j i)
loads_same (wide g i a e) (wide h j b f) = (refl, refl)

pub load_unique : (p : ℤ) (q : ℕ) (r s : Result Register LoadRefusal) → Loads p q (load_number r) (load_register r) → Loads p q (load_number s) (load_register s) → r ≡ s
load_unique p q (Ok x) (Ok y) h k = ap Ok (loads_same h k).1
load_unique p q (Ok x) (Err Load.Outside) h k = absurd (omega (arith, (loads_same h k).0))
load_unique p q (Ok x) (Err Load.Wide) h k = absurd (omega (arith, (loads_same h k).0))
load_unique p q (Err Load.Outside) (Ok y) h k = absurd (omega (arith, (loads_same h k).0))
load_unique p q (Err Load.Outside) (Err Load.Outside) h k = refl
load_unique p q (Err Load.Outside) (Err Load.Wide) h k = absurd (omega (arith, (loads_same h k).0))
load_unique p q (Err Load.Wide) (Ok y) h k = absurd (omega (arith, (loads_same h k).0))
load_unique p q (Err Load.Wide) (Err Load.Outside) h k = absurd (omega (arith, (loads_same h k).0))
load_unique p q (Err Load.Wide) (Err Load.Wide) h k = refl

pub load_numerator : (p : ℤ) (q : ℕ) (g : Register) → Loads p q 0 g → num_of g ≡ p
load_numerator p q g (loaded i l m) = rule_numerator p q g l

-- a pair inside the limits loads: refusal 8 never comes
pub load_exists : (p : ℤ) (q : ℕ) → Inside p q → (g : Register) × Loads p q 0 g
load_exists p q i =
    let a = digits_to q (cell_count q) p in
    let m = neg_ℤ (iter_num q (cell_count q) p +ℤ pos (over_to q a (cell_count q) (cell_count q))) in
    let l = load_is p q a m i.odd refl refl in
    (record { q = q; cells = a; memory = m }, loaded i l (load_narrow p q (record { q = q; cells = a; memory = m }) i l))

pub load_accepted : (p : ℤ) (q n : ℕ) (g : Register) → Inside p q → Loads p q n g → n ≡ 0
load_accepted p q n g i h = (loads_same h (load_exists p q i).1).0

pub loaded_valid : (p : ℤ) (q : ℕ) (g : Register) → Loads p q 0 g → Valid g
loaded_valid p q g (loaded i l m) = load_valid p q g i l m

pub load_emits : (n : ℕ) (p : ℤ) (q : ℕ) (g : Register) → Loads p q 0 g → out_to n g ≡ digits_to q n p
load_emits n p q g (loaded i l m) = emits n g (load_valid p q g i l m) ∙ ap₂ (λ (x : ℕ) (z : ℤ). digits_to x n z) l.q_is (rule_numerator p q g l)

-- ---- read back
pub reads_same : {g : Register} {m n q q' : ℕ} {p p' : ℤ} → ReadsBack g m p q → ReadsBack g n p' q' → (m ≡ n) × (p ≡ p') × (q ≡ q')
reads_same {g} {q} {q'} {p} {p'} (pair v a i) (pair w b j) = let e = lowest_unique (num_of g) g.q p q p' q' v.some a b in (refl, e.0, e.1)
reads_same (pair v a i) (A.ReadsBack.invalid w) = absurd (w v)
reads_same {g} {q} {p} (pair v a i) (A.ReadsBack.outside p' q' w b j) =
    let e = lowest_unique (num_of g) g.q p q p' q' v.some a b in absurd (j (subst (λ (z : ℤ). Inside z q') e.0 (subst (λ (x : ℕ). Inside p x) e.1 i)))
reads_same (A.ReadsBack.invalid v) (pair w b j) = absurd (v w)
reads_same (A.ReadsBack.invalid v) (A.ReadsBack.invalid w) = (refl, refl, refl)
reads_same (A.ReadsBack.invalid v) (A.ReadsBack.outside p q w b j) = absurd (v w)
reads_same {g} {q'} {p'} (A.ReadsBack.outside p q v a i) (pair w b j) =
    let e = lowest_unique (num_of g) g.q p' q' p q v.some b a in absurd (i (subst (λ (z : ℤ). Inside z q) e.0 (subst (λ (x : ℕ). Inside p' x) e.1 j)))
reads_same (A.ReadsBack.outside p q v a i) (A.ReadsBack.invalid w) = absurd (w v)
reads_same (A.ReadsBack.outside p q v a i) (A.ReadsBack.outside p' q' w b j) = (refl, refl, refl)

pub read_back_unique : (g : Register) (r s : Result Fraction ReadRefusal) → ReadsBack g (read_number r) (read_p r) (read_q r) → ReadsBack g (read_number s) (read_p s) (read_q s) → r ≡ s
read_back_unique g (Ok x) (Ok y) h k = let e = reads_same h k in λ i. Ok (record { p = e.1 i; q = e.2 i })
read_back_unique g (Ok x) (Err Read.Invalid) h k = absurd (omega (arith, (reads_same h k).0))
read_back_unique g (Ok x) (Err Read.Outside) h k = absurd (omega (arith, (reads_same h k).0))
read_back_unique g (Err Read.Invalid) (Ok y) h k = absurd (omega (arith, (reads_same h k).0))
read_back_unique g (Err Read.Invalid) (Err Read.Invalid) h k = refl
read_back_unique g (Err Read.Invalid) (Err Read.Outside) h k = absurd (omega (arith, (reads_same h k).0))
read_back_unique g (Err Read.Outside) (Ok y) h k = absurd (omega (arith, (reads_same h k).0))
read_back_unique g (Err Read.Outside) (Err Read.Invalid) h k = absurd (omega (arith, (reads_same h k).0))
read_back_unique g (Err Read.Outside) (Err Read.Outside) h k = refl

-- the fraction of a loaded register is the pair, so its lowest terms are the pair's
lowest_loaded : {p p' : ℤ} {q q' : ℕ} (g : Register) → Load p q g → Lowest (num_of g) g.q p' q' → Lowest p q p' q'
lowest_loaded {p} {p'} {q} {q'} g l k =
    subst (λ (x : ℕ). Lowest p x p' q') l.q_is (subst (λ (z : ℤ). Lowest z g.q p' q') (rule_numerator p q g l) k)

pub load_read_back : (p : ℤ) (q : ℕ) (g : Register) (n : ℕ) (p' : ℤ) (q' : ℕ) → Loads p q 0 g → ReadsBack g n p' q' → (n ≡ 0) × Lowest p q p' q'
load_read_back p q g n p' q' (loaded i l m) (pair v k j) = (refl, lowest_loaded g l k)
load_read_back p q g n p' q' (loaded i l m) (A.ReadsBack.invalid v) = absurd (v (load_valid p q g i l m))
load_read_back p q g n p' q' (loaded i l m) (A.ReadsBack.outside p'' q'' v k j) = absurd (j (inside_lowest p q p'' q'' i (lowest_loaded g l k)))

pub read_back_emits : (n : ℕ) (g h : Register) (p : ℤ) (q : ℕ) → ReadsBack g 0 p q → Loads p q 0 h → out_to n h ≡ out_to n g
read_back_emits n g h p q (pair v k i) l =
    load_emits n p q h l ∙ digits_same n p q (num_of g) g.q i.odd v.odd (sym k.same) ∙ sym (emits n g v)
