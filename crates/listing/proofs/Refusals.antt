-- What cannot be refused: a pair inside the limits by loading, whose register is valid.
use mathlib.Core.Path.{◌≡◌, subst}
use Prim.Native.Nat.{ℕ}
use native.Mathlib.Omega.{arith}
use lib.IntN.{ℤ}
use Rattle.fractions.specs.Pairs.{Inside}
use Rattle.registers.specs.Registers.{Valid}
use Rattle.registers.specs.Answers.{Loads, loaded}
use Rattle.registers.specs.Answers as R
use Rattle.registers.specs.declared.Register.{Register}
use Rattle.std.specs.Prelude.{Result, Err}
use Rattle.registers.specs.declared.LoadRefusal.{LoadRefusal}
use Rattle.registers.specs.declared.LoadRefusal.TheVariants as Load
use Rattle.registers.proofs.Loading.{load_valid}
use Rattle.registers.proofs.Memory.{load_narrow}

abbrev loads : ℤ → ℕ → Result Register LoadRefusal → Type 0
loads p q a = Loads p q (R.load_number a) (R.load_register a)

pub into_valid : {p : ℤ} {q : ℕ} {g : Register} → Loads p q 0 g → Valid g
into_valid {p} {q} {g} (loaded i l m) = load_valid p q g i l m

outside_not : {p : ℤ} {q : ℕ} {g : Register} → Inside p q → Loads p q 4 g → ⊥
outside_not i (R.outside n) = n i

wide_not : {p : ℤ} {q : ℕ} {g : Register} → Loads p q 8 g → ⊥
wide_not {p} {q} (R.wide g i l m) = omega (arith, load_narrow p q g i l)

pub load_not_refused : {p : ℤ} {q : ℕ} {a : Result Register LoadRefusal} {e : LoadRefusal} → Inside p q → loads p q a → a ≡ Err e → ⊥
load_not_refused {p} {q} {e = Load.Outside} i h is = outside_not i (subst (loads p q) is h)
load_not_refused {p} {q} {e = Load.Wide} i h is = wide_not (subst (loads p q) is h)
