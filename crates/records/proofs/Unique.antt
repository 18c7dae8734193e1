-- Any two results that meet a contract are equal; and a refusal has a number.
--
--   record_at_unique, form_of_unique, number_unique, place_unique, two_bytes_unique   for each function
--   number_some   no refusal has the number 0, which is that of none
use Prim.Native.Nat.{ℕ}
use mathlib.Core.Path.{◌≡◌, sym, ◌∙◌}
use mathlib.Core.List.{List}
use native.Mathlib.Omega.{arith}
use Rattle.records.specs.declared.Refusal.{Refusal}
use Rattle.records.specs.declared.Refusal.TheVariants as X
use Rattle.records.specs.Block.{two_bytes, Head, head_at, Form, form_of, number_of, place_of}

pub record_at_unique : (block : List ℕ) (at : ℕ) (x y : Head) → x ≡ head_at block at → y ≡ head_at block at → x ≡ y
record_at_unique block at x y p q = p ∙ sym q

pub form_of_unique : (block : List ℕ) (x y : Form) → x ≡ form_of block → y ≡ form_of block → x ≡ y
form_of_unique block x y p q = p ∙ sym q

pub number_unique : (r : Refusal) (x y : ℕ) → x ≡ number_of r → y ≡ number_of r → x ≡ y
number_unique r x y p q = p ∙ sym q

pub place_unique : (r : Refusal) (x y : ℕ) → x ≡ place_of r → y ≡ place_of r → x ≡ y
place_unique r x y p q = p ∙ sym q

pub two_bytes_unique : (bytes : List ℕ) (at x y : ℕ) → x ≡ two_bytes bytes at → y ≡ two_bytes bytes at → x ≡ y
two_bytes_unique bytes at x y p q = p ∙ sym q

pub number_some : (x : Refusal) → number_of x ≡ 0 → ⊥
number_some X.TooLong e = omega arith
number_some (X.ShortHeader p) e = omega arith
number_some (X.WrongMark p) e = omega arith
number_some (X.BadMeter p) e = omega arith
number_some (X.BadCount p) e = omega arith
number_some (X.RunsPast p) e = omega arith
number_some (X.SpareBit p) e = omega arith
