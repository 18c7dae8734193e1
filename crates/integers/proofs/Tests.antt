-- What the answer of a test tells.
--
--   decides_by       a test decides P where P follows from true, and the contrary from false
--   decides_unique   two answers to one question are equal
--   not_both         no test is true and false
--   and_T            two tests joined: each of them holds
use Rattle.std.proofs.Common.{◌≡◌, Bool, true, false, ◌&&◌, T, sym, refl, ◌∙◌, subst}
use Rattle.integers.specs.Numbers.{Decides}

pub decides_unique : (P : Type 0) (r s : Bool) → Decides P r → Decides P s → r ≡ s
decides_unique P true true h k = refl
decides_unique P true false h k = absurd (k h)
decides_unique P false true h k = absurd (h k)
decides_unique P false false h k = refl

pub decides_by : {P : Type 0} (t : Bool) → (t ≡ true → P) → (t ≡ false → P → ⊥) → Decides P t
decides_by true f g = f refl
decides_by false f g = g refl

pub not_both : (b : Bool) → b ≡ true → b ≡ false → ⊥
not_both b p q = subst T (sym p ∙ q) tt

pub and_T : (a b : Bool) → T (a && b) → T a × T b
and_T true b t = (tt, t)
and_T false b t = absurd t
