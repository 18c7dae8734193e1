-- The ordinal-th of some records.
--
--   nth_within   an ordinal that names a record is from 1 to the number of records
--   nth_unique   an ordinal names one record
--   nth_append   more records behind change none of the ordinals
--   nth_exists   an ordinal from 1 to the number of records names one
use Prim.Native.Nat.{ℕ, zero, suc, ◌≤◌, ◌<◌}
use mathlib.Core.Path.{◌≡◌, refl}
use mathlib.Core.List.{List, [], ◌∷◌, ◌++◌}
use native.Mathlib.Omega.{arith}
use lib.ListN.{length}
use Rattle.records.specs.Block.{Entry}
use Rattle.antennas.specs.Antennas.{Nth, here, later}

pub nth_within : {n : ℕ} {es : List Entry} {e : Entry} → Nth n es e → (0 < n) × (n ≤ length es)
nth_within here = (omega arith, omega arith)
nth_within (later k) = let w = nth_within k in (omega arith, omega arith)

same_nth : {n m : ℕ} {es fs : List Entry} {d e : Entry} → Nth n es d → Nth m fs e → n ≡ m → es ≡ fs → d ≡ e
same_nth here here p q = cc
same_nth here (later k) p q = absurd (omega (arith, (nth_within k).0))
same_nth (later k) here p q = absurd (omega (arith, (nth_within k).0))
same_nth (later j) (later k) p q = same_nth j k (omega arith) (cc)

pub nth_unique : {n : ℕ} {es : List Entry} {d e : Entry} → Nth n es d → Nth n es e → d ≡ e
nth_unique j k = same_nth j k refl refl

pub nth_append : {n : ℕ} {es : List Entry} {e : Entry} (fs : List Entry) → Nth n es e → Nth n (es ++ fs) e
nth_append fs here = here
nth_append fs (later k) = later (nth_append fs k)

-- the first, or one of the rest
pub nth_cons : {P : Type 0} {n : ℕ} {d e : Entry} {es : List Entry} → Nth n (d ∷ es) e → (d ≡ e → P) → ((m : ℕ) → Nth m es e → P) → P
nth_cons here f g = f refl
nth_cons (later k) f g = g _ k

pub nth_none : {n : ℕ} {e : Entry} → Nth n [] e → ⊥
nth_none k = omega (arith, nth_within k)

pub nth_exists : (n : ℕ) (es : List Entry) → 0 < n → n ≤ length es → (e : Entry) × Nth n es e
nth_exists zero es low high = absurd (omega arith)
nth_exists (suc n) [] low high = absurd (omega arith)
nth_exists (suc zero) (e ∷ es) low high = (e, here)
nth_exists (suc (suc n)) (d ∷ es) low high = let r = nth_exists (suc n) es (omega arith) (omega arith) in (r.0, later r.1)
