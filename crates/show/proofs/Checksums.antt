-- What a checksum tells: a change of any one byte changes it.
--
--   turn_less        a turn leaves a sum below the modulus
--   sum_turn         the sum goes on with the next byte
--   sum_end          and stands where there is none
--   checksum_tells   bytes that differ in one place alone, and have one checksum, are equal there too
use mathlib.Core.Path.{◌≡◌, ap, ◌∙◌}
use mathlib.Core.Logic.{⊎_elim}
use mathlib.Core.List.{List, [], ◌∷◌, ◌++◌}
use Prim.Native.Nat.{ℕ, suc, ◌+◌, ◌*◌, ◌/◌, ◌%◌, ◌≤◌, ◌<◌}
use native.Mathlib.Omega.{arith}
use lib.ListN.{length, drop, get_or, drop_of_length-le}
use lib.Seq.{drop-cons}
use Rattle.integers.proofs.Finite.{lt_or_ge}
use Rattle.show.specs.Checksums.{modulus, sum_from, checksum_of}

-- 31 is prime to the modulus, so a turn takes two sums to one only where they are one: the quotients k and l of the two differ by 31 (u - v), and by less than 31
one_start : (s t k l : ℕ) → s < modulus → t < modulus → s * 31 + modulus * l ≡ t * 31 + modulus * k → s ≡ t
one_start s t k l h g e =
    let u = 19 * s + 40158 * l in
    let v = 19 * t + 40158 * k in
    let apart : k + 31 * v ≡ l + 31 * u = omega arith in
    ⊎_elim (λ (x : u < v). omega arith) (λ (x : v ≤ u). ⊎_elim (λ (y : v < u). omega arith) (λ (y : u ≤ v). omega arith) (lt_or_ge v u)) (lt_or_ge u v)

same_start : (s t b : ℕ) → s < modulus → t < modulus → (s * 31 + b) % modulus ≡ (t * 31 + b) % modulus → s ≡ t
same_start s t b h g e = one_start s t ((s * 31 + b) / modulus) ((t * 31 + b) / modulus) h g (omega arith)

same_byte : (s a b : ℕ) → a < 256 → b < 256 → (s * 31 + a) % modulus ≡ (s * 31 + b) % modulus → a ≡ b
same_byte s a b h k e = omega arith

pub turn_less : (n : ℕ) → n % modulus < modulus
turn_less n = omega arith

pub sum_turn : (s : ℕ) (bytes : List ℕ) (i : ℕ) → i < length bytes → sum_from s (drop i bytes) ≡ sum_from ((s * 31 + get_or bytes i 0) % modulus) (drop (i + 1) bytes)
unfolding sum_from
sum_turn s bytes i h =
    let next : suc i ≡ i + 1 = omega arith in
    ap (sum_from s) (drop-cons bytes i 0 h) ∙ ap (λ (n : ℕ). sum_from ((s * 31 + get_or bytes i 0) % modulus) (drop n bytes)) next

pub sum_end : (s : ℕ) (bytes : List ℕ) (i : ℕ) → length bytes ≤ i → sum_from s (drop i bytes) ≡ s
unfolding sum_from
sum_end s bytes i h = ap (sum_from s) (drop_of_length-le bytes h)

starts_same : (bytes : List ℕ) (s t : ℕ) → s < modulus → t < modulus → sum_from s bytes ≡ sum_from t bytes → s ≡ t
unfolding sum_from
starts_same [] s t h k e = e
starts_same (b ∷ bytes) s t h k e = same_start s t b h k (starts_same bytes _ _ (turn_less (s * 31 + b)) (turn_less (t * 31 + b)) e)

tells : (front back : List ℕ) (s a b : ℕ) → a < 256 → b < 256 → sum_from s (front ++ a ∷ back) ≡ sum_from s (front ++ b ∷ back) → a ≡ b
unfolding sum_from
tells [] back s a b h k e = same_byte s a b h k (starts_same back _ _ (turn_less (s * 31 + a)) (turn_less (s * 31 + b)) e)
tells (x ∷ front) back s a b h k e = tells front back _ a b h k e

pub checksum_tells : (front back : List ℕ) (a b : ℕ) → a < 256 → b < 256 → checksum_of (front ++ a ∷ back) ≡ checksum_of (front ++ b ∷ back) → a ≡ b
checksum_tells front back a b = tells front back 1 a b
