-- A number with one factor divided out as often as may be.
--
--   Parted m l r                r is m with some factors l divided out
--   parted_step                 on the way through them
--   without_more                where l divides m, at least one l is divided out
--   without_divides, _some      r divides m, and is at least 1 where m is
--   without_less, _nearer       where l divides m, r is less than m, and nearer to l where l is at most m / l: trial division ends
use mathlib.Core.Path.{◌≡◌, sym, ap, ◌∙◌}
use Prim.Native.Nat.{ℕ, zero, suc, ◌-◌, ◌*◌, ◌/◌, ◌%◌, ◌^◌, ◌≤◌, ◌<◌}
use native.Mathlib.Omega.{arith}
use native.Mathlib.Decide.{ℕ_discrete}
use native.Mathlib.Nat.{one-mul, mul_assoc, mul-mod_left, le_of_dvd, dvd_iff_mod-eq-zero, pow-zero, pow-suc}
use Rattle.integers.specs.Numbers.{Divides}
use Rattle.integers.proofs.Coprime.{quot, quot_divides, div_some}
use Rattle.periods.specs.Finding.{Without}
use Rattle.periods.proofs.Powers.{root}

pub record Parted (m l r : ℕ) : Type 0 where
  pub times : ℕ
  pub whole : m ≡ l ^ times * r
  pub some : 1 ≤ r
  pub two : 2 ≤ l

pub parted_step : (m l r : ℕ) → Parted m l r → Divides l r → Parted m l (r / l)
parted_step m l r w d = record {
  times = suc w.times;
  whole = w.whole ∙ ap (λ n. l ^ w.times * n) (quot l r d)
      ∙ sym (ap (λ n. n * (r / l)) (pow-suc l w.times) ∙ mul_assoc (l ^ w.times) l (r / l));
  some = div_some (r / l) r w.some (quot_divides l r d);
  two = w.two;
}

pub without_more : (m l r : ℕ) → Divides l m → Without m l r → (k : ℕ) × (m ≡ l ^ suc k * r)
without_more m l r d w = go w.times w.whole
  where
    go : (k : ℕ) → m ≡ l ^ k * r → (k : ℕ) × (m ≡ l ^ suc k * r)
    go zero e = absurd (w.none (ap (λ n. n % l) (sym (e ∙ ap (λ n. n * r) (pow-zero l) ∙ one-mul r)) ∙ d))
    go (suc k) e = (k, e)

pub without_divides : (m l r : ℕ) → Without m l r → Divides r m
without_divides m l r w = ap (λ n. n % r) w.whole ∙ mul-mod_left (l ^ w.times) r

pub without_some : (m l r : ℕ) → 1 ≤ m → Without m l r → 1 ≤ r
without_some m l r s w = div_some r m s (without_divides m l r w)

pub without_less : (m l r : ℕ) → 1 ≤ m → Divides l m → Without m l r → r < m
without_less m l r s d w = elim (ℕ_discrete r m) [
  | yes e ↦ absurd (w.none (ap (λ n. n % l) e ∙ d))
  | no n ↦ omega (arith, le_of_dvd s ((dvd_iff_mod-eq-zero r).1 (without_divides m l r w)))
]

pub without_nearer : (m l r : ℕ) → 2 ≤ l → l ≤ m / l → Divides l m → Without m l r → r - l < m - l
without_nearer m l r t k d w =
    let a = root l m t k in
    let b = without_less m l r (omega arith) d w in
    omega arith
