-- The order of two modulo an odd q.
--
--   power_one_iff, order_divides   the rule in the document's words: 2^t - 1 is divisible by q
--   power_drop, power_multiple     an exponent with 2^t = 1 drops out of a sum, and so do its multiples
--   order_multiple                 2^t = 1 exactly where the order divides t
--   order_exists, order_most       every odd q has its order, at most q - 1 (1 for q = 1)
use mathlib.Core.Path.{◌≡◌, refl, sym, ap, ◌∙◌}
use mathlib.Core.Logic.{inl, inr, ◌↔◌}
use Prim.Native.Nat.{ℕ, zero, suc, ◌+◌, ◌-◌, ◌*◌, ◌/◌, ◌%◌, ◌^◌, ◌≤◌, ◌<◌, max}
use native.Mathlib.Omega.{arith}
use native.Mathlib.Nat.{mod-eq_of_lt, mod-lt, one-mul, mul-one, mul-zero, mul-suc, div-add-mod, le_trans}
use native.Mathlib.Decide.{ℕ_discrete, map_dec}
use lib.Pow.{pow-add, pow_pos}
use Rattle.integers.specs.Numbers.{Least}
use Rattle.integers.proofs.Finite.{least, le_or_gt, Twice, pigeon}
use Rattle.integers.proofs.Coprime.{quot, mod_drop, two_cancel}
use Rattle.integers.proofs.Modulo.{cong_less, mul_mod_l}
use Rattle.periods.specs.Orders.{UnitPower, Order}

-- ---- the rule in the document's words: 2^t - 1 divisible by q
pub power_one_iff : (q t : ℕ) → (2 ^ t % q ≡ 1 % q) ↔ ((2 ^ t - 1) % q ≡ 0)
power_one_iff q t = (
  (λ h. ap (λ n. n % q) (sym (mul-one (2 ^ t - 1)))
      ∙ cong_less q (2 ^ t - 1) 1 (ap (λ n. n % q) (mul-one (2 ^ t - 1 + 1) ∙ sym whole) ∙ h)),
  (λ h. ap (λ n. n % q) whole ∙ mod_drop q (2 ^ t - 1) 1 h),
)
  where
    whole : 2 ^ t ≡ 2 ^ t - 1 + 1
    whole = omega (arith, pow_pos t)

abbrev pub Divisible : ℕ → ℕ → Type 0
Divisible q t = (1 ≤ t) × ((2 ^ t - 1) % q ≡ 0)

pub order_divides : (q T : ℕ) → Order q T ↔ Least (Divisible q) T
order_divides q T = (
  (λ r. record {
    holds = (r.holds.some, (power_one_iff q T).0 r.holds.one);
    first = λ t h. r.first t (record { some = h.0; one = (power_one_iff q t).1 h.1 });
  }),
  (λ r. record {
    holds = record { some = r.holds.0; one = (power_one_iff q T).1 r.holds.1 };
    first = λ t h. r.first t (h.some, (power_one_iff q t).0 h.one);
  }),
)

-- ---- exponents with 2^t = 1
pub power_drop : (q a b : ℕ) → 2 ^ a % q ≡ 1 % q → 2 ^ (a + b) % q ≡ 2 ^ b % q
power_drop q a b h =
    ap (λ n. n % q) (pow-add 2 a b) ∙ sym (mul_mod_l q (2 ^ a) (2 ^ b)) ∙ ap (λ n. n * 2 ^ b % q) h ∙ mul_mod_l q 1 (2 ^ b)
    ∙ ap (λ n. n % q) (one-mul (2 ^ b))

pub power_multiple : (q T k : ℕ) → 2 ^ T % q ≡ 1 % q → 2 ^ (T * k) % q ≡ 1 % q
power_multiple q T zero h = ap (λ n. 2 ^ n % q) (mul-zero T)
power_multiple q T (suc k) h = ap (λ n. 2 ^ n % q) (mul-suc T k) ∙ power_drop q (T * k) T (power_multiple q T k h) ∙ h

-- 2^t = 1 mod q exactly where the order divides t
pub order_multiple : (q T t : ℕ) → Order q T → (2 ^ t % q ≡ 1 % q) ↔ (t % T ≡ 0)
order_multiple q T t r = (
  (λ h. go (t % T) (mod-lt t r.holds.some) (rest h)),
  (λ h. ap (λ n. 2 ^ n % q) (quot T t h) ∙ power_multiple q T (t / T) r.holds.one),
)
  where
    rest : 2 ^ t % q ≡ 1 % q → 2 ^ (t % T) % q ≡ 1 % q
    rest h =
        sym (power_drop q (T * (t / T)) (t % T) (power_multiple q T (t / T) r.holds.one))
        ∙ ap (λ n. 2 ^ n % q) (div-add-mod t T) ∙ h

    go : (s : ℕ) → s < T → 2 ^ s % q ≡ 1 % q → s ≡ 0
    go zero a e = refl
    go (suc s) a e = let f : ⊥ = omega (arith, r.first (suc s) (record { some = omega arith; one = e })) in absurd f

power_some : (q i : ℕ) → q % 2 ≡ 1 → 1 < q → 1 ≤ 2 ^ i % q
power_some q i o l = elim (ℕ_discrete (2 ^ i % q) 0) [
  | yes h ↦ let f : ⊥ = omega (arith, two_cancel q i 1 o (ap (λ m. m % q) (one-mul (2 ^ i)) ∙ h), mod-eq_of_lt l) in absurd f
  | no h ↦ omega arith
]

power_again : (q i k : ℕ) → q % 2 ≡ 1 → 2 ^ i % q ≡ 2 ^ (k + i) % q → 2 ^ k % q ≡ 1 % q
power_again q i k o h =
    (power_one_iff q k).1
    (two_cancel q i (2 ^ k - 1) o
    (cong_less q (2 ^ k - 1) (2 ^ i) (ap (λ n. n * 2 ^ i % q) whole ∙ ap (λ n. n % q) (sym (pow-add 2 k i)) ∙ sym h)))
  where
    whole : 2 ^ k - 1 + 1 ≡ 2 ^ k
    whole = omega (arith, pow_pos k)

-- ---- every odd q has its order, at most q - 1 (1 for q = 1): q - 1 remainders, none of them 0
record Within (q N : ℕ) : Type 0 where
  after : ℕ
  power : UnitPower q after
  most : after ≤ N

within_one : (q : ℕ) → q ≡ 1 → Within q (max 1 (q - 1))
within_one q e = record {
  after = 1;
  power = record { some = omega arith; one = ap (λ n. 2 ^ 1 % n) e ∙ sym (ap (λ n. 1 % n) e) };
  most = omega arith;
}

within_more : (q : ℕ) → q % 2 ≡ 1 → 1 < q → Within q (max 1 (q - 1))
within_more q o l = go (pigeon (q - 1) (λ i. 2 ^ i % q - 1) (λ i _. omega (arith, mod-lt (2 ^ i) {m = q} (omega arith), power_some q i o l)))
  where
    go : Twice (λ i. 2 ^ i % q - 1) (q - 1) → Within q (max 1 (q - 1))
    go t = record {
      after = t.j - t.i;
      power = record {
        some = omega (arith, t.less);
        one = power_again q t.i (t.j - t.i) o (same ∙ ap (λ n. 2 ^ n % q) whole);
      };
      most = omega (arith, t.last);
    }
      where
        same : 2 ^ t.i % q ≡ 2 ^ t.j % q
        same = omega (arith, t.same, power_some q t.i o l, power_some q t.j o l)

        whole : t.j ≡ t.j - t.i + t.i
        whole = omega (arith, t.less)

within : (q : ℕ) → q % 2 ≡ 1 → Within q (max 1 (q - 1))
within q o = elim (le_or_gt q 1) [ inl l ↦ within_one q (omega arith) | inr l ↦ within_more q o l ]

dec_power : (q t : ℕ) → Dec (UnitPower q t)
dec_power q zero = no (λ u. let f : ⊥ = omega (arith, u.some) in f)
dec_power q (suc t) = map_dec (λ e. record { some = omega arith; one = e }) (λ u. u.one) (ℕ_discrete (2 ^ suc t % q) (1 % q))

pub order_exists : (q : ℕ) → q % 2 ≡ 1 → (T : ℕ) × Order q T
order_exists q o = let w = within q o in least (UnitPower q) (dec_power q) w.after w.power

pub order_most : (q T : ℕ) → q % 2 ≡ 1 → Order q T → T ≤ max 1 (q - 1)
order_most q T o r = let w = within q o in le_trans (r.first w.after w.power) w.most
