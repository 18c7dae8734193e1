-- Fermat's little theorem for the base two, with no binomials.
--
--   fermat   an odd prime l divides 2^(l - 1) - 1
-- Modulo l = 2 h + 1, 2 (h + i) is 2 i - 1, so that 2^h (2 h)! is h! (1 3 .. (2 h - 1)). But 2^h h! (1 3 .. (2 h - 1)) is (2 h)! itself.
-- So 2^(2 h) (2 h)! is (2 h)!, and l is coprime to (2 h)!.
use Rattle.std.proofs.Common.{◌≡◌, ℕ, zero, suc, ◌+◌, ◌-◌, ◌*◌, ◌/◌, ◌%◌, ◌^◌, ◌<◌, sym, refl, ap, ◌∙◌, subst, add-zero, add-suc, mod-eq_of_lt, mul_assoc, pow-suc, mul-one, arith, pow_pos, pow-add}
use Rattle.integers.specs.Numbers.{Divides}
use Rattle.integers.proofs.Coprime.{euclid}
use Rattle.integers.proofs.Modulo.{cong_of, cong_r, cong_less, mul_mod_l}
use Rattle.integers.proofs.Primes.{Prime, prime_coprime}

-- 1 2 .. n
abbrev fact : ℕ → ℕ
fact zero = 1
fact (suc n) = fact n * suc n

-- 1 3 .. (2 k - 1)
abbrev odds : ℕ → ℕ
odds zero = 1
odds (suc k) = odds k * (2 * k + 1)

fact_double : (k : ℕ) → fact (2 * k) ≡ 2 ^ k * (fact k * odds k)
fact_double zero = refl
fact_double (suc k) =
    ap (λ n. fact n) two ∙ ap (λ (x : ℕ). x * suc (2 * k) * suc (suc (2 * k))) (fact_double k)
    ∙ ring k (2 ^ k) (fact k) (odds k) ∙ ap (λ (x : ℕ). x * (fact k * suc k * (odds k * (2 * k + 1)))) (sym (pow-suc 2 k))
  where
    two : 2 * suc k ≡ suc (suc (2 * k))
    two = omega arith

    ring : (k P F O : ℕ) → P * (F * O) * suc (2 * k) * suc (suc (2 * k)) ≡ P * 2 * (F * suc k * (O * (2 * k + 1)))
    ring k P F O = omega arith

fact_climb : (h k q : ℕ) → q ≡ 2 * h + 1 → 2 ^ k * fact (h + k) % q ≡ fact h * odds k % q
fact_climb h zero q e = ap (λ x. x % q) (ap (λ n. 1 * fact n) (add-zero h) ∙ one (fact h))
  where
    one : (x : ℕ) → 1 * x ≡ x * 1
    one x = omega arith
fact_climb h (suc k) q e =
    ap (λ n. 2 ^ suc k * fact n % q) (add-suc h k)
    ∙ cong_of q (2 ^ suc k * (fact (h + k) * suc (h + k))) (2 ^ k * fact (h + k) * (2 * k + 1)) 0 (2 ^ k * fact (h + k))
    (alg (2 ^ k) (2 ^ suc k) (fact (h + k)) (suc (h + k)) q (2 * k + 1) (pow-suc 2 k) (omega arith))
    ∙ sym (mul_mod_l q (2 ^ k * fact (h + k)) (2 * k + 1)) ∙ ap (λ x. x * (2 * k + 1) % q) (fact_climb h k q e)
    ∙ mul_mod_l q (fact h * odds k) (2 * k + 1) ∙ ap (λ x. x % q) (mul_assoc (fact h) (odds k) (2 * k + 1))
  where
    alg : (P Q F s q b : ℕ) → Q ≡ P * 2 → 2 * s ≡ q + b → Q * (F * s) + q * 0 ≡ P * F * b + q * (P * F)
    alg P Q F s q b e f = omega (arith, ap (λ (x : ℕ). x * (F * s)) e, ap (λ (x : ℕ). P * F * x) f)

fact_cancel : (l x k : ℕ) → Prime l → k < l → Divides l (x * fact k) → Divides l x
fact_cancel l x zero p s h = ap (λ y. y % l) (sym (mul-one x)) ∙ h
fact_cancel l x (suc k) p s h =
    fact_cancel l x k p (omega arith)
    (euclid l (suc k) (x * fact k) (omega arith) (prime_coprime l (suc k) p small) (ap (λ y. y % l) (mul_assoc x (fact k) (suc k)) ∙ h))
  where
    small : Divides l (suc k) → ⊥
    small d = omega (arith, mod-eq_of_lt s)

pub fermat : (l : ℕ) → Prime l → l % 2 ≡ 1 → Divides l (2 ^ (l - 1) - 1)
fermat l p o = subst (λ n. Divides l (2 ^ n - 1)) (sym two) (fact_cancel l (2 ^ (h + h) - 1) (h + h) p (omega (arith, two)) gone)
  where
    h : ℕ
    h = l / 2

    two : l - 1 ≡ h + h
    two = omega arith

    same : 2 ^ (h + h) * fact (h + h) % l ≡ fact (h + h) % l
    same =
        ap (λ x. x * fact (h + h) % l) (pow-add 2 h h) ∙ ap (λ x. x % l) (mul_assoc (2 ^ h) (2 ^ h) (fact (h + h)))
        ∙ cong_r l (2 ^ h) (2 ^ h * fact (h + h)) (fact h * odds h) (fact_climb h h l (omega arith))
        ∙ ap (λ x. x % l) (sym (ap (λ n. fact n) (double h) ∙ fact_double h))
      where
        double : (h : ℕ) → h + h ≡ 2 * h
        double h = omega arith

    gone : Divides l ((2 ^ (h + h) - 1) * fact (h + h))
    gone = cong_less l (2 ^ (h + h) - 1) (fact (h + h)) (ap (λ x. x * fact (h + h) % l) whole ∙ same)
      where
        whole : 2 ^ (h + h) - 1 + 1 ≡ 2 ^ (h + h)
        whole = omega (arith, pow_pos (h + h))
