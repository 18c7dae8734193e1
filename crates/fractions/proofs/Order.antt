-- The order of pairs, and the smallest pair that fits.
--
--   not_after_antisym   the order is antisymmetric on pairs with q positive
--   not_after_total     .. and total
--   no_larger           what comes first is no larger
--   smallest_unique     the smallest pair that fits is one
--   smallest_lowest     it is in lowest terms: a common factor is odd, so the smaller pair would fit too
--   smallest_certified  a pair inside, in lowest terms, that fits n ≥ 61 bits is the smallest
--   smallest_settled    where 2 size² < 2^n, every pair inside that fits and is no larger is the same pair
--   none_some           where no pair fits there are bits: (0, 1) fits none at all
--   smallest_recovered  from 2 b + 1 bits a pair in lowest terms below 2^b is itself the smallest
use Rattle.std.proofs.Common.{◌≡◌, ℕ, zero, suc, ◌+◌, ◌-◌, ◌*◌, ◌/◌, ◌%◌, ◌^◌, ◌<◌, ◌≤◌, max, ◌⊎◌, ℤ, pos, negsuc, ◌-ℤ◌, ◌*ℤ◌, nat_abs, sym, refl, ap, ◌∙◌, ap₂, inl, inr, mul-le-mul_right, mul_comm, arith, lit≤, pow_pos, pow_mono, pow-add}
use Rattle.integers.proofs.Coprime.{quot}
use Rattle.integers.proofs.Ring.{#, ◌⊗◌, ◌⊖◌, ring1, ring4, ◌≔◌}
use Rattle.integers.proofs.Finite.{le_or_gt}
use Rattle.fractions.specs.Pairs.{limit, Inside, Fits, size, below, Then, NotAfter, Smallest, NoneFits, LowestTerms, SameFraction}
use Rattle.fractions.proofs.Same.{odd_cancel, same_fraction}
use Rattle.fractions.proofs.Lowest.{part, odd_left, Multiple, multiple, p_same, lowest_same}

-- each before the other: as large, and so on
both : {a b : ℕ} {P Q : Type 0} → Then a b P → Then b a Q → (a ≡ b) × (P × Q)
both (inl l) (inl m) = absurd (omega arith)
both (inl l) (inr m) = absurd (omega (arith, m.0))
both (inr l) (inl m) = absurd (omega (arith, l.0))
both (inr l) (inr m) = (l.0, (l.1, m.1))

-- a number is its size and its sign
signed : (x y : ℤ) → nat_abs x ≡ nat_abs y → below x ≡ below y → x ≡ y
signed (pos a) (pos b) h k = ap pos h
signed (pos a) (negsuc b) h k = absurd (omega arith)
signed (negsuc a) (pos b) h k = absurd (omega arith)
signed (negsuc a) (negsuc b) h k = ap negsuc (omega arith)

pub not_after_antisym : (p : ℤ) (q : ℕ) (p' : ℤ) (q' : ℕ) → NotAfter p q p' q' → NotAfter p' q' p q → (p ≡ p') × (q ≡ q')
not_after_antisym p q p' q' h k =
    let a = both h k in
    let b = both a.1.0 a.1.1 in
    let c = both b.1.0 b.1.1 in
    (signed p p' b.0 (omega (arith, c.1.0, c.1.1)), c.0)

-- one of two numbers is less, or they are equal and one of what follows holds
either : (a b : ℕ) {P Q : Type 0} → P ⊎ Q → Then a b P ⊎ Then b a Q
either a b {P} {Q} r = elim (le_or_gt b a) [ inl l ↦ at_least (le_or_gt a b) l | inr l ↦ inl (inl l) ]
  where
    equal : a ≡ b → P ⊎ Q → Then a b P ⊎ Then b a Q
    equal e (inl x) = inl (inr (e, x))
    equal e (inr x) = inr (inr (sym e, x))

    at_least : (a ≤ b) ⊎ (b < a) → b ≤ a → Then a b P ⊎ Then b a Q
    at_least (inl k) l = equal (omega arith) r
    at_least (inr k) l = inr (inl k)

pub not_after_total : (p : ℤ) (q : ℕ) (p' : ℤ) (q' : ℕ) → NotAfter p q p' q' ⊎ NotAfter p' q' p q
not_after_total p q p' q' =
    either (size p q) (size p' q') (either (nat_abs p) (nat_abs p') (either q q' (sides (le_or_gt (below p) (below p')))))
  where
    sides : (below p ≤ below p') ⊎ (below p' < below p) → (below p ≤ below p') ⊎ (below p' ≤ below p)
    sides (inl l) = inl l
    sides (inr l) = inr (omega arith)

pub no_larger : (p : ℤ) (q : ℕ) (p' : ℤ) (q' : ℕ) → NotAfter p q p' q' → size p q ≤ size p' q'
no_larger p q p' q' (inl l) = omega arith
no_larger p q p' q' (inr e) = omega (arith, e.0)

pub smallest_unique : (n A : ℕ) (p : ℤ) (q : ℕ) (p' : ℤ) (q' : ℕ) → Smallest n A p q → Smallest n A p' q' → (p ≡ p') × (q ≡ q')
smallest_unique n A p q p' q' h k = not_after_antisym p q p' q' (h.first p' q' k.inside k.fits) (k.first p q h.inside h.fits)

-- ---- lowest terms
-- d ≥ 1 times a number is no smaller
times : (d x : ℕ) → 1 ≤ d → x ≤ d * x
times d x h = omega (arith, mul-le-mul_right x h)

pub smallest_lowest : (n A : ℕ) (p : ℤ) (q : ℕ) → Smallest n A p q → LowestTerms p q
smallest_lowest n A p q h d hq hp = let y = part d p hp in go d (q / d) y.0 (quot d q hq) y.1.0 y.1.1
  where
    go : (d c : ℕ) (y : ℤ) → q ≡ d * c → p ≡ pos d *ℤ y → nat_abs p ≡ d * nat_abs y → d ≡ 1
    go d c y eq ep ea = which d some eq ea
      where
        odd : (d * c) % 2 ≡ 1
        odd = ap (λ (m : ℕ). m % 2) (sym eq) ∙ h.inside.odd

        odd_d : d % 2 ≡ 1
        odd_d = odd_left d c odd

        odd_c : c % 2 ≡ 1
        odd_c = odd_left c d (ap (λ (m : ℕ). m % 2) (mul_comm c d) ∙ odd)

        some : 1 ≤ d
        some = omega (arith, odd_d)

        within : Inside y c
        within = record { odd = odd_c; some = omega (arith, odd_c); q_most = omega (arith, eq, h.inside.q_most, times d c some); p_most = omega (arith, ea, h.inside.p_most, times d (nat_abs y) some) }

        fits : Fits n A y c
        fits = odd_cancel n (pos d) (pos A *ℤ pos c -ℤ y) h.fits.0 odd_d
            (ring4 (λ A d c y. d ⊗ (A ⊗ c ⊖ y) ≔ A ⊗ (d ⊗ c) ⊖ d ⊗ y) tt (pos A) (pos d) (pos c) y
            ∙ ap₂ (λ (m : ℕ) (x : ℤ). pos A *ℤ pos m -ℤ x) (sym eq) (sym ep) ∙ h.fits.1)

        less : size p q ≤ size y c
        less = no_larger p q y c (h.first y c within fits)

        which : (d : ℕ) → 1 ≤ d → q ≡ d * c → nat_abs p ≡ d * nat_abs y → d ≡ 1
        which zero l e f = absurd (omega arith)
        which (suc zero) l e f = refl
        which (suc (suc d)) l e f =
            absurd (larger (nat_abs p) q (nat_abs y) c (omega (arith, e, times (suc d) c (omega arith))) (omega (arith, f, times (suc d) (nat_abs y) (omega arith))) within.some less)
          where
            larger : (a b x c : ℕ) → 2 * c ≤ b → 2 * x ≤ a → 1 ≤ c → max a b ≤ max x c → ⊥
            larger a b x c h k s m = omega arith

-- ---- the certificate: inside, in lowest terms, and fits n ≥ 61 bits
pub smallest_certified : (n A : ℕ) (p : ℤ) (q : ℕ) → 61 ≤ n → Inside p q → Fits n A p q → LowestTerms p q → Smallest n A p q
smallest_certified n A p q l i f co = record { inside = i; fits = f; first = first }
  where
    first : (p' : ℤ) (q' : ℕ) → Inside p' q' → Fits n A p' q' → NotAfter p q p' q'
    first p' q' j g = go u.m u.q_is u.p_is
      where
        same : SameFraction p q p' q'
        same = same_fraction n A limit p q p' q' f g i.p_most i.q_most j.p_most j.q_most (omega (arith, pow_mono {i = 61} l))

        u : Multiple p q p' q'
        u = multiple p q p' q' i.some co same

        go : (m : ℕ) → q' ≡ q * m → nat_abs p' ≡ nat_abs p * m → NotAfter p q p' q'
        go zero e k = absurd (omega (arith, e, j.some))
        go (suc zero) e k =
            let eq : q ≡ q' = omega arith in
            let ep : p ≡ p' = p_same p p' q i.some (ap (λ (n : ℕ). p *ℤ pos n) eq ∙ same) in
            let ea : nat_abs p ≡ nat_abs p' = ap nat_abs ep in
            inr (ap₂ max ea eq, inr (ea, inr (eq, omega (arith, ap below ep))))
        go (suc (suc m)) e k = inl (larger (nat_abs p) q (nat_abs p') q' (omega (arith, e)) (omega (arith, k)) i.some)
          where
            larger : (a b x c : ℕ) → 2 * b ≤ c → 2 * a ≤ x → 1 ≤ b → max a b < max x c
            larger a b x c h k s = omega arith

-- ---- when a burst was long enough
pub smallest_settled : (n A : ℕ) (p : ℤ) (q : ℕ) (p' : ℤ) (q' : ℕ) → Smallest n A p q → 2 * (size p q * size p q) < 2 ^ n
    → Inside p' q' → Fits n A p' q' → size p' q' ≤ size p q → (p' ≡ p) × (q' ≡ q)
smallest_settled n A p q p' q' h l i f s = go u.m u.q_is u.p_is
  where
    same : SameFraction p q p' q'
    same = same_fraction n A (size p q) p q p' q' h.fits f (omega arith) (omega arith) (omega arith) (omega arith) l

    u : Multiple p q p' q'
    u = multiple p q p' q' h.inside.some (smallest_lowest n A p q h) same

    larger : (a b x c : ℕ) → 2 * b ≤ c → 2 * a ≤ x → 1 ≤ b → max x c ≤ max a b → ⊥
    larger a b x c h k s m = omega arith

    go : (m : ℕ) → q' ≡ q * m → nat_abs p' ≡ nat_abs p * m → (p' ≡ p) × (q' ≡ q)
    go zero e k = absurd (omega (arith, e, i.some))
    go (suc zero) e k =
        let eq : q ≡ q' = omega arith in
        (sym (p_same p p' q h.inside.some (ap (λ (n : ℕ). p *ℤ pos n) eq ∙ same)), sym eq)
    go (suc (suc m)) e k = absurd (larger (nat_abs p) q (nat_abs p') q' (omega (arith, e)) (omega (arith, k)) h.inside.some s)

squares : (X b n : ℕ) → X + 1 ≡ 2 ^ b → 2 * b + 1 ≤ n → 2 * (X * X) < 2 ^ n
squares X b n e l = omega (arith, pow_mono {i = 2 * b + 1} l, pow-add 2 (2 * b) 1, twice, ap₂ (λ (x y : ℕ). x * y) e e)
  where
    twice : 2 ^ (2 * b) ≡ 2 ^ b * 2 ^ b
    twice = ap (λ (k : ℕ). 2 ^ k) (sum b) ∙ pow-add 2 b b
      where
        sum : (b : ℕ) → 2 * b ≡ b + b
        sum b = omega arith

pub smallest_recovered : (n A b : ℕ) (p : ℤ) (q : ℕ) (p' : ℤ) (q' : ℕ) → Smallest n A p q → Inside p' q' → Fits n A p' q' → LowestTerms p' q'
    → nat_abs p' < 2 ^ b → q' < 2 ^ b → 2 * b + 1 ≤ n → (p ≡ p') × (q ≡ q')
smallest_recovered n A b p q p' q' h i f co lp lq l =
    lowest_same p q p' q' h.inside.some i.some (smallest_lowest n A p q h) co (go (2 ^ b - 1) (omega (arith, pow_pos b)) (no_larger p q p' q' (h.first p' q' i f)))
  where
    go : (X : ℕ) → X + 1 ≡ 2 ^ b → size p q ≤ size p' q' → SameFraction p q p' q'
    go X e s = same_fraction n A X p q p' q' h.fits f (omega arith) (omega arith) (omega arith) (omega arith) (squares X b n e l)

-- where there are no bits, (0, 1) fits
pub none_some : (n A : ℕ) → NoneFits n A → 0 < n
none_some zero A f =
    let a = pos A *ℤ pos 1 -ℤ pos 0 in
    absurd (f (pos 0) 1 (record { odd = refl; some = lit≤ tt; q_most = lit≤ tt; p_most = lit≤ tt }) (a, ring1 (λ x. x ≔ # 1 ⊗ x) tt a))
none_some (suc n) A f = omega arith
