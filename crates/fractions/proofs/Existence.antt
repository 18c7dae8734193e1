-- Every burst has its answer.
--
--   fits_dec          whether a pair fits is decided by a remainder
--   rank, rank_order  the order of pairs inside the limits as an order of numbers
--   smallest_exists   of the pairs inside the limits that fit a burst one is the smallest, or none fits
use Rattle.std.proofs.Common.{◌≡◌, ℕ, zero, suc, ◌+◌, ◌*◌, ◌/◌, ◌%◌, ◌^◌, ◌<◌, ◌≤◌, ◌⊎◌, ℤ, pos, negsuc, ◌-ℤ◌, ◌*ℤ◌, nat_abs, sym, refl, ap, ◌∙◌, subst, ap₂, inl, inr, arith}
use native.Mathlib.Nat.{mul-mod_right}
use native.Mathlib.Decide.{ℕ_discrete, dec_le}
use Rattle.integers.proofs.Parts.{nat_abs-*}
use Rattle.integers.proofs.Finite.{le_or_gt, lt_or_ge, Found, seek}
use Rattle.fractions.specs.Pairs.{limit, Inside, Fits, size, below, Then, NotAfter, Smallest, NoneFits}
use Rattle.fractions.proofs.Lowest.{part}

-- ---- deciding
pub fits_dec : (n A : ℕ) (p : ℤ) (q : ℕ) → Dec (Fits n A p q)
fits_dec n A p q = go (ℕ_discrete (nat_abs x % 2 ^ n) 0)
  where
    x : ℤ
    x = pos A *ℤ pos q -ℤ p

    go : Dec (nat_abs x % 2 ^ n ≡ 0) → Dec (Fits n A p q)
    go (yes h) = let y = part (2 ^ n) x h in yes (y.0, y.1.0)
    go (no h) = no (λ f. h (ap (λ (m : ℕ). m % 2 ^ n) (ap nat_abs f.1 ∙ nat_abs-* (pos (2 ^ n)) f.0) ∙ mul-mod_right (2 ^ n) (nat_abs f.0)))

inside_dec : (p : ℤ) (q : ℕ) → Dec (Inside p q)
inside_dec p q = go (ℕ_discrete (q % 2) 1) (dec_le 1 q) (dec_le q limit) (dec_le (nat_abs p) limit)
  where
    go : Dec (q % 2 ≡ 1) → Dec (1 ≤ q) → Dec (q ≤ limit) → Dec (nat_abs p ≤ limit) → Dec (Inside p q)
    go (yes o) (yes s) (yes h) (yes k) = yes (record { odd = o; some = s; q_most = h; p_most = k })
    go (yes o) (yes s) (yes h) (no k) = no (λ i. k i.p_most)
    go (yes o) (yes s) (no h) k = no (λ i. h i.q_most)
    go (yes o) (no s) h k = no (λ i. s i.some)
    go (no o) s h k = no (λ i. o i.odd)

-- ---- a pair's number: size, |p|, q and the sign of p, the first weighing most
abbrev past : ℕ
past = 1073741824

pub rank : ℤ → ℕ → ℕ
rank p q = 2 * (past * (past * size p q + nat_abs p) + q) + below p

below-most : (p : ℤ) → below p ≤ 1
below-most (pos n) = omega arith
below-most (negsuc n) = omega arith

thens : {rest : Type 0} (a b : ℕ) → (b < a → ⊥) → (a ≡ b → rest) → Then a b rest
thens a b n f = elim (lt_or_ge a b) [ inl l ↦ inl l | inr g ↦ inr (same g, f (same g)) ]
  where
    same : b ≤ a → a ≡ b
    same g = elim (le_or_gt a b) [ inl l ↦ omega arith | inr l ↦ absurd (n l) ]

in_order : (s a q b s' a' q' b' : ℕ) → a < past → a' < past → q < past → q' < past → b ≤ 1 → b' ≤ 1
    → 2 * (past * (past * s + a) + q) + b ≤ 2 * (past * (past * s' + a') + q') + b' → Then s s' (Then a a' (Then q q' (b ≤ b')))
in_order s a q b s' a' q' b' ha ha' hq hq' hb hb' h =
    thens s s' (λ g. omega arith) (λ e. thens a a' (λ g. omega arith) (λ f. thens q q' (λ g. omega arith) (λ k. omega arith)))

pub rank_order : (p : ℤ) (q : ℕ) (p' : ℤ) (q' : ℕ) → Inside p q → Inside p' q' → rank p q ≤ rank p' q' → NotAfter p q p' q'
unfolding rank
rank_order p q p' q' i j h =
    in_order (size p q) (nat_abs p) q (below p) (size p' q') (nat_abs p') q' (below p') (omega (arith, i.p_most)) (omega (arith, j.p_most)) (omega (arith, i.q_most)) (omega (arith, j.q_most))
    (below-most p) (below-most p') h

-- ---- the pair with a number
abbrev sign_of : ℕ → ℕ → ℤ
sign_of zero a = pos a
sign_of (suc s) zero = pos 0
sign_of (suc s) (suc a) = negsuc a

p_at : ℕ → ℤ
p_at k = sign_of (k % 2) (k / 2 / past % past)

q_at : ℕ → ℕ
q_at k = k / 2 % past

sign_back : (p : ℤ) → sign_of (below p) (nat_abs p) ≡ p
sign_back (pos n) = refl
sign_back (negsuc n) = refl

two_back : (x b : ℕ) → b ≤ 1 → ((2 * x + b) / 2 ≡ x) × ((2 * x + b) % 2 ≡ b)
two_back x b h = (omega arith, omega arith)

many_back : (x b : ℕ) → b < past → ((past * x + b) / past ≡ x) × ((past * x + b) % past ≡ b)
many_back x b h = (omega arith, omega arith)

module _ (p : ℤ) (q : ℕ) (i : Inside p q) where
  high : ℕ
  high = past * size p q + nat_abs p

  halves : (rank p q / 2 ≡ past * high + q) × (rank p q % 2 ≡ below p)
  unfolding rank high
  halves = two_back (past * high + q) (below p) (below-most p)

  parts : ((past * high + q) / past ≡ high) × ((past * high + q) % past ≡ q)
  parts = many_back high q (omega (arith, i.q_most))

  p_back : p_at (rank p q) ≡ p
  unfolding p_at high
  p_back =
      ap₂ sign_of halves.1
      (ap (λ (x : ℕ). x / past % past) halves.0 ∙ ap (λ (x : ℕ). x % past) parts.0 ∙ (many_back (size p q) (nat_abs p) (omega (arith, i.p_most))).1)
      ∙ sign_back p

  q_back : q_at (rank p q) ≡ q
  unfolding q_at
  q_back = ap (λ (x : ℕ). x % past) halves.0 ∙ parts.1

-- ---- the first of those that fit
module _ (n A : ℕ) where
  record Good (k : ℕ) : Type 0 where
    inside : Inside (p_at k) (q_at k)
    fits : Fits n A (p_at k) (q_at k)
    ranked : rank (p_at k) (q_at k) ≡ k

  good_dec : (k : ℕ) → Dec (Good k)
  good_dec k = go (inside_dec (p_at k) (q_at k)) (fits_dec n A (p_at k) (q_at k)) (ℕ_discrete (rank (p_at k) (q_at k)) k)
    where
      go : Dec (Inside (p_at k) (q_at k)) → Dec (Fits n A (p_at k) (q_at k)) → Dec (rank (p_at k) (q_at k) ≡ k) → Dec (Good k)
      go (yes i) (yes f) (yes e) = yes (record { inside = i; fits = f; ranked = e })
      go (yes i) (yes f) (no e) = no (λ g. e g.ranked)
      go (yes i) (no f) e = no (λ g. f g.fits)
      go (no i) f e = no (λ g. i g.inside)

  good_rank : (p : ℤ) (q : ℕ) → Inside p q → Fits n A p q → Good (rank p q)
  good_rank p q i f =
      let a = p_back p q i in
      let b = q_back p q i in
      record {
        inside = subst (λ (y : ℕ). Inside (p_at (rank p q)) y) (sym b) (subst (λ (x : ℤ). Inside x q) (sym a) i);
        fits = subst (λ (y : ℕ). Fits n A (p_at (rank p q)) y) (sym b) (subst (λ (x : ℤ). Fits n A x q) (sym a) f);
        ranked = ap₂ rank a b;
      }

  most : (p : ℤ) (q : ℕ) → Inside p q → rank p q < 2 ^ 92
  unfolding rank
  most p q i = omega (arith, below-most p, i.p_most, i.q_most)

  pub smallest_exists : ((p : ℤ) × (q : ℕ) × Smallest n A p q) ⊎ NoneFits n A
  smallest_exists = go (seek Good good_dec (2 ^ 92))
    where
      go : Found Good (2 ^ 92) ⊎ ((k : ℕ) → k < 2 ^ 92 → Good k → ⊥) → ((p : ℤ) × (q : ℕ) × Smallest n A p q) ⊎ NoneFits n A
      go (inl f) =
          let k = f.at in
          let g = f.least.holds in
          inl (
            p_at k,
            q_at k,
            record {
              inside = g.inside;
              fits = g.fits;
              first = λ p' q' i h. rank_order (p_at k) (q_at k) p' q' g.inside i (subst (λ (x : ℕ). x ≤ rank p' q') (sym g.ranked) (f.least.first (rank p' q') (good_rank p' q' i h)));
            },
          )
      go (inr none) = inr (λ p q i h. none (rank p q) (most p q i) (good_rank p q i h))
