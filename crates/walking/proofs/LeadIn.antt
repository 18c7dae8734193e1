-- A numerator outside -q .. 0: each step at least halves the distance, so it comes inside, and what is outside never comes back.
--
--   dist_next        a step takes the distance d to nearer q d
--   iter_inside      from a distance below 2^(b+n), n steps leave one below 2^b
--   inside_stays     what is inside stays inside
--   outside_once     what is outside never comes back
--   enters_exists    so every walk comes inside
--   enters_within    .. within b steps where |p| is below 2^b
--   enters_zero, enters_suc   the first step inside, known by two numerators
--   inside_iff       the distance is 0 exactly from -q to 0
use mathlib.Core.Path.{◌≡◌, refl, sym, ap, ap₂, ◌∙◌, subst}
use mathlib.Core.Logic.{◌⊎◌, inl, inr, ◌↔◌}
use Prim.Native.Nat.{ℕ, zero, suc, ◌+◌, ◌-◌, ◌*◌, ◌/◌, ◌%◌, ◌^◌, ◌≤◌, ◌<◌, min}
use native.Mathlib.Omega.{arith}
use native.Mathlib.Nat.{add-zero, zero-add, add-suc, suc-add}
use native.Mathlib.Numerals.{add-one}
use native.Mathlib.Decide.{ℕ_discrete}
use lib.IntN.{ℤ, pos, negsuc, neg_ℤ, nat_abs}
use lib.Signed.{◌≤ℤ◌}
use Rattle.integers.proofs.Finite.{least, le_or_gt}
use Rattle.integers.proofs.Parts.{up, down, nat_abs_is, le_of, le_to, up_neg, down_neg, parts}
use Rattle.fractions.specs.Expansion.{next_num, iter_num}
use Rattle.fractions.proofs.Numerators.{step_cases, iter_add}
use Rattle.walking.specs.Inner.{dist, nearer, Enters}

pub dist_parts : (q : ℕ) (p : ℤ) → dist q p ≡ up p + (down p - q)
dist_parts q (pos n) = omega arith
dist_parts q (negsuc n) = omega arith

-- ---- a step, in ℕ
pub nearer_even : (q d : ℕ) → d % 2 ≡ 0 → nearer q d ≡ d / 2
nearer_even q d h = ap (λ (b : ℕ). (d - b * q) / 2) h ∙ half d
  where
    half : (d : ℕ) → (d - 0 * q) / 2 ≡ d / 2
    half d = omega arith

pub nearer_odd : (q d : ℕ) → d % 2 ≡ 1 → nearer q d ≡ (d - q) / 2
nearer_odd q d h = ap (λ (b : ℕ). (d - b * q) / 2) h ∙ half d
  where
    half : (d : ℕ) → (d - 1 * q) / 2 ≡ (d - q) / 2
    half d = omega arith

parity : (n : ℕ) → (n % 2 ≡ 0) ⊎ (n % 2 ≡ 1)
parity n = elim (ℕ_discrete (n % 2) 0) [ yes h ↦ inl h | no h ↦ inr (omega arith) ]

pub nearer_half : (q d : ℕ) → nearer q d ≤ d / 2
nearer_half q d = elim (parity d) [ inl h ↦ omega (arith, nearer_even q d h) | inr h ↦ omega (arith, nearer_odd q d h) ]

-- r, by its parts e and f, is half of n or of -b
half_up : (n e f : ℕ) → min e f ≡ 0 → n + 2 * f ≡ 2 * e → (e ≡ n / 2) × (f ≡ 0)
half_up n e f h k = omega arith

half_down : (b e f : ℕ) → min e f ≡ 0 → 2 * f ≡ 2 * e + b → (e ≡ 0) × (f ≡ b / 2)
half_down b e f h k = omega arith

above_even : (q n e f : ℕ) → min e f ≡ 0 → n + 2 * f ≡ 2 * e → e + (f - q) ≡ n / 2
above_even q n e f h k = let s = half_up n e f h k in omega arith

above_odd : (q n e f : ℕ) → min e f ≡ 0 → n + 2 * f ≡ q + 2 * e → e + (f - q) ≡ (n - q) / 2
above_odd q n e f h k = elim (le_or_gt q n) [
  | inl l ↦ (let s = half_up (n - q) e f h (omega arith) in omega arith)
  | inr l ↦ (let s = half_down (q - n) e f h (omega arith) in omega arith)
]

below_even : (q b : ℕ) → q % 2 ≡ 1 → b % 2 ≡ 0 → b / 2 - q ≡ nearer q (b - q)
below_even q b o h = elim (le_or_gt b q) [
  | inl l ↦ (let e : b / 2 - q ≡ (b - q) / 2 = omega arith in e) ∙ sym (nearer_even q (b - q) (omega arith))
  | inr l ↦ (let e : b / 2 - q ≡ (b - q - q) / 2 = omega arith in e) ∙ sym (nearer_odd q (b - q) (omega arith))
]

below_odd : (q b : ℕ) → q % 2 ≡ 1 → b % 2 ≡ 1 → (q + b) / 2 - q ≡ nearer q (b - q)
below_odd q b o h = (let e : (q + b) / 2 - q ≡ (b - q) / 2 = omega arith in e) ∙ sym (nearer_even q (b - q) (omega arith))

pub dist_next : (q : ℕ) (p : ℤ) → q % 2 ≡ 1 → dist q (next_num q p) ≡ nearer q (dist q p)
dist_next q (pos n) o = dist_parts q r ∙ elim (step_cases q (pos n) o) [
  | inl s ↦ above_even q n (up r) (down r) (parts r) (omega (arith, s.is)) ∙ sym (nearer_even q n (omega (arith, s.par)))
  | inr s ↦ above_odd q n (up r) (down r) (parts r) (omega (arith, s.is)) ∙ sym (nearer_odd q n (omega (arith, s.par)))
]
  where
    r : ℤ
    r = next_num q (pos n)
dist_next q (negsuc n) o = dist_parts q r ∙ elim (step_cases q (negsuc n) o) [
  | inl s ↦ (let h = half_down (suc n) (up r) (down r) (parts r) (omega (arith, s.is)) in
      ap₂ (λ e f. e + (f - q)) h.0 h.1 ∙ zero-add _ ∙ below_even q (suc n) o (omega (arith, s.par)))
  | inr s ↦ (let h = half_down (q + suc n) (up r) (down r) (parts r) (omega (arith, s.is)) in
      ap₂ (λ e f. e + (f - q)) h.0 h.1 ∙ zero-add _ ∙ below_odd q (suc n) o (omega (arith, s.par)))
]
  where
    r : ℤ
    r = next_num q (negsuc n)

pub dist_half : (q : ℕ) (p : ℤ) → q % 2 ≡ 1 → dist q (next_num q p) ≤ dist q p / 2
dist_half q p o = subst (λ n. n ≤ dist q p / 2) (sym (dist_next q p o)) (nearer_half q (dist q p))

-- ---- n steps
pub iter_one : (q n : ℕ) (p : ℤ) → iter_num q (n + 1) p ≡ next_num q (iter_num q n p)
unfolding iter_num
iter_one q n p = rw (add-one n)

iter_dist : (q n : ℕ) (p : ℤ) → q % 2 ≡ 1 → dist q (iter_num q n p) ≤ dist q p - n
unfolding iter_num
iter_dist q zero p o = omega arith
iter_dist q (suc n) p o = below (dist q p) n (dist q (iter_num q n p)) _ (iter_dist q n p o) (dist_half q (iter_num q n p) o)
  where
    below : (d n k m : ℕ) → k ≤ d - n → m ≤ k / 2 → m ≤ d - suc n
    below d n k m h l = omega arith

pub iter_inside : (q b n : ℕ) (p : ℤ) → q % 2 ≡ 1 → dist q p < 2 ^ (b + n) → dist q (iter_num q n p) < 2 ^ b
unfolding iter_num
iter_inside q b zero p o h = rw (add-zero b) at h
iter_inside q b (suc n) p o h = below (dist q (iter_num q n p)) _ (iter_inside q (suc b) n p o (rw (add-suc b n, ← suc-add b n) at h)) (dist_half q (iter_num q n p) o)
  where
    below : (k m : ℕ) → k < 2 ^ suc b → m ≤ k / 2 → m < 2 ^ b
    below k m h l = omega arith

pub outside_once : (q : ℕ) (p : ℤ) (n : ℕ) → q % 2 ≡ 1 → 1 ≤ n → iter_num q n p ≡ p → dist q p ≡ 0
outside_once q p n o h e = go (dist q p) (dist q (iter_num q n p)) (iter_dist q n p o) (ap (dist q) e)
  where
    go : (a b : ℕ) → b ≤ a - n → b ≡ a → a ≡ 0
    go a b k e = omega arith

pub inside_stays : (q : ℕ) (p : ℤ) (n : ℕ) → q % 2 ≡ 1 → dist q p ≡ 0 → dist q (iter_num q n p) ≡ 0
inside_stays q p n o d = go (dist q p) (dist q (iter_num q n p)) d (iter_dist q n p o)
  where
    go : (a b : ℕ) → a ≡ 0 → b ≤ a - n → b ≡ 0
    go a b d k = omega arith

-- ---- the first step inside
dist_most : (q : ℕ) (p : ℤ) → dist q p ≤ nat_abs p
dist_most q p = omega (arith, dist_parts q p, nat_abs_is p)

pub inside_after : (q b : ℕ) (p : ℤ) → q % 2 ≡ 1 → nat_abs p < 2 ^ b → dist q (iter_num q b p) ≡ 0
inside_after q b p o h = none (dist q (iter_num q b p)) (iter_inside q 0 b p o (rw (zero-add b) (below (dist_most q p) h)))
  where
    none : (n : ℕ) → n < 1 → n ≡ 0
    none n h = omega arith

    below : {m n k : ℕ} → m ≤ n → n < k → m < k
    below l h = omega arith

pub enters_exists : (q : ℕ) (p : ℤ) → q % 2 ≡ 1 → (L : ℕ) × Enters q p L
enters_exists q p o = least (λ n. dist q (iter_num q n p) ≡ 0) (λ n. ℕ_discrete (dist q (iter_num q n p)) 0) (dist q p) (home (dist q p) _ (iter_dist q (dist q p) p o))
  where
    home : (a b : ℕ) → b ≤ a - a → b ≡ 0
    home a b h = omega arith

pub enters_within : (q b : ℕ) (p : ℤ) (L : ℕ) → q % 2 ≡ 1 → nat_abs p < 2 ^ b → Enters q p L → L ≤ b
enters_within q b p L o h e = e.first b (inside_after q b p o h)

-- the first step inside is known by two numerators: it is inside, and the one before it is not
pub enters_zero : (q : ℕ) (p : ℤ) → dist q p ≡ 0 → Enters q p 0
unfolding iter_num
enters_zero q p h = record { holds = h; first = λ k _. omega arith }

pub enters_suc : (q : ℕ) (p : ℤ) (L : ℕ) → q % 2 ≡ 1 → 0 < dist q (iter_num q L p) → dist q (iter_num q (suc L) p) ≡ 0 → Enters q p (suc L)
enters_suc q p L o h i = record { holds = i; first = λ k j. elim (le_or_gt (suc L) k) [ inl l ↦ l | inr l ↦ absurd (sooner k j l) ] }
  where
    sooner : (k : ℕ) → dist q (iter_num q k p) ≡ 0 → k < suc L → ⊥
    sooner k j l =
        let n : k + (L - k) ≡ L = omega arith in
        let e : iter_num q (L - k) (iter_num q k p) ≡ iter_num q L p = sym (iter_add q k (L - k) p) ∙ ap (λ n. iter_num q n p) n in
        omega (arith, ap (dist q) (sym e) ∙ inside_stays q (iter_num q k p) (L - k) o j, h)

-- ---- inside is from -q to 0
pub inside_parts : (q : ℕ) (p : ℤ) → dist q p ≡ 0 → (up p ≡ 0) × (down p ≤ q)
inside_parts q p d = omega (arith, dist_parts q p)

pub inside_iff : (q : ℕ) (p : ℤ) → dist q p ≡ 0 ↔ (neg_ℤ (pos q) ≤ℤ p) × (p ≤ℤ pos 0)
inside_iff q p = (
  (λ h. let s = inside_parts q p h in (le_of (neg_ℤ (pos q)) p (omega (arith, up_neg (pos q), down_neg (pos q))), le_of p (pos 0) (omega arith))),
  (λ h. omega (arith, dist_parts q p, le_to h.0, le_to h.1, up_neg (pos q), down_neg (pos q), parts p)),
)

-- ---- as the loop finds it: d is the distance after n steps, and none before was 0
pub record Leads (q : ℕ) (p : ℤ) (n d : ℕ) : Type 0 where
  pub odd : q % 2 ≡ 1
  pub small : nat_abs p < 2 ^ 61
  pub is : d ≡ dist q (iter_num q n p)
  pub first : (k : ℕ) → dist q (iter_num q k p) ≡ 0 → n ≤ k

pub leads_start : (q : ℕ) (p : ℤ) (d : ℕ) → q % 2 ≡ 1 → nat_abs p < 2 ^ 61 → d ≡ dist q p → Leads q p 0 d
unfolding iter_num
leads_start q p d o h e = record { odd = o; small = h; is = e; first = λ k _. omega arith }

leads_on : {q : ℕ} {p : ℤ} {n d : ℕ} → Leads q p n d → 0 < d → (k : ℕ) → dist q (iter_num q k p) ≡ 0 → n < k
leads_on {q} {p} {n} {d} w l k h = elim (ℕ_discrete n k) [
  | yes e ↦ let f : ⊥ = omega (arith, w.is ∙ ap (λ m. dist q (iter_num q m p)) e ∙ h) in absurd f
  | no e ↦ omega (arith, w.first k h)
]

pub leads_few : (q : ℕ) (p : ℤ) (n d : ℕ) → Leads q p n d → 0 < d → n < 61
leads_few q p n d w l = leads_on w l 61 (inside_after q 61 p w.odd w.small)

pub leads_step : (q : ℕ) (p : ℤ) (n d e : ℕ) → Leads q p n d → 0 < d → e ≡ nearer q d → Leads q p (n + 1) e
leads_step q p n d e w l h = record {
  odd = w.odd;
  small = w.small;
  is = h ∙ ap (nearer q) w.is ∙ sym (dist_next q (iter_num q n p) w.odd) ∙ ap (dist q) (sym (iter_one q n p));
  first = λ k i. omega (arith, leads_on w l k i);
}

pub leads_end : (q : ℕ) (p : ℤ) (n d : ℕ) → Leads q p n d → (0 < d → ⊥) → Enters q p n
leads_end q p n d w l = record { holds = sym w.is ∙ none d l; first = w.first }
  where
    none : (d : ℕ) → (0 < d → ⊥) → d ≡ 0
    none zero l = refl
    none (suc d) l = absurd (l (omega arith))
