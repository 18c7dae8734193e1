-- Search below a bound, the least number with a property, and the pigeonhole principle.
use Rattle.std.proofs.Common.{◌≡◌, ℕ, zero, suc, ◌-◌, ◌<◌, ◌≤◌, min, ◌⊎◌, subst, inl, inr, not-suc-le-zero, le_antisymm, arith}
use native.Mathlib.Decide.{ℕ_discrete, dec_le}
use Rattle.integers.specs.Numbers.{Least}
pub use Rattle.std.proofs.lemmas.Bool.{cases_lt as lt_or_ge}

pub le_or_gt : (a b : ℕ) → (a ≤ b) ⊎ (b < a)
le_or_gt a b = elim (dec_le a b) [ yes h ↦ inl h | no h ↦ inr (omega arith) ]

pub record Found (P : ℕ → Type 0) (n : ℕ) : Type 0 where
  pub at : ℕ
  pub below : at < n
  pub least : Least P at

abbrev None : (ℕ → Type 0) → ℕ → Type 0
None P n = (k : ℕ) → k < n → P k → ⊥

pub seek : (P : ℕ → Type 0) → ((n : ℕ) → Dec (P n)) → (n : ℕ) → Found P n ⊎ None P n
seek P d zero = inr (λ k h _. absurd (not-suc-le-zero h))
seek P d (suc n) = go (seek P d n) (d n)
  where
    go : Found P n ⊎ None P n → Dec (P n) → Found P (suc n) ⊎ None P (suc n)
    go (inl f) e = inl (record { at = f.at; below = omega (arith, f.below); least = f.least })
    go (inr f) (yes e) = inl (record { at = n; below = omega arith; least = record { holds = e; first = λ k h. late k h } })
      where
        late : (k : ℕ) → P k → n ≤ k
        late k h = elim (le_or_gt n k) [ inl l ↦ l | inr l ↦ absurd (f k l h) ]
    go (inr f) (no e) = inr (λ k l h. none k l h)
      where
        none : (k : ℕ) → k < suc n → P k → ⊥
        none k l h = elim (le_or_gt n k) [ inl m ↦ e (subst P (same m) h) | inr m ↦ f k m h ]
          where
            same : n ≤ k → k ≡ n
            same m = omega arith

-- what some number has, a least one has
pub least : (P : ℕ → Type 0) → ((n : ℕ) → Dec (P n)) → (n : ℕ) → P n → (m : ℕ) × Least P m
least P d n h = elim (seek P d (suc n)) [ inl f ↦ (f.at, f.least) | inr f ↦ absurd (f n (omega arith) h) ]

pub least_unique : {P : ℕ → Type 0} {m n : ℕ} → Least P m → Least P n → m ≡ n
least_unique {m} {n} a b = le_antisymm (a.first n b.holds) (b.first m a.holds)

-- ---- N + 1 numbers below N are not all different
pub record Twice (f : ℕ → ℕ) (N : ℕ) : Type 0 where
  pub i : ℕ
  pub j : ℕ
  pub less : i < j
  pub last : j ≤ N
  pub same : f i ≡ f j

-- the numbers but v, closed up
abbrev close : ℕ → ℕ → ℕ
close v x = x - min 1 (x - v)

close_is : (v x : ℕ) → (x ≡ v → ⊥) → ((x < v) × (close v x ≡ x)) ⊎ ((v < x) × (suc (close v x) ≡ x))
close_is v x h = elim (le_or_gt x v) [ inl l ↦ inl (omega arith) | inr l ↦ inr (omega arith) ]

close_inj : (v x y : ℕ) → (x ≡ v → ⊥) → (y ≡ v → ⊥) → close v x ≡ close v y → x ≡ y
close_inj v x y h k e = go (close v x) (close v y) e (close_is v x h) (close_is v y k)
  where
    go : (a b : ℕ) → a ≡ b → ((x < v) × (a ≡ x)) ⊎ ((v < x) × (suc a ≡ x)) → ((y < v) × (b ≡ y)) ⊎ ((v < y) × (suc b ≡ y)) → x ≡ y
    go a b e (inl s) (inl t) = omega arith
    go a b e (inl s) (inr t) = omega arith
    go a b e (inr s) (inl t) = omega arith
    go a b e (inr s) (inr t) = omega arith

close_lt : (v x N : ℕ) → x < suc N → v < suc N → (x ≡ v → ⊥) → close v x < N
close_lt v x N h k n = omega arith

pub pigeon : (N : ℕ) (f : ℕ → ℕ) → ((i : ℕ) → i ≤ N → f i < N) → Twice f N
pigeon zero f h = absurd (not-suc-le-zero (h 0 (omega arith)))
pigeon (suc N) f h = go (pigeon N (λ i. close (f (suc N)) (f i))) (seek (λ i. f i ≡ f (suc N)) (λ i. ℕ_discrete (f i) (f (suc N))) (suc N))
  where
    go : (((i : ℕ) → i ≤ N → close (f (suc N)) (f i) < N) → Twice (λ i. close (f (suc N)) (f i)) N)
        → Found (λ i. f i ≡ f (suc N)) (suc N) ⊎ None (λ i. f i ≡ f (suc N)) (suc N) → Twice f (suc N)
    go ih (inl s) = record { i = s.at; j = suc N; less = s.below; last = omega arith; same = s.least.holds }
    go ih (inr none) =
        let t = ih (λ i l. close_lt (f (suc N)) (f i) N (h i (omega arith)) (h (suc N) (omega arith)) (none i (omega arith))) in
        record {
          i = t.i;
          j = t.j;
          less = t.less;
          last = omega (arith, t.last);
          same = close_inj (f (suc N)) (f t.i) (f t.j) (none t.i (omega (arith, t.less, t.last))) (none t.j (omega (arith, t.last))) t.same;
        }
