-- Lead-in and period: of numerators, and so of states, since state and numerator determine each other.
--
--   loops_unique     lead-in and period are determined
--   numerators_loop  the first step inside and the order of two modulo the denominator in lowest terms are a numerator's lead-in and period
--   states_loop      a register's are its numerator's
--   walk_exists      every valid register has its lead-in and period
--   walk_order       its period is the order of two modulo the denominator in lowest terms
--   lead_in_within   its lead-in is at most b where |p| is below 2^b
--   walk_bounded     in lowest terms, with |p| below 2^b: L ≤ b, T is the order of two modulo q, L + T ≤ b + max 1 (q - 1)
--   repeats_iff      a state repeats without lead-in exactly where -q ≤ p ≤ 0, p unreduced
--   lead_in_none     so its lead-in is 0 exactly there
--   walks_unique     the numbers of an answer are determined
--   walk_unique      so an answer of the walk is one
use mathlib.Core.Path.{◌≡◌, refl, sym, ap, ◌∙◌, subst}
use mathlib.Core.Logic.{◌↔◌}
use Prim.Native.Nat.{ℕ, ◌+◌, ◌-◌, ◌%◌, ◌^◌, ◌≤◌, ◌<◌, max}
use native.Mathlib.Omega.{arith}
use native.Mathlib.Nat.{zero-add, le_antisymm}
use lib.IntN.{ℤ, pos, neg_ℤ, nat_abs}
use lib.Signed.{◌≤ℤ◌}
use Rattle.fractions.specs.Pairs.{LowestTerms, Lowest}
use Rattle.fractions.specs.Expansion.{iter_num}
use Rattle.fractions.proofs.Numerators.{iter_add}
use Rattle.registers.specs.Registers.{Valid, iter_of, num_of}
use Rattle.registers.specs.declared.Register.{Register}
use Rattle.registers.proofs.Validity.{valid_iter, iter_q}
use Rattle.registers.proofs.States.{numerator_iter, state_unique}
use Rattle.periods.specs.Orders.{Order}
use Rattle.periods.proofs.Orders.{order_exists, order_most}
use Rattle.walking.specs.Walks.{Loops, states_of, Walks, walked, invalid, past, number_of, lead_in_of, period_of, sum_of}
use Rattle.walking.specs.Inner.{dist, Enters}
use Rattle.std.specs.Prelude.{Result, Ok, Err}
use Rattle.walking.specs.declared.Way.{Way}
use Rattle.walking.specs.declared.Refusal.{Refusal}
use Rattle.walking.specs.declared.Refusal.TheVariants.{Invalid, Past}
use Rattle.walking.proofs.LeadIn.{outside_once, enters_exists, enters_within, inside_iff}
use Rattle.walking.proofs.Round.{round_iff}
use Rattle.fractions.proofs.Lowest.{lowest_exists, lowest_odd}

pub loops_unique : {A : Type 0} {s : ℕ → A} {L T M U : ℕ} → Loops s L T → Loops s M U → (L ≡ M) × (T ≡ U)
loops_unique {L} {T} {M} {U} a b =
    let f = a.least M U b.some b.again in let g = b.least L T a.some a.again in (le_antisymm f.0 g.0, le_antisymm f.1 g.1)

-- ---- numerators
pub numerators_loop : (q : ℕ) (p : ℤ) {p' : ℤ} {q' L T : ℕ} → q % 2 ≡ 1 → Lowest p q p' q' → Enters q p L → Order q' T → Loops (λ n. iter_num q n p) L T
numerators_loop q p {p'} {q'} {L} {T} o w e r = record {
  some = r.holds.some;
  again = (round_iff q L T p o w e.holds).1 r.holds.one;
  least = λ l t a h.
      let i = outside_once q (iter_num q l p) t o a (sym (iter_add q l t p) ∙ h) in
      (e.first l i, r.first t (record { some = a; one = (round_iff q l t p o w i).0 h }));
}

-- ---- states
pub states_loop : (g : Register) {L T : ℕ} → Valid g → Loops (λ n. iter_num g.q n (num_of g)) L T → Loops (states_of g) L T
states_loop g {L} {T} v w = record {
  some = w.some;
  again = state_unique (iter_of (L + T) g) (iter_of L g) (valid_iter (L + T) g v) (valid_iter L g v) (iter_q (L + T) g ∙ sym (iter_q L g))
      (numerator_iter (L + T) g v ∙ w.again ∙ sym (numerator_iter L g v));
  least = λ l t a h. w.least l t a (sym (numerator_iter (l + t) g v) ∙ ap num_of h ∙ numerator_iter l g v);
}

pub walk_of : (g : Register) {p' : ℤ} {q' L T : ℕ} → Valid g → Lowest (num_of g) g.q p' q' → Enters g.q (num_of g) L → Order q' T → Loops (states_of g) L T
walk_of g v w e r = states_loop g v (numerators_loop g.q (num_of g) v.odd w e r)

pub walk_exists : (g : Register) → Valid g → (L : ℕ) × (T : ℕ) × Loops (states_of g) L T
walk_exists g v =
    let w = lowest_exists (num_of g) g.q v.some in
    let e = enters_exists g.q (num_of g) v.odd in
    let r = order_exists w.1 (lowest_odd w.2 v.odd) in
    (e.0, r.0, walk_of g v w.2 e.1 r.1)

-- and lead-in and period are these
walk_parts : (g : Register) {p' : ℤ} {q' L T : ℕ} → Valid g → Lowest (num_of g) g.q p' q' → Loops (states_of g) L T → Enters g.q (num_of g) L × Order q' T
walk_parts g {p'} {q'} {L} {T} v w s =
    let e = enters_exists g.q (num_of g) v.odd in
    let r = order_exists q' (lowest_odd w v.odd) in
    let u = loops_unique (walk_of g v w e.1 r.1) s in
    (subst (Enters g.q (num_of g)) u.0 e.1, subst (Order q') u.1 r.1)

walk_enters : (g : Register) {L T : ℕ} → Valid g → Loops (states_of g) L T → Enters g.q (num_of g) L
walk_enters g v s = (walk_parts g v (lowest_exists (num_of g) g.q v.some).2 s).0

pub walk_order : (g : Register) {p' : ℤ} {q' L T : ℕ} → Valid g → Lowest (num_of g) g.q p' q' → Loops (states_of g) L T → Order q' T
walk_order g v w s = (walk_parts g v w s).1

pub lead_in_within : (g : Register) (b : ℕ) {L T : ℕ} → Valid g → nat_abs (num_of g) < 2 ^ b → Loops (states_of g) L T → L ≤ b
lead_in_within g b {L} v h s = enters_within g.q b (num_of g) L v.odd h (walk_enters g v s)

-- ---- demand 3: a fraction in lowest terms
pub lowest_itself : (p : ℤ) (q : ℕ) → 1 ≤ q → LowestTerms p q → Lowest p q p q
lowest_itself p q s c = record { some = s; lowest = c; same = refl }

pub record Bounded (q b L T : ℕ) : Type 0 where
  pub lead_in : L ≤ b
  pub period : Order q T
  pub sum : L + T ≤ b + max 1 (q - 1)

pub walk_bounded : (g : Register) (b : ℕ) {L T : ℕ} → Valid g → LowestTerms (num_of g) g.q → nat_abs (num_of g) < 2 ^ b → Loops (states_of g) L T
    → Bounded g.q b L T
walk_bounded g b {L} {T} v c h s =
    let l = lead_in_within g b v h s in
    let r = walk_order g v (lowest_itself (num_of g) g.q v.some c) s in
    record { lead_in = l; period = r; sum = both l (order_most g.q T v.odd r) }
  where
    both : {l t m : ℕ} → l ≤ b → t ≤ m → l + t ≤ b + m
    both h k = omega arith

-- ---- without lead-in
abbrev pub Between : Register → Type 0
Between g = (neg_ℤ (pos g.q) ≤ℤ num_of g) × (num_of g ≤ℤ pos 0)

pub repeats_iff : (g : Register) → Valid g → ((t : ℕ) × (1 ≤ t) × (iter_of t g ≡ g)) ↔ Between g
unfolding iter_of iter_num
repeats_iff g v = (
  (λ r. (inside_iff g.q (num_of g)).0 (outside_once g.q (num_of g) r.0 v.odd r.1 (sym (numerator_iter r.0 g v) ∙ ap num_of r.2))),
  (λ h. let w = walk_exists g v in
      let z = (walk_enters g v w.2).first 0 ((inside_iff g.q (num_of g)).1 h) in
      let e : w.0 ≡ 0 = omega arith in
      (w.1, w.2.some, ap (λ n. iter_of n g) (sym (zero-add w.1)) ∙ ap (λ n. iter_of (n + w.1) g) (sym e) ∙ w.2.again ∙ ap (λ n. iter_of n g) e)),
)

pub lead_in_none : (g : Register) {L T : ℕ} → Valid g → Loops (states_of g) L T → (L ≡ 0) ↔ Between g
unfolding iter_num
lead_in_none g {L} v s =
    let e = walk_enters g v s in (
      (λ h. (inside_iff g.q (num_of g)).0 (subst (λ n. dist g.q (iter_num g.q n (num_of g)) ≡ 0) h e.holds)),
      (λ h. none L (e.first 0 ((inside_iff g.q (num_of g)).1 h))),
    )
  where
    none : (n : ℕ) → n ≤ 0 → n ≡ 0
    none n h = omega arith

-- ---- the answer is one
pub walks_unique : {g : Register} {allowance m n L T S L' T' S' : ℕ} → Walks g allowance m L T S → Walks g allowance n L' T' S' → (m ≡ n) × (L ≡ L') × (T ≡ T') × (S ≡ S')
walks_unique (walked v x e h) (walked w y f i) = let z = loops_unique x y in (refl, z.0, z.1, omega (arith, z.0, z.1))
walks_unique (walked v x e h) (invalid b) = absurd (b v)
walks_unique (walked v x e h) (past L T w y i) = let z = loops_unique x y in absurd (omega (arith, z.0, z.1))
walks_unique (invalid b) (walked v x e h) = absurd (b v)
walks_unique (invalid b) (invalid c) = (refl, refl, refl, refl)
walks_unique (invalid b) (past L T w y i) = absurd (b w)
walks_unique (past L T w y i) (walked v x e h) = let z = loops_unique x y in absurd (omega (arith, z.0, z.1))
walks_unique (past L T w y i) (invalid b) = absurd (b w)
walks_unique (past L T w y i) (past L' T' v x h) = (refl, refl, refl, refl)

-- the cases of an answer differ in their numbers
pub walk_unique : (g : Register) (allowance : ℕ) (r s : Result Way Refusal) → Walks g allowance (number_of r) (lead_in_of r) (period_of r) (sum_of r)
    → Walks g allowance (number_of s) (lead_in_of s) (period_of s) (sum_of s) → r ≡ s
walk_unique g a (Ok w) (Ok v) x y = let z = walks_unique x y in λ i. Ok (record { lead_in = z.1 i; period = z.2 i; sum = z.3 i })
walk_unique g a (Ok w) (Err Invalid) x y = absurd (omega (arith, (walks_unique x y).0))
walk_unique g a (Ok w) (Err Past) x y = absurd (omega (arith, (walks_unique x y).0))
walk_unique g a (Err Invalid) (Ok v) x y = absurd (omega (arith, (walks_unique x y).0))
walk_unique g a (Err Invalid) (Err Invalid) x y = refl
walk_unique g a (Err Invalid) (Err Past) x y = absurd (omega (arith, (walks_unique x y).0))
walk_unique g a (Err Past) (Ok v) x y = absurd (omega (arith, (walks_unique x y).0))
walk_unique g a (Err Past) (Err Invalid) x y = absurd (omega (arith, (walks_unique x y).0))
walk_unique g a (Err Past) (Err Past) x y = refl
