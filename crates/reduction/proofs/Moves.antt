-- What the functions on vectors ask: sums of values at most 2 ^ 61, choices by sizes, and a turn past a bit.
use mathlib.Core.Path.{◌≡◌, refl, sym, ap, ap₂, ◌∙◌, subst, subst₂}
use Prim.Native.Nat.{ℕ, zero, suc, ◌%◌, ◌^◌, ◌≤◌, ◌<◌}
use native.Mathlib.Omega.{arith}
use native.Mathlib.Nat.{mod-le}
use lib.Signed.{rem_z}
use lib.IntN.{ℤ, pos, negsuc, neg_ℤ, nat_abs, ◌+ℤ◌, ◌-ℤ◌, ◌*ℤ◌}
use mir.Syntax.{w64}
use mir.Val.{SFits, to_z, of_z}
use mir.ValLaws.{to_z-of_z}
use Rattle.std.specs.Int.Signed.{nat_abs-le}
use Rattle.integers.specs.Numbers.{Odd, Even, Divides, half_z}
use Rattle.integers.proofs.Parts.{nat_abs-+, nat_abs_neg}
use Rattle.integers.proofs.Sizes.{back64, abs--, abs-*}
use Rattle.integers.proofs.Ring.{#, ◌⊕◌, ◌⊗◌, ◌⊖◌, ring2, ring5, ◌≔◌}
use Rattle.reduction.specs.Vectors.{Vect, K, plus, minus, off, past, rest, Within, Lex}
use Rattle.reduction.specs.Reduced.{big, Pick, fst, snd, Sides, stay, turn, Turned}
use Rattle.reduction.proofs.Keys.{Before, before_iff}

-- ---- what a sum of two values reads back as
sum_back : (x y : ℤ) → nat_abs x ≤ 2 ^ 61 → nat_abs y ≤ 2 ^ 61 → to_z w64 (of_z w64 (to_z w64 (of_z w64 x) +ℤ to_z w64 (of_z w64 y))) ≡ x +ℤ y
sum_back x y h k = rw (back64 x (omega arith), back64 y (omega arith)) (back64 (x +ℤ y) (omega (arith, nat_abs-+ x y)))

difference_back : (x y : ℤ) → nat_abs x ≤ 2 ^ 61 → nat_abs y ≤ 2 ^ 61 → to_z w64 (of_z w64 (to_z w64 (of_z w64 x) -ℤ to_z w64 (of_z w64 y))) ≡ x -ℤ y
difference_back x y h k = rw (back64 x (omega arith), back64 y (omega arith)) (back64 (x -ℤ y) (omega (arith, abs-- x y h k)))

same_vect : {u v : Vect} → u.p ≡ v.p → u.q ≡ v.q → u.r ≡ v.r → u ≡ v
same_vect ep eq er = λ i. record { p = ep i; q = eq i; r = er i }

abbrev read_sum : ℤ → ℤ → ℤ
read_sum x y = to_z w64 (of_z w64 (to_z w64 (of_z w64 x) +ℤ to_z w64 (of_z w64 y)))

abbrev read_difference : ℤ → ℤ → ℤ
read_difference x y = to_z w64 (of_z w64 (to_z w64 (of_z w64 x) -ℤ to_z w64 (of_z w64 y)))

pub sum_vect : {g f : Vect} → Within (2 ^ 61) g × Within (2 ^ 61) f → record { p = read_sum g.p f.p; q = read_sum g.q f.q; r = read_sum g.r f.r } ≡ plus g f
sum_vect {g} {f} (h, k) = same_vect (sum_back g.p f.p h.p_in k.p_in) (sum_back g.q f.q h.q_in k.q_in) (sum_back g.r f.r h.r_in k.r_in)

pub difference_vect : {g f : Vect} → Within (2 ^ 61) g × Within (2 ^ 61) f → record { p = read_difference g.p f.p; q = read_difference g.q f.q; r = read_difference g.r f.r } ≡ minus g f
difference_vect {g} {f} (h, k) = same_vect (difference_back g.p f.p h.p_in k.p_in) (difference_back g.q f.q h.q_in k.q_in) (difference_back g.r f.r h.r_in k.r_in)

-- ---- the rest past a bit
off_one : (n : ℕ) (v : Vect) → n ≤ 1 → (n ≡ 0 → ⊥) → v.r -ℤ v.q ≡ off (pos n) v
off_one n v l e = ring2 (λ q r. r ⊖ q ≔ r ⊖ # 1 ⊗ q) tt v.q v.r ∙ ap (λ (n : ℕ). off (pos n) v) (omega arith)

pub past_vect : {n : ℕ} {v : Vect} → Within (2 ^ 60) v × (n ≤ 1) → (n ≡ 0 → ⊥)
    → record { p = to_z w64 (of_z w64 v.p); q = to_z w64 (of_z w64 v.q); r = read_difference v.r v.q } ≡ past (pos n) v
past_vect {n} {v} (h, l) e =
    same_vect (back64 v.p (omega arith)) (back64 v.q (omega arith)) (difference_back v.r v.q (omega arith) (omega arith) ∙ off_one n v l e)

-- a test of a signed remainder tells what divides the number
divides_rem : (z : ℤ) (k : ℕ) → SFits w64 z → of_z w64 (rem_z z (pos k)) ≡ 0 → Divides k (nat_abs z)
divides_rem (pos a) k f h = h
divides_rem (negsuc a) k f h = go (suc a % k) (omega (arith, mod-le (suc a) k, f.sfits)) h
  where
    go : (m : ℕ) → m < 2 ^ 64 → of_z w64 (neg_ℤ (pos m)) ≡ 0 → m ≡ 0
    go zero l h = refl
    go (suc m) l h = absurd (omega arith)

rem_divides : (z : ℤ) (k : ℕ) → Divides k (nat_abs z) → of_z w64 (rem_z z (pos k)) ≡ 0
rem_divides (pos a) k h = h
rem_divides (negsuc a) k h = ap (λ (m : ℕ). of_z w64 (neg_ℤ (pos m))) h

even_rem : (z : ℤ) → SFits w64 z → of_z w64 (rem_z (to_z w64 (of_z w64 z)) (pos 2)) ≡ 0 → Even z
even_rem z f h = divides_rem z 2 f (rw (to_z-of_z w64 z f) at h)

odd_rem : (z : ℤ) → SFits w64 z → (of_z w64 (rem_z (to_z w64 (of_z w64 z)) (pos 2)) ≡ 0 → ⊥) → Odd z
odd_rem z f h = let e : nat_abs z % 2 ≡ 0 → ⊥ = λ (d : nat_abs z % 2 ≡ 0). h (ap (λ (x : ℤ). of_z w64 (rem_z x (pos 2))) (to_z-of_z w64 z f) ∙ rem_divides z 2 d) in omega arith

-- ---- choices, by sizes that were read back
pub record Sizes (v : Vect) (a b : ℕ) : Type 0 where
  pub p_fits : SFits w64 v.p
  pub q_fits : SFits w64 v.q
  pub p_is : a ≡ nat_abs (to_z w64 (of_z w64 v.p))
  pub q_is : b ≡ nat_abs (to_z w64 (of_z w64 v.q))

size_is : {z : ℤ} {n : ℕ} → SFits w64 z → n ≡ nat_abs (to_z w64 (of_z w64 z)) → n ≡ nat_abs z
size_is {z} f e = e ∙ ap nat_abs (to_z-of_z w64 z f)

size_big : {z : ℤ} → SFits w64 z → nat_abs z < big
size_big {z} f = omega (arith, nat_abs-le z f.sfits)

module _ {x y : Vect} {a b c d : ℕ} (sx : Sizes x a b) (sy : Sizes y c d) where
  at_vectors : Lex a b c d → Before x.p x.q y.p y.q
  at_vectors h = subst₂ (λ (a b : ℕ). Lex a b (nat_abs y.p) (nat_abs y.q)) (size_is sx.p_fits sx.p_is) (size_is sx.q_fits sx.q_is)
      (subst₂ (λ (c d : ℕ). Lex a b c d) (size_is sy.p_fits sy.p_is) (size_is sy.q_fits sy.q_is) h)

  least_at : Lex a b c d → K big x ≤ K big y
  least_at h = (before_iff big x.p x.q y.p y.q (size_big sx.p_fits) (size_big sx.q_fits) (size_big sy.p_fits) (size_big sy.q_fits)).1 (at_vectors h)

pub pick_first : {x y : Vect} {a b c d : ℕ} → Sizes x a b → Sizes y c d → Lex a b c d → Pick big x y x
pick_first sx sy h = fst (least_at sx sy h)

pub pick_second : {x y : Vect} {a b c d : ℕ} → Sizes x a b → Sizes y c d → Lex c d a b → Pick big x y y
pick_second {x} {y} sx sy h = snd (least_at sy sx h)

-- ---- bounds
wider : {v : Vect} → Within (2 ^ 60) v → Within (2 ^ 61) v
wider h = record { p_in = omega arith; q_in = omega arith; r_in = omega arith }

within_past : {v : Vect} {n : ℕ} → Within (2 ^ 60) v → n ≤ 1 → Within (2 ^ 61) (past (pos n) v)
within_past {v} {n} h l = record { p_in = omega arith; q_in = omega arith; r_in = abs-- v.r (pos n *ℤ v.q) h.r_in (abs-* (pos n) v.q l h.q_in) }

within_plus : {g f : Vect} → Within (2 ^ 60) g → Within (2 ^ 60) f → Within (2 ^ 61) (plus g f)
within_plus {g} {f} h k = record {
  p_in = omega (arith, nat_abs-+ g.p f.p);
  q_in = omega (arith, nat_abs-+ g.q f.q);
  r_in = omega (arith, nat_abs-+ g.r f.r);
}

within_minus : {g f : Vect} → Within (2 ^ 60) g → Within (2 ^ 60) f → Within (2 ^ 61) (minus g f)
within_minus {g} {f} h k = record {
  p_in = omega (arith, nat_abs-+ g.p (neg_ℤ f.p), nat_abs_neg f.p);
  q_in = omega (arith, nat_abs-+ g.q (neg_ℤ f.q), nat_abs_neg f.q);
  r_in = omega (arith, nat_abs-+ g.r (neg_ℤ f.r), nat_abs_neg f.r);
}

pub within_past2 : {g f g' f' : Vect} {n : ℕ} → Within (2 ^ 60) f × Within (2 ^ 60) g × (n ≤ 1) → g' ≡ past (pos n) g → f' ≡ past (pos n) f → Within (2 ^ 61) g' × Within (2 ^ 61) f'
within_past2 h eg ef = (subst (Within (2 ^ 61)) (sym eg) (within_past h.1 h.2), subst (Within (2 ^ 61)) (sym ef) (within_past h.0 h.2))

within_pick : {n M : ℕ} {x y z : Vect} → Pick M x y z → Within n x → Within n y → Within n z
within_pick (fst l) h k = h
within_pick (snd l) h k = k

-- ---- a turn past a bit
pick_past : (a : ℤ) (x y : Vect) {z x' y' : Vect} → x' ≡ past a x → y' ≡ past a y → Pick big x' y' z → (w : Vect) × Pick big x y w × (z ≡ past a w)
pick_past a x y {z} {x'} {y'} ex ey h = elim h as (λ z p. (w : Vect) × Pick big x y w × (z ≡ past a w)) [
  | fst l ↦ (x, fst (subst₂ (λ (x y : Vect). K big x ≤ K big y) ex ey l), ex)
  | snd l ↦ (y, snd (subst₂ (λ (x y : Vect). K big y ≤ K big x) ex ey l), ey)
]

past_plus : (a : ℤ) (g f : Vect) → plus (past a g) (past a f) ≡ past a (plus g f)
past_plus a g f = same_vect refl refl (ring5 (λ a x y z w. (x ⊖ a ⊗ y) ⊕ (z ⊖ a ⊗ w) ≔ (x ⊕ z) ⊖ a ⊗ (y ⊕ w)) tt a g.r g.q f.r f.q)

past_minus : (a : ℤ) (g f : Vect) → minus (past a g) (past a f) ≡ past a (minus g f)
past_minus a g f = same_vect refl refl (ring5 (λ a x y z w. (x ⊖ a ⊗ y) ⊖ (z ⊖ a ⊗ w) ≔ (x ⊖ z) ⊖ a ⊗ (y ⊖ w)) tt a g.r g.q f.r f.q)

-- f, g and the third vector s past the bit
pub record Past (n : ℕ) (f g f' g' s' : Vect) : Type 0 where
  pub in_f : Within (2 ^ 60) f
  pub in_g : Within (2 ^ 60) g
  pub f_is : f' ≡ past (pos n) f
  pub g_is : g' ≡ past (pos n) g
  pub s : Vect
  pub third : Pick big (plus g f) (minus g f) s
  pub s_is : s' ≡ past (pos n) s

pub past_third : {n : ℕ} {f g f' g' x y s' : Vect} → Within (2 ^ 60) f × Within (2 ^ 60) g × (n ≤ 1) → f' ≡ past (pos n) f → g' ≡ past (pos n) g → x ≡ plus g' f' → y ≡ minus g' f' → Pick big x y s' → Past n f g f' g' s'
past_third {n} {f} {g} {f'} {g'} {x} {y} {s'} h ef eg ex ey k = record { in_f = h.0; in_g = h.1; f_is = ef; g_is = eg; s = t.0; third = t.1; s_is = t.2 }
  where
    x_is : x ≡ past (pos n) (plus g f)
    x_is = ex ∙ ap₂ plus eg ef ∙ past_plus (pos n) g f

    y_is : y ≡ past (pos n) (minus g f)
    y_is = ey ∙ ap₂ minus eg ef ∙ past_minus (pos n) g f

    t : (w : Vect) × Pick big (plus g f) (minus g f) w × (s' ≡ past (pos n) w)
    t = pick_past (pos n) (plus g f) (minus g f) x_is y_is k

abbrev double : Vect → Vect
double v = record { p = pos 2 *ℤ v.p; q = pos 2 *ℤ v.q; r = v.r }

-- w stays in the state, and the shorter of f and o is doubled
module _ {n : ℕ} {f g f' g' s' : Vect} (h : Past n f g f' g' s') where
  turned : (w o w' o' : Vect) → w' ≡ past (pos n) w → o' ≡ past (pos n) o → Sides (pos n) g h.s w o
      → {m' x y : Vect} → Pick big f' o' m' → x ≡ double m' → y ≡ rest w' (half_z w'.r) → Turned (pos n) f g x y
  turned w o w' o' ew eo sides {m'} k ex ey = record {
    s = h.s;
    w = w;
    o = o;
    m = m.0;
    third = h.third;
    sides = sides;
    mid = m.1;
    f_is = ex ∙ ap double m.2;
    g_is = ey ∙ ap (λ (v : Vect). rest v (half_z v.r)) ew;
  }
    where
      m : (w : Vect) × Pick big f o w × (m' ≡ past (pos n) w)
      m = pick_past (pos n) f o h.f_is eo k

  pub turned_even : SFits w64 g'.r → of_z w64 (rem_z (to_z w64 (of_z w64 g'.r)) (pos 2)) ≡ 0
      → {m' x y : Vect} → Pick big f' s' m' → x ≡ double m' → y ≡ rest g' (half_z g'.r) → Turned (pos n) f g x y
  turned_even f e = turned g h.s g' s' h.g_is h.s_is (stay (subst (λ (v : Vect). Even v.r) h.g_is (even_rem g'.r f e)))

  pub turned_odd : SFits w64 g'.r → (of_z w64 (rem_z (to_z w64 (of_z w64 g'.r)) (pos 2)) ≡ 0 → ⊥)
      → {m' x y : Vect} → Pick big f' g' m' → x ≡ double m' → y ≡ rest s' (half_z s'.r) → Turned (pos n) f g x y
  turned_odd f o = turned h.s g s' g' h.s_is h.g_is (turn (subst (λ (v : Vect). Odd v.r) h.g_is (odd_rem g'.r f o)))

  -- what a turn doubles fits
  doubles : {o o' m' : Vect} → o' ≡ past (pos n) o → Within (2 ^ 61) o → Pick big f' o' m' → (nat_abs m'.p ≤ 2 ^ 61) × (nat_abs m'.q ≤ 2 ^ 61)
  doubles {o} {m' = m'} eo ho k =
      let m : (w : Vect) × Pick big f o w × (m' ≡ past (pos n) w) = pick_past (pos n) f o h.f_is eo k in
      let l : Within (2 ^ 61) m.0 = within_pick m.1 (wider h.in_f) ho in
      subst (λ (v : Vect). (nat_abs v.p ≤ 2 ^ 61) × (nat_abs v.q ≤ 2 ^ 61)) (sym m.2) (l.p_in, l.q_in)

  pub doubles_even : {m' : Vect} → Pick big f' s' m' → (nat_abs m'.p ≤ 2 ^ 61) × (nat_abs m'.q ≤ 2 ^ 61)
  doubles_even = doubles h.s_is (within_pick h.third (within_plus h.in_g h.in_f) (within_minus h.in_g h.in_f))

  pub doubles_odd : {m' : Vect} → Pick big f' g' m' → (nat_abs m'.p ≤ 2 ^ 61) × (nat_abs m'.q ≤ 2 ^ 61)
  doubles_odd = doubles h.g_is (wider h.in_g)
