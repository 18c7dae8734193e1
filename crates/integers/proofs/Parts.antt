-- ℤ by parts: an integer is up z less down z, and each operation is one equation of ℕ, which omega reads.
--
--   up z, down z        the positive and the negative part
--   eq_of, le_of, lt_of a fact on integers from one on their parts; eq_to, le_to, lt_to the other way
--   parts-OP            the parts of a sum, a difference, a product, a half
--   diff a b            a - b; by1 .. by5 prove a law on differences, `simp diff·ring (omega arith)`
--   zarith              omega's rules for statements on integers
use Rattle.std.proofs.Common.{◌≡◌, ℕ, zero, suc, ◌+◌, ◌-◌, ◌*◌, ◌<◌, ◌≤◌, min, Bool, true, false, cond, not, T, ltb, ◌↔◌, ℤ, pos, negsuc, ◌+ℤ◌, ◌-ℤ◌, ◌*ℤ◌, neg_ℤ, nat_abs, ◌≤ℤ◌, ◌<ℤ◌, sym, refl, ap, ◌∙◌, subst, arith, le→leb, ltb→lt, lt→ltb, leb→le, nltb→le}
use borrow.Author.Differences.{le_out, lt_out, sum_is_lem, neg_is, product_is}
use Rattle.integers.specs.Numbers.{odd_z, half_z}
pub use borrow.Author.Differences.{up, down, same_in as eq_of, at_most_in as le_of, below_in as lt_of}
pub use Rattle.std.proofs.lemmas.Int.{unsigned_abs-mul as nat_abs-*}

-- a − b, shut
pub diff : ℕ → ℕ → ℤ
diff a b = pos a -ℤ pos b

-- diff a b has the difference a − b
pub diff_is : (a b : ℕ) → up (diff a b) + b ≡ a + down (diff a b)
unfolding diff
diff_is a b = omega (arith, sum_is_lem (pos a) (neg_ℤ (pos b)), neg_is (pos b))

pub diff_eq : (a b c d : ℕ) → a + d ≡ c + b → diff a b ≡ diff c d
diff_eq a b c d h = eq_of (diff a b) (diff c d) (omega (arith, diff_is a b, diff_is c d))

pub diff_eq⁻ : (a b c d : ℕ) → diff a b ≡ diff c d → a + d ≡ c + b
diff_eq⁻ a b c d h = omega (arith, diff_is a b, diff_is c d, ap up h, ap down h)

pub diff_iff : (a b c d : ℕ) → (diff a b ≡ diff c d) ↔ (a + d ≡ c + b)
diff_iff a b c d = (diff_eq⁻ a b c d, diff_eq a b c d)

pub rep : (z : ℤ) → z ≡ diff (up z) (down z)
rep z = eq_of z (diff (up z) (down z)) (omega (arith, diff_is (up z) (down z)))

-- the operations, by the parts
pub parts-+ : (x y : ℤ) → up (x +ℤ y) + (down x + down y) ≡ up x + up y + down (x +ℤ y)
parts-+ x y = omega (arith, sum_is_lem x y)

pub up_neg : (x : ℤ) → up (neg_ℤ x) ≡ down x
up_neg x = (neg_is x).0

pub down_neg : (x : ℤ) → down (neg_ℤ x) ≡ up x
down_neg x = (neg_is x).1

pub parts-* : (x y : ℤ) → up (x *ℤ y) + (up x * down y + down x * up y) ≡ up x * up y + down x * down y + down (x *ℤ y)
parts-* x y = omega (arith, product_is x y)

pub diff_neg : (a b : ℕ) → neg_ℤ (diff a b) ≡ diff b a
diff_neg a b = eq_of (neg_ℤ (diff a b)) (diff b a) (omega (arith, diff_is a b, diff_is b a, up_neg (diff a b), down_neg (diff a b)))

pub diff-+ : (a b c d : ℕ) → diff a b +ℤ diff c d ≡ diff (a + c) (b + d)
diff-+ a b c d = eq_of (diff a b +ℤ diff c d) (diff (a + c) (b + d))
    (omega (arith, diff_is a b, diff_is c d, diff_is (a + c) (b + d), parts-+ (diff a b) (diff c d)))

-- (p − q)(r − s) = (a − b)(c − d) where p − q = a − b, r − s = c − d
pub mul_parts : (p q a b r s c d : ℕ) → p + b ≡ a + q → r + d ≡ c + s →
    (p * r + q * s) + (a * d + b * c) ≡ (a * c + b * d) + (p * s + q * r)
mul_parts p q a b r s c d h k = omega (arith, ap (λ (n : ℕ). n * r) h, ap (λ (n : ℕ). n * s) h, ap (λ (n : ℕ). n * a) k, ap (λ (n : ℕ). n * b) k)

pub diff-* : (a b c d : ℕ) → diff a b *ℤ diff c d ≡ diff (a * c + b * d) (a * d + b * c)
diff-* a b c d = eq_of (diff a b *ℤ diff c d) (diff (a * c + b * d) (a * d + b * c))
    (go (up x) (down x) (up y) (down y) (parts-* x y) (mul_parts (up x) (down x) a b (up y) (down y) c d (diff_is a b) (diff_is c d)))
  where
    x : ℤ
    x = diff a b

    y : ℤ
    y = diff c d

    go : (p q r s : ℕ) → up (x *ℤ y) + (p * s + q * r) ≡ p * r + q * s + down (x *ℤ y) → (p * r + q * s) + (a * d + b * c) ≡ (a * c + b * d) + (p * s + q * r)
        → up (x *ℤ y) + down (diff (a * c + b * d) (a * d + b * c)) ≡ up (diff (a * c + b * d) (a * d + b * c)) + down (x *ℤ y)
    go p q r s h k = omega (arith, diff_is (a * c + b * d) (a * d + b * c))

-- ---- the order
pub le_to : {x y : ℤ} → x ≤ℤ y → up x + down y ≤ up y + down x
le_to {x} {y} h = le_out x y h

pub lt_to : {x y : ℤ} → x <ℤ y → up x + down y < up y + down x
lt_to {x} {y} h = lt_out x y h

pub diff-≤ : (a b c d : ℕ) → (diff a b ≤ℤ diff c d) ↔ (a + d ≤ c + b)
diff-≤ a b c d = ((λ h. omega (arith, le_to h, diff_is a b, diff_is c d)), (λ h. le_of (diff a b) (diff c d) (omega (arith, diff_is a b, diff_is c d))))

pub diff-< : (a b c d : ℕ) → (diff a b <ℤ diff c d) ↔ (a + d < c + b)
diff-< a b c d = ((λ h. omega (arith, lt_to h, diff_is a b, diff_is c d)), (λ h. lt_of (diff a b) (diff c d) (omega (arith, diff_is a b, diff_is c d))))

-- literals
pub diff_pos : (n : ℕ) → pos n ≡ diff n zero
diff_pos n = rep (pos n)

pub diff_negsuc : (n : ℕ) → negsuc n ≡ diff zero (suc n)
diff_negsuc n = rep (negsuc n)

pub ruleset diff·ring = (diff_neg, diff-+, diff-*, diff_iff, diff-≤, diff-<, diff_pos, diff_negsuc)

-- to prove a statement on integers, prove it on differences
pub by1 : (P : ℤ → Type 0) → ((a b : ℕ) → P (diff a b)) → (x : ℤ) → P x
by1 P f x = subst P (sym (rep x)) (f (up x) (down x))

pub by2 : (P : ℤ → ℤ → Type 0) → ((a b c d : ℕ) → P (diff a b) (diff c d)) → (x y : ℤ) → P x y
by2 P f x y = by1 (λ z. P z y) (λ a b. by1 (P (diff a b)) (f a b) y) x

pub by3 : (P : ℤ → ℤ → ℤ → Type 0) → ((a b c d e f : ℕ) → P (diff a b) (diff c d) (diff e f)) → (x y z : ℤ) → P x y z
by3 P g x y z = by2 (λ u v. P u v z) (λ a b c d. by1 (P (diff a b) (diff c d)) (g a b c d) z) x y

pub by4 : (P : ℤ → ℤ → ℤ → ℤ → Type 0) → ((a b c d e f g h : ℕ) → P (diff a b) (diff c d) (diff e f) (diff g h)) → (x y z w : ℤ) → P x y z w
by4 P k x y z w = by3 (λ s t u. P s t u w) (λ a b c d e f. by1 (P (diff a b) (diff c d) (diff e f)) (k a b c d e f) w) x y z

-- ---- the size
pub nat_abs_is : (x : ℤ) → nat_abs x ≡ up x + down x
nat_abs_is (pos n) = omega arith
nat_abs_is (negsuc n) = omega arith

-- one of the parts is 0
pub parts : (x : ℤ) → min (up x) (down x) ≡ 0
parts (pos n) = omega arith
parts (negsuc n) = omega arith

pub nat_abs_neg : (x : ℤ) → nat_abs (neg_ℤ x) ≡ nat_abs x
nat_abs_neg (pos zero) = refl
nat_abs_neg (pos (suc n)) = refl
nat_abs_neg (negsuc n) = refl

pub nat_abs-+ : (x y : ℤ) → nat_abs (x +ℤ y) ≤ nat_abs x + nat_abs y
nat_abs-+ x y = omega (arith, nat_abs_is x, nat_abs_is y, nat_abs_is (x +ℤ y), parts (x +ℤ y), parts-+ x y)

pub pos-* : (a b : ℕ) → pos (a * b) ≡ pos a *ℤ pos b
pos-* a b = refl

pub by5 : (P : ℤ → ℤ → ℤ → ℤ → ℤ → Type 0) → ((a b c d e f g h i j : ℕ) → P (diff a b) (diff c d) (diff e f) (diff g h) (diff i j)) → (x y z w v : ℤ) → P x y z w v
by5 P k x y z w v = by4 (λ s t u r. P s t u r v) (λ a b c d e f g h. by1 (P (diff a b) (diff c d) (diff e f) (diff g h)) (k a b c d e f g h) v) x y z w

pub eq_of_sub : (x y : ℤ) → x -ℤ y ≡ pos 0 → x ≡ y
eq_of_sub = by2 (λ x y. x -ℤ y ≡ pos 0 → x ≡ y) (λ a b c d h. simp diff·ring (omega (arith, simp diff·ring at h)))

-- a ≡ b from l ≡ r, where a − b = c (l − r)
pub from_eq : {a b l r : ℤ} (c : ℤ) → l ≡ r → a +ℤ c *ℤ r ≡ b +ℤ c *ℤ l → a ≡ b
from_eq {a} {b} {l} {r} c h e = go a b (c *ℤ l) (e ∙ sym (ap (λ (z : ℤ). b +ℤ z) refl)) (ap (λ (z : ℤ). c *ℤ z) h)
  where
    go : (a b s : ℤ) → a +ℤ c *ℤ r ≡ b +ℤ s → s ≡ c *ℤ r → a ≡ b
    go a b s e k = eq_of a b (omega (arith, parts-+ a (c *ℤ r), parts-+ b s, ap up e, ap down e, ap up k, ap down k))

pub eq_to : {x y : ℤ} → x ≡ y → up x + down y ≡ up y + down x
eq_to {x} {y} h = omega (arith, ap up h, ap down h)

-- omega's rules for statements on integers
pub ruleset zarith = (arith, le_to, le_of, lt_to, lt_of, eq_to, eq_of)

-- ---- what code asks: a difference, a product by a natural number, a half
pub parts-- : (x y : ℤ) → up (x -ℤ y) + (down x + up y) ≡ up x + down y + down (x -ℤ y)
parts-- x y = omega (arith, parts-+ x (neg_ℤ y), up_neg y, down_neg y)

pub parts-*pos : (x : ℤ) (n : ℕ) → up (x *ℤ pos n) + down x * n ≡ up x * n + down (x *ℤ pos n)
parts-*pos x n = omega (arith, parts-* x (pos n))

pub parts_half : (z : ℤ) → up z + 2 * down (half_z z) ≡ 2 * up (half_z z) + odd_z z + down z
parts_half (pos n) = omega arith
parts_half (negsuc n) = omega arith
