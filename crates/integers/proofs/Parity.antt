-- A parity solver: a statement on odd and even integers holds if it holds at all parities of its variables. Odd and even numbers by form.
-- `par3 (λ a q r. ev q ⇒ od r ⇒ od (r ⊖ a ⊗ q)) tt a q r hq hr : Odd (r -ℤ a *ℤ q)`.
use Rattle.std.proofs.Common.{◌≡◌, ℕ, zero, suc, ◌+◌, ◌*◌, ◌/◌, ◌%◌, Bool, true, false, not, ◌&&◌, ◌||◌, T, ◌⊎◌, List, [], ◌∷◌, ℤ, pos, negsuc, ◌+ℤ◌, ◌*ℤ◌, neg_ℤ, nat_abs, refl, ap, ◌∙◌, inl, inr, arith}
use mathlib.Core.Bool.{beq}
use lib.IntN.{pow, one}
use Rattle.integers.proofs.Parts.{nat_abs_is, nat_abs_neg, nat_abs-*, parts-+, parts-*, zarith}
use Rattle.integers.specs.Numbers.{Odd, Even}
use Rattle.integers.proofs.Tests.{and_T}
use Rattle.integers.proofs.Ring.{E, var, lit, ◌⊕◌, ◌⊗◌, neg, pw, val, at}

infixr 3 ◌⇒◌
pub data S : Type 0 where
  od : E → S
  ev : E → S
  ◌⇒◌ : S → S → S

abbrev pub Hold : S → List ℤ → Type 0
Hold (od e) ρ = Odd (val e ρ)
Hold (ev e) ρ = Even (val e ρ)
Hold (s ⇒ t) ρ = Hold s ρ → Hold t ρ

-- true is odd
abbrev pub bit : Bool → ℕ
bit true = 1
bit false = 0

abbrev pub oddb : ℕ → Bool
oddb zero = false
oddb (suc zero) = true
oddb (suc (suc n)) = true

-- z has the parity b
abbrev pub Is : ℤ → Bool → Type 0
Is z b = nat_abs z % 2 ≡ bit b

abbrev pub parity : ℤ → Bool
parity z = oddb (nat_abs z % 2)

pub parity_is : (z : ℤ) → Is z (parity z)
parity_is z = go (nat_abs z % 2) refl
  where
    go : (r : ℕ) → nat_abs z % 2 ≡ r → nat_abs z % 2 ≡ bit (oddb r)
    go zero e = e
    go (suc zero) e = e
    go (suc (suc r)) e = absurd (omega arith)

abbrev pub bat : List Bool → ℕ → Bool
bat [] n = false
bat (x ∷ ρ) zero = x
bat (x ∷ ρ) (suc n) = bat ρ n

abbrev pub bpow : Bool → ℕ → Bool
bpow b zero = true
bpow b (suc n) = bpow b n && b

-- the parity of an expression
abbrev pub pb : E → List Bool → Bool
pb (var n) ρ = bat ρ n
pb (lit z) ρ = parity z
pb (e ⊕ f) ρ = not (beq (pb e ρ) (pb f ρ))
pb (e ⊗ f) ρ = pb e ρ && pb f ρ
pb (neg e) ρ = pb e ρ
pb (pw e n) ρ = bpow (pb e ρ) n

abbrev pub test : S → List Bool → Bool
test (od e) ρ = pb e ρ
test (ev e) ρ = not (pb e ρ)
test (s ⇒ t) ρ = not (test s ρ) || test t ρ

-- at all parities
abbrev pub every : ℕ → (List Bool → Bool) → Bool
every zero f = f []
every (suc n) f = every n (λ bs. f (true ∷ bs)) && every n (λ bs. f (false ∷ bs))

abbrev pub len : List ℤ → ℕ
len [] = 0
len (x ∷ ρ) = suc (len ρ)

abbrev pub parities : List ℤ → List Bool
parities [] = []
parities (x ∷ ρ) = parity x ∷ parities ρ

-- ---- what they mean
is-+ : (x y : ℤ) (a b : Bool) → Is x a → Is y b → Is (x +ℤ y) (not (beq a b))
is-+ x y a b h k = go a b h k
  where
    l : nat_abs (x +ℤ y) % 2 ≡ (nat_abs x + nat_abs y) % 2
    l = omega (arith, nat_abs_is x, nat_abs_is y, nat_abs_is (x +ℤ y), parts-+ x y)

    go : (a b : Bool) → Is x a → Is y b → Is (x +ℤ y) (not (beq a b))
    go true true h k = omega (arith, l)
    go true false h k = omega (arith, l)
    go false true h k = omega (arith, l)
    go false false h k = omega (arith, l)

par-* : (a b : ℕ) → (a * b) % 2 ≡ (a % 2 * (b % 2)) % 2
par-* a b = go (a / 2) (a % 2) (b / 2) (b % 2) (omega arith) (omega arith)
  where
    go : (q r s t : ℕ) → a ≡ 2 * q + r → b ≡ 2 * s + t → (a * b) % 2 ≡ (r * t) % 2
    go q r s t h k = omega (arith, ap (λ (n : ℕ). n * b) h, ap (λ (n : ℕ). (2 * q + r) * n) k)

bit-* : (a b : Bool) → (bit a * bit b) % 2 ≡ bit (a && b)
bit-* true true = refl
bit-* true false = refl
bit-* false true = refl
bit-* false false = refl

is-* : (x y : ℤ) (a b : Bool) → Is x a → Is y b → Is (x *ℤ y) (a && b)
is-* x y a b h k = rw (nat_abs-* x y, par-* (nat_abs x) (nat_abs y), h, k) (bit-* a b)

is_pow : (x : ℤ) (b : Bool) (n : ℕ) → Is x b → Is (pow x n) (bpow b n)
unfolding pow one
is_pow x b zero h = refl
is_pow x b (suc n) h = is-* (pow x n) x (bpow b n) b (is_pow x b n h) h

is_at : (ρ : List ℤ) (n : ℕ) → Is (at ρ n) (bat (parities ρ) n)
is_at [] n = refl
is_at (x ∷ ρ) zero = parity_is x
is_at (x ∷ ρ) (suc n) = is_at ρ n

is_val : (e : E) (ρ : List ℤ) → Is (val e ρ) (pb e (parities ρ))
is_val (var n) ρ = is_at ρ n
is_val (lit z) ρ = parity_is z
is_val (e ⊕ f) ρ = is-+ (val e ρ) (val f ρ) (pb e (parities ρ)) (pb f (parities ρ)) (is_val e ρ) (is_val f ρ)
is_val (e ⊗ f) ρ = is-* (val e ρ) (val f ρ) (pb e (parities ρ)) (pb f (parities ρ)) (is_val e ρ) (is_val f ρ)
is_val (neg e) ρ = nat_abs_neg_mod (val e ρ) ∙ is_val e ρ
  where
    nat_abs_neg_mod : (z : ℤ) → nat_abs (neg_ℤ z) % 2 ≡ nat_abs z % 2
    nat_abs_neg_mod z = rw (nat_abs_neg z)
is_val (pw e n) ρ = is_pow (val e ρ) (pb e (parities ρ)) n (is_val e ρ)

odd_b : {n : ℕ} (b : Bool) → n ≡ bit b → (n ≡ 1 → T b) × (T b → n ≡ 1)
odd_b true h = ((λ k. tt), (λ t. h))
odd_b false h = ((λ k. absurd (omega arith)), (λ t. absurd t))

even_b : {n : ℕ} (b : Bool) → n ≡ bit b → (n ≡ 0 → T (not b)) × (T (not b) → n ≡ 0)
even_b true h = ((λ k. absurd (omega arith)), (λ t. absurd t))
even_b false h = ((λ k. tt), (λ t. h))

imp_to : (a b : Bool) → (T a → T b) → T (not a || b)
imp_to true b f = f tt
imp_to false b f = tt

imp_of : (a b : Bool) → T (not a || b) → T a → T b
imp_of true b t u = t
imp_of false b t u = absurd u

both : (s : S) (ρ : List ℤ) → (Hold s ρ → T (test s (parities ρ))) × (T (test s (parities ρ)) → Hold s ρ)
both (od e) ρ = odd_b (pb e (parities ρ)) (is_val e ρ)
both (ev e) ρ = even_b (pb e (parities ρ)) (is_val e ρ)
both (s ⇒ t) ρ = (
  (λ f. imp_to (test s (parities ρ)) (test t (parities ρ)) (λ u. (both t ρ).0 (f ((both s ρ).1 u)))),
  (λ u h. (both t ρ).1 (imp_of (test s (parities ρ)) (test t (parities ρ)) u ((both s ρ).0 h))),
)

pick : (b : Bool) (f : Bool → Bool) → T (f true) → T (f false) → T (f b)
pick true f t u = t
pick false f t u = u

sound : (ρ : List ℤ) (f : List Bool → Bool) → T (every (len ρ) f) → T (f (parities ρ))
sound [] f t = t
sound (x ∷ ρ) f t = let u = and_T (every (len ρ) (λ bs. f (true ∷ bs))) (every (len ρ) (λ bs. f (false ∷ bs))) t in
    pick (parity x) (λ b. f (b ∷ parities ρ)) (sound ρ (λ bs. f (true ∷ bs)) u.0) (sound ρ (λ bs. f (false ∷ bs)) u.1)

pub par : (s : S) (ρ : List ℤ) → T (every (len ρ) (test s)) → Hold s ρ
par s ρ t = (both s ρ).1 (sound ρ (test s) t)

pub par1 : (q : E → S) → T (every 1 (test (q (var 0)))) → (x : ℤ) → Hold (q (var 0)) (x ∷ [])
par1 q t x = par (q (var 0)) (x ∷ []) t

pub par2 : (q : E → E → S) → T (every 2 (test (q (var 0) (var 1)))) → (x y : ℤ) → Hold (q (var 0) (var 1)) (x ∷ y ∷ [])
par2 q t x y = par (q (var 0) (var 1)) (x ∷ y ∷ []) t

pub par3 : (q : E → E → E → S) → T (every 3 (test (q (var 0) (var 1) (var 2)))) → (x y z : ℤ) → Hold (q (var 0) (var 1) (var 2)) (x ∷ y ∷ z ∷ [])
par3 q t x y z = par (q (var 0) (var 1) (var 2)) (x ∷ y ∷ z ∷ []) t

pub par4 : (q : E → E → E → E → S) → T (every 4 (test (q (var 0) (var 1) (var 2) (var 3)))) → (x y z w : ℤ) → Hold (q (var 0) (var 1) (var 2) (var 3)) (x ∷ y ∷ z ∷ w ∷ [])
par4 q t x y z w = par (q (var 0) (var 1) (var 2) (var 3)) (x ∷ y ∷ z ∷ w ∷ []) t

pub par5 : (q : E → E → E → E → E → S) → T (every 5 (test (q (var 0) (var 1) (var 2) (var 3) (var 4)))) → (x y z w v : ℤ) → Hold (q (var 0) (var 1) (var 2) (var 3) (var 4)) (x ∷ y ∷ z ∷ w ∷ v ∷ [])
par5 q t x y z w v = par (q (var 0) (var 1) (var 2) (var 3) (var 4)) (x ∷ y ∷ z ∷ w ∷ v ∷ []) t

-- ---- an even number is twice another; every number is even or odd
pub even_form : (z : ℤ) → Even z → (k : ℤ) × (z ≡ pos 2 *ℤ k)
even_form (pos n) h = (pos (n / 2), ap pos (omega arith))
even_form (negsuc n) h = (negsuc (n / 2), omega (zarith, parts-* (pos 2) (negsuc (n / 2))))

pub odd_or_even : (z : ℤ) → Even z ⊎ Odd z
odd_or_even z = go (nat_abs z % 2) refl
  where
    go : (r : ℕ) → nat_abs z % 2 ≡ r → Even z ⊎ Odd z
    go zero e = inl e
    go (suc r) e = inr (omega arith)
