-- A ring normaliser for ℤ. `E` is an expression over numbered variables, `P` a polynomial: `k c` is a constant, `a ▹ p` is
-- a + X p, where X is the first variable, p is over the same variables, and a over the variables after X.
-- `ring e f ρ tt` proves that e and f have the same value at the variables' values ρ: the polynomial of e − f is all zeros.
use Rattle.std.proofs.Common.{◌≡◌, ℕ, zero, suc, Bool, true, false, ◌&&◌, T, List, [], ◌∷◌, ℤ, pos, negsuc, ◌+ℤ◌, ◌*ℤ◌, neg_ℤ, sym, refl, ap, ◌∙◌, ap₂, arith}
use lib.IntN.{pow, one, +ℤ_assoc}
use Rattle.integers.proofs.Parts.{by1, by2, by3, by4, by5, eq_of_sub, diff·ring}

infixl 6 ◌⊕◌ ◌⊖◌
infixl 7 ◌⊗◌
pub data E : Type 0 where
  var : ℕ → E
  lit : ℤ → E
  ◌⊕◌ : E → E → E
  ◌⊗◌ : E → E → E
  neg : E → E
  pw : E → ℕ → E

-- a numeral
abbrev pub # : ℕ → E
# n = lit (pos n)

abbrev pub ◌⊖◌ : E → E → E
e ⊖ f = e ⊕ neg f

abbrev pub at : List ℤ → ℕ → ℤ
at [] n = pos 0
at (x ∷ ρ) zero = x
at (x ∷ ρ) (suc n) = at ρ n

abbrev pub val : E → List ℤ → ℤ
val (var n) ρ = at ρ n
val (lit z) ρ = z
val (e ⊕ f) ρ = val e ρ +ℤ val f ρ
val (e ⊗ f) ρ = val e ρ *ℤ val f ρ
val (neg e) ρ = neg_ℤ (val e ρ)
val (pw e n) ρ = pow (val e ρ) n

infixr 5 ◌▹◌
pub data P : Type 0 where
  k : ℤ → P
  ◌▹◌ : P → P → P

abbrev head : List ℤ → ℤ
head [] = pos 0
head (x ∷ ρ) = x

abbrev tail : List ℤ → List ℤ
tail [] = []
tail (x ∷ ρ) = ρ

ev : P → List ℤ → ℤ
ev (k c) ρ = c
ev (a ▹ p) ρ = ev a (tail ρ) +ℤ head ρ *ℤ ev p ρ

-- a + X p, with a constant where it is one
abbrev pub mk : P → P → P
mk (k c) (k (pos zero)) = k c
mk (k c) (k (pos (suc n))) = k c ▹ k (pos (suc n))
mk (k c) (k (negsuc n)) = k c ▹ k (negsuc n)
mk (k c) (b ▹ q) = k c ▹ (b ▹ q)
mk (a ▹ p) q = (a ▹ p) ▹ q

abbrev pub addk : ℤ → P → P
addk c (k d) = k (c +ℤ d)
addk c (a ▹ p) = addk c a ▹ p

abbrev pub add : P → P → P
add (k c) q = addk c q
add (a ▹ p) (k d) = addk d a ▹ p
add (a ▹ p) (b ▹ q) = mk (add a b) (add p q)

abbrev pub scale : ℤ → P → P
scale c (k d) = k (c *ℤ d)
scale c (a ▹ p) = mk (scale c a) (scale c p)

-- f at each coefficient
abbrev pub low : (P → P) → P → P
low f (k d) = mk (f (k d)) (k (pos 0))
low f (b ▹ q) = mk (f b) (low f q)

abbrev pub mul : P → P → P
mul (k c) q = scale c q
mul (a ▹ p) q = add (low (mul a) q) (mk (k (pos 0)) (mul p q))

abbrev pub pvar : ℕ → P
pvar zero = k (pos 0) ▹ k (pos 1)
pvar (suc n) = pvar n ▹ k (pos 0)

abbrev pub npow : P → ℕ → P
npow p zero = k (pos 1)
npow p (suc n) = mul (npow p n) p

abbrev pub norm : E → P
norm (var n) = pvar n
norm (lit z) = k z
norm (e ⊕ f) = add (norm e) (norm f)
norm (e ⊗ f) = mul (norm e) (norm f)
norm (neg e) = scale (negsuc 0) (norm e)
norm (pw e n) = npow (norm e) n

abbrev pub zeroℤ : ℤ → Bool
zeroℤ (pos zero) = true
zeroℤ (pos (suc n)) = false
zeroℤ (negsuc n) = false

abbrev pub zero_p : P → Bool
zero_p (k c) = zeroℤ c
zero_p (a ▹ p) = zero_p a && zero_p p

-- ---- what they mean
l_const : (c x : ℤ) → c +ℤ x *ℤ pos 0 ≡ c
l_const = by2 (λ c x. c +ℤ x *ℤ pos 0 ≡ c) (λ a b c d. simp diff·ring (omega arith))

ev_mk : (a p : P) (ρ : List ℤ) → ev (mk a p) ρ ≡ ev a (tail ρ) +ℤ head ρ *ℤ ev p ρ
unfolding ev
ev_mk (k c) (k (pos zero)) ρ = sym (l_const c (head ρ))
ev_mk (k c) (k (pos (suc n))) ρ = refl
ev_mk (k c) (k (negsuc n)) ρ = refl
ev_mk (k c) (b ▹ q) ρ = refl
ev_mk (a ▹ p) q ρ = refl

ev_addk : (c : ℤ) (p : P) (ρ : List ℤ) → ev (addk c p) ρ ≡ c +ℤ ev p ρ
unfolding ev
ev_addk c (k d) ρ = refl
ev_addk c (a ▹ p) ρ = ap (λ (z : ℤ). z +ℤ head ρ *ℤ ev p ρ) (ev_addk c a (tail ρ)) ∙ +ℤ_assoc c (ev a (tail ρ)) (head ρ *ℤ ev p ρ)

l_addk : (d a r : ℤ) → d +ℤ a +ℤ r ≡ a +ℤ r +ℤ d
l_addk = by3 (λ d a r. d +ℤ a +ℤ r ≡ a +ℤ r +ℤ d) (λ a b c d e f. simp diff·ring (omega arith))

l_add : (a b p q x : ℤ) → a +ℤ b +ℤ x *ℤ (p +ℤ q) ≡ a +ℤ x *ℤ p +ℤ (b +ℤ x *ℤ q)
l_add = by5 (λ a b p q x. a +ℤ b +ℤ x *ℤ (p +ℤ q) ≡ a +ℤ x *ℤ p +ℤ (b +ℤ x *ℤ q)) (λ a b c d e f g h i j. simp diff·ring (omega arith))

l_scale : (c a p x : ℤ) → c *ℤ a +ℤ x *ℤ (c *ℤ p) ≡ c *ℤ (a +ℤ x *ℤ p)
l_scale = by4 (λ c a p x. c *ℤ a +ℤ x *ℤ (c *ℤ p) ≡ c *ℤ (a +ℤ x *ℤ p)) (λ a b c d e f g h. simp diff·ring (omega arith))

l_mul : (a p q x : ℤ) → a *ℤ q +ℤ (pos 0 +ℤ x *ℤ (p *ℤ q)) ≡ (a +ℤ x *ℤ p) *ℤ q
l_mul = by4 (λ a p q x. a *ℤ q +ℤ (pos 0 +ℤ x *ℤ (p *ℤ q)) ≡ (a +ℤ x *ℤ p) *ℤ q) (λ a b c d e f g h. simp diff·ring (omega arith))

l_one : (x : ℤ) → pos 0 +ℤ x *ℤ pos 1 ≡ x
l_one = by1 (λ x. pos 0 +ℤ x *ℤ pos 1 ≡ x) (λ a b. simp diff·ring (omega arith))

l_neg : (x : ℤ) → negsuc 0 *ℤ x ≡ neg_ℤ x
l_neg = by1 (λ x. negsuc 0 *ℤ x ≡ neg_ℤ x) (λ a b. simp diff·ring (omega arith))

ev_add : (p q : P) (ρ : List ℤ) → ev (add p q) ρ ≡ ev p ρ +ℤ ev q ρ
unfolding ev
ev_add (k c) q ρ = ev_addk c q ρ
ev_add (a ▹ p) (k d) ρ = ap (λ (z : ℤ). z +ℤ head ρ *ℤ ev p ρ) (ev_addk d a (tail ρ)) ∙ l_addk d (ev a (tail ρ)) (head ρ *ℤ ev p ρ)
ev_add (a ▹ p) (b ▹ q) ρ = ev_mk (add a b) (add p q) ρ
    ∙ ap₂ (λ (u v : ℤ). u +ℤ head ρ *ℤ v) (ev_add a b (tail ρ)) (ev_add p q ρ)
    ∙ l_add (ev a (tail ρ)) (ev b (tail ρ)) (ev p ρ) (ev q ρ) (head ρ)

ev_scale : (c : ℤ) (p : P) (ρ : List ℤ) → ev (scale c p) ρ ≡ c *ℤ ev p ρ
unfolding ev
ev_scale c (k d) ρ = refl
ev_scale c (a ▹ p) ρ = ev_mk (scale c a) (scale c p) ρ
    ∙ ap₂ (λ (u v : ℤ). u +ℤ head ρ *ℤ v) (ev_scale c a (tail ρ)) (ev_scale c p ρ)
    ∙ l_scale c (ev a (tail ρ)) (ev p ρ) (head ρ)

ev_low : (f : P → P) (A : ℤ) (ρ : List ℤ) → ((b : P) → ev (f b) (tail ρ) ≡ A *ℤ ev b (tail ρ)) → (q : P) → ev (low f q) ρ ≡ A *ℤ ev q ρ
unfolding ev
ev_low f A ρ h (k d) = ev_mk (f (k d)) (k (pos 0)) ρ ∙ l_const (ev (f (k d)) (tail ρ)) (head ρ) ∙ h (k d)
ev_low f A ρ h (b ▹ q) = ev_mk (f b) (low f q) ρ
    ∙ ap₂ (λ (u v : ℤ). u +ℤ head ρ *ℤ v) (h b) (ev_low f A ρ h q)
    ∙ l_scale A (ev b (tail ρ)) (ev q ρ) (head ρ)

ev_mul : (p q : P) (ρ : List ℤ) → ev (mul p q) ρ ≡ ev p ρ *ℤ ev q ρ
unfolding ev
ev_mul (k c) q ρ = ev_scale c q ρ
ev_mul (a ▹ p) q ρ = ev_add (low (mul a) q) (mk (k (pos 0)) (mul p q)) ρ
    ∙ ap₂ (λ (u v : ℤ). u +ℤ v) (ev_low (mul a) (ev a (tail ρ)) ρ (λ b. ev_mul a b (tail ρ)) q)
    (ev_mk (k (pos 0)) (mul p q) ρ ∙ ap (λ (v : ℤ). pos 0 +ℤ head ρ *ℤ v) (ev_mul p q ρ))
    ∙ l_mul (ev a (tail ρ)) (ev p ρ) (ev q ρ) (head ρ)

ev_pvar : (n : ℕ) (ρ : List ℤ) → ev (pvar n) ρ ≡ at ρ n
unfolding ev
ev_pvar zero [] = refl
ev_pvar zero (x ∷ ρ) = l_one x
ev_pvar (suc n) [] = l_const (ev (pvar n) []) (pos 0) ∙ ev_pvar n []
ev_pvar (suc n) (x ∷ ρ) = l_const (ev (pvar n) ρ) x ∙ ev_pvar n ρ

ev_npow : (p : P) (n : ℕ) (ρ : List ℤ) → ev (npow p n) ρ ≡ pow (ev p ρ) n
unfolding ev pow one
ev_npow p zero ρ = refl
ev_npow p (suc n) ρ = ev_mul (npow p n) p ρ ∙ ap (λ (v : ℤ). v *ℤ ev p ρ) (ev_npow p n ρ)

ev_norm : (e : E) (ρ : List ℤ) → ev (norm e) ρ ≡ val e ρ
unfolding ev
ev_norm (var n) ρ = ev_pvar n ρ
ev_norm (lit z) ρ = refl
ev_norm (e ⊕ f) ρ = ev_add (norm e) (norm f) ρ ∙ ap₂ (λ (u v : ℤ). u +ℤ v) (ev_norm e ρ) (ev_norm f ρ)
ev_norm (e ⊗ f) ρ = ev_mul (norm e) (norm f) ρ ∙ ap₂ (λ (u v : ℤ). u *ℤ v) (ev_norm e ρ) (ev_norm f ρ)
ev_norm (neg e) ρ = ev_scale (negsuc 0) (norm e) ρ ∙ ap (λ (v : ℤ). negsuc 0 *ℤ v) (ev_norm e ρ) ∙ l_neg (val e ρ)
ev_norm (pw e n) ρ = ev_npow (norm e) n ρ ∙ ap (λ (v : ℤ). pow v n) (ev_norm e ρ)

and_l : (a b : Bool) → T (a && b) → T a
and_l true b t = tt
and_l false b t = t

and_r : (a b : Bool) → T (a && b) → T b
and_r true b t = t
and_r false b t = absurd t

zero_sound : (p : P) (ρ : List ℤ) → T (zero_p p) → ev p ρ ≡ pos 0
unfolding ev
zero_sound (k (pos zero)) ρ t = refl
zero_sound (k (pos (suc n))) ρ t = absurd t
zero_sound (k (negsuc n)) ρ t = absurd t
zero_sound (a ▹ p) ρ t = ap₂ (λ (u v : ℤ). u +ℤ head ρ *ℤ v) (zero_sound a (tail ρ) (and_l (zero_p a) (zero_p p) t)) (zero_sound p ρ (and_r (zero_p a) (zero_p p) t)) ∙ l_const (pos 0) (head ρ)

pub ring : (e f : E) (ρ : List ℤ) → T (zero_p (norm (e ⊖ f))) → val e ρ ≡ val f ρ
ring e f ρ t = eq_of_sub (val e ρ) (val f ρ) (sym (ev_norm (e ⊖ f) ρ) ∙ zero_sound (norm (e ⊖ f)) ρ t)

infix 4 ◌≔◌
pub data Eqn : Type 0 where
  ◌≔◌ : E → E → Eqn

abbrev pub ok : Eqn → Bool
ok (e ≔ f) = zero_p (norm (e ⊖ f))

abbrev pub Holds : Eqn → List ℤ → Type 0
Holds (e ≔ f) ρ = val e ρ ≡ val f ρ

holds : (q : Eqn) (ρ : List ℤ) → T (ok q) → Holds q ρ
holds (e ≔ f) ρ t = ring e f ρ t

pub ring1 : (q : E → Eqn) → T (ok (q (var 0))) → (x : ℤ) → Holds (q (var 0)) (x ∷ [])
ring1 q t x = holds (q (var 0)) (x ∷ []) t

pub ring2 : (q : E → E → Eqn) → T (ok (q (var 0) (var 1))) → (x y : ℤ) → Holds (q (var 0) (var 1)) (x ∷ y ∷ [])
ring2 q t x y = holds (q (var 0) (var 1)) (x ∷ y ∷ []) t

pub ring3 : (q : E → E → E → Eqn) → T (ok (q (var 0) (var 1) (var 2))) → (x y z : ℤ) → Holds (q (var 0) (var 1) (var 2)) (x ∷ y ∷ z ∷ [])
ring3 q t x y z = holds (q (var 0) (var 1) (var 2)) (x ∷ y ∷ z ∷ []) t

pub ring4 : (q : E → E → E → E → Eqn) → T (ok (q (var 0) (var 1) (var 2) (var 3))) → (x y z w : ℤ) → Holds (q (var 0) (var 1) (var 2) (var 3)) (x ∷ y ∷ z ∷ w ∷ [])
ring4 q t x y z w = holds (q (var 0) (var 1) (var 2) (var 3)) (x ∷ y ∷ z ∷ w ∷ []) t

pub ring5 : (q : E → E → E → E → E → Eqn) → T (ok (q (var 0) (var 1) (var 2) (var 3) (var 4))) → (x y z w v : ℤ) → Holds (q (var 0) (var 1) (var 2) (var 3) (var 4)) (x ∷ y ∷ z ∷ w ∷ v ∷ [])
ring5 q t x y z w v = holds (q (var 0) (var 1) (var 2) (var 3) (var 4)) (x ∷ y ∷ z ∷ w ∷ v ∷ []) t

pub ring6 : (q : E → E → E → E → E → E → Eqn) → T (ok (q (var 0) (var 1) (var 2) (var 3) (var 4) (var 5))) → (x y z w v u : ℤ) → Holds (q (var 0) (var 1) (var 2) (var 3) (var 4) (var 5)) (x ∷ y ∷ z ∷ w ∷ v ∷ u ∷ [])
ring6 q t x y z w v u = holds (q (var 0) (var 1) (var 2) (var 3) (var 4) (var 5)) (x ∷ y ∷ z ∷ w ∷ v ∷ u ∷ []) t

pub ring11 : (x : E → E → E → E → E → E → E → E → E → E → E → Eqn) → T (ok (x (var 0) (var 1) (var 2) (var 3) (var 4) (var 5) (var 6) (var 7) (var 8) (var 9) (var 10)))
    → (a b c d e f g h i j l : ℤ) → Holds (x (var 0) (var 1) (var 2) (var 3) (var 4) (var 5) (var 6) (var 7) (var 8) (var 9) (var 10)) (a ∷ b ∷ c ∷ d ∷ e ∷ f ∷ g ∷ h ∷ i ∷ j ∷ l ∷ [])
ring11 x t a b c d e f g h i j l = holds (x (var 0) (var 1) (var 2) (var 3) (var 4) (var 5) (var 6) (var 7) (var 8) (var 9) (var 10)) (a ∷ b ∷ c ∷ d ∷ e ∷ f ∷ g ∷ h ∷ i ∷ j ∷ l ∷ []) t
