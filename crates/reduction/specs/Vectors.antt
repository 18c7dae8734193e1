-- Vocabulary of private contracts: pairs with their rest, and their order. No contract of an entry point cites it.
--
--   Vect               a pair (p, q) with its rest r
--   Fit A T v          p = A q + T r. At T = 2 ^ k and the value A of k bits: the pair fits, and r is what is left
--   plus, minus        g + f, g − f
--   off a v, past a v  r − a q: the pair fits one bit a more where this is even; v with it for its rest
--   twice a v, rest v h  2 v with its new rest; v with the new rest h
--   Within n v         p, q and r are at most n
--   size M a b, K M v  the key: max(|p|, |q|) M² + |p| M + |q|, below M the order "least size; among those, least |p|; then least q"
--   Lex a b c d        that order, without the key
--   vect               the code's vector
use Rattle.std.specs.Prelude.{◌≡◌, Bool, true, false, ◌⊎◌, ℕ, ◌+◌, ◌*◌, ◌<◌, ◌≤◌, max, ℤ, pos, ◌+ℤ◌, ◌-ℤ◌, ◌*ℤ◌, nat_abs}
use Rattle.reduction.specs.declared.Vector.{Vector}

pub record Vect : Type 0 where
  pub p : ℤ
  pub q : ℤ
  pub r : ℤ

abbrev pub vect : Vector → Vect
vect v = record { p = v.p; q = v.q; r = v.rest }

abbrev pub Fit : ℤ → ℤ → Vect → Type 0
Fit A T v = v.p ≡ A *ℤ v.q +ℤ T *ℤ v.r

abbrev pub plus : Vect → Vect → Vect
plus g f = record { p = g.p +ℤ f.p; q = g.q +ℤ f.q; r = g.r +ℤ f.r }

abbrev pub minus : Vect → Vect → Vect
minus g f = record { p = g.p -ℤ f.p; q = g.q -ℤ f.q; r = g.r -ℤ f.r }

abbrev pub off : ℤ → Vect → ℤ
off a v = v.r -ℤ a *ℤ v.q

abbrev pub twice : ℤ → Vect → Vect
twice a v = record { p = pos 2 *ℤ v.p; q = pos 2 *ℤ v.q; r = off a v }

abbrev pub rest : Vect → ℤ → Vect
rest v h = record { p = v.p; q = v.q; r = h }

abbrev pub past : ℤ → Vect → Vect
past a v = rest v (off a v)

pub record Within (n : ℕ) (v : Vect) : Type 0 where
  pub p_in : nat_abs v.p ≤ n
  pub q_in : nat_abs v.q ≤ n
  pub r_in : nat_abs v.r ≤ n

unfoldable pub size : ℕ → ℕ → ℕ → ℕ
size M a b = max a b * (M * M) + a * M + b

unfoldable pub norm : ℕ → ℤ → ℤ → ℕ
norm M p q = size M (nat_abs p) (nat_abs q)

abbrev pub K : ℕ → Vect → ℕ
K M v = norm M v.p v.q

-- a pair of sizes (a, b) stands before (c, d), or is the same
abbrev pub Lex : ℕ → ℕ → ℕ → ℕ → Type 0
Lex a b c d = (max a b < max c d) ⊎ ((max a b ≡ max c d) × ((a < c) ⊎ ((a ≡ c) × (b ≤ d))))

-- true: the first pair of sizes stands first; false: the second
abbrev pub Ordered : ℕ → ℕ → ℕ → ℕ → Bool → Type 0
Ordered a b c d true = Lex a b c d
Ordered a b c d false = Lex c d a b
