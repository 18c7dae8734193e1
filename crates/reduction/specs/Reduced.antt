-- Vocabulary of private contracts: the reduced basis, and one turn of the search. No contract of an entry point cites it.
--
--   Basis A T f g          f and g fit, and every pair that fits is a combination of them; q is even at f and odd at g
--   Reduced M A T f g      and they are least: g of all that fits with q odd, f of all that fits with q even and rest odd
--   After bytes k x        the state x is reduced for the first k bits
--   Started x              .. for no bits
--   Pick M x y z           z is the one of x and y with the smaller key (either at a tie)
--   Sides a g s w o        of g and s, w fits one bit a more, and o does not
--   Turned a f g f' g'     one turn: s is the shorter of g + f, g − f; the new g is w, the new f twice the shorter of f and o
use Rattle.std.specs.Prelude.{◌≡◌, List, ℕ, ◌^◌, ◌≤◌, ℤ, pos, ◌-ℤ◌, ◌*ℤ◌}
use Rattle.integers.specs.Numbers.{Odd, Even, half_z}
use Rattle.bits.specs.Bits.{value}
use Rattle.reduction.specs.Vectors.{Vect, vect, K, Fit, plus, minus, off, twice, rest}
use Rattle.reduction.specs.declared.State.{State}

-- the determinant in the coordinates (q, r), and that it is 1 or −1
abbrev pub det : Vect → Vect → ℤ
det f g = f.r *ℤ g.q -ℤ f.q *ℤ g.r

abbrev pub Unit2 : Vect → Vect → Type 0
Unit2 f g = det f g *ℤ det f g ≡ pos 1

pub record Basis (A T : ℤ) (f g : Vect) : Type 0 where
  pub fit_f : Fit A T f
  pub fit_g : Fit A T g
  pub unit : Unit2 f g
  pub even_f : Even f.q
  pub odd_r : Odd f.r
  pub odd_g : Odd g.q

pub record Reduced (M : ℕ) (A T : ℤ) (f g : Vect) : Type 0 where
  pub base : Basis A T f g
  pub least_g : (v : Vect) → Fit A T v → Odd v.q → K M g ≤ K M v
  pub least_f : (v : Vect) → Fit A T v → Even v.q → Odd v.r → K M f ≤ K M v

-- the key's base: above every entry of a state
abbrev pub big : ℕ
big = 2 ^ 64

abbrev pub After : List ℕ → ℕ → State → Type 0
After bytes k x = Reduced big (pos (value bytes k)) (pos (2 ^ k)) (vect x.f) (vect x.g)

abbrev pub Started : State → Type 0
Started x = Reduced big (pos 0) (pos 1) (vect x.f) (vect x.g)

pub data Pick (M : ℕ) (x y : Vect) : Vect → Type 0 where
  fst : K M x ≤ K M y → Pick M x y x
  snd : K M y ≤ K M x → Pick M x y y

pub data Sides (a : ℤ) (g s : Vect) : Vect → Vect → Type 0 where
  stay : Even (off a g) → Sides a g s g s
  turn : Odd (off a g) → Sides a g s s g

pub record Turned (a : ℤ) (f g f' g' : Vect) : Type 0 where
  pub s : Vect
  pub w : Vect
  pub o : Vect
  pub m : Vect
  pub third : Pick big (plus g f) (minus g f) s
  pub sides : Sides a g s w o
  pub mid : Pick big f o m
  pub f_is : f' ≡ twice a m
  pub g_is : g' ≡ rest w (half_z (off a w))
