-- Remainders by a number W, and inverses modulo a power of 2.
use Rattle.std.proofs.Common.{◌≡◌, ℕ, zero, suc, ◌+◌, ◌-◌, ◌*◌, ◌/◌, ◌%◌, ◌^◌, ◌<◌, ◌≤◌, sym, ap, ◌∙◌, ap₂, mul-le-mul_right, mod-eq_of_lt, mul_assoc, mul_comm, pow-suc, div-add-mod', mul-one, arith, pow_pos}
use native.Mathlib.Nat.{zero-mod, add-mul-mod_self_left}
use Rattle.std.proofs.lemmas.Nat.{mul-mod_first, mul-mod_second}

-- equal up to multiples of W
pub cong_of : (W x y a b : ℕ) → x + W * a ≡ y + W * b → x % W ≡ y % W
cong_of W x y a b e = sym (add-mul-mod_self_left x W a) ∙ ap (λ (n : ℕ). n % W) e ∙ add-mul-mod_self_left y W b

pub mul_mod_r : (W a b : ℕ) → a * (b % W) % W ≡ a * b % W
mul_mod_r W a b = mul-mod_second a b W

pub mul_mod_l : (W a b : ℕ) → a % W * b % W ≡ a * b % W
mul_mod_l W a b = mul-mod_first a b W

pub cong_r : (W a b c : ℕ) → b % W ≡ c % W → a * b % W ≡ a * c % W
cong_r W a b c e = sym (mul_mod_r W a b) ∙ ap (λ (n : ℕ). a * n % W) e ∙ mul_mod_r W a c

pub mod_down : (L c x : ℕ) → x % (L * c) % L ≡ x % L
mod_down L c x =
    let e = div-add-mod' x (L * c) in
    cong_of L (x % (L * c)) x (c * (x / (L * c))) 0 (omega arith)

-- where F is (m + 1) F, m F is 0
pub cong_less : (W m F : ℕ) → (m + 1) * F % W ≡ F % W → m * F % W ≡ 0
cong_less W m F h =
    cong_of W (m * F) 0 (F / W) ((m + 1) * F / W) (omega (arith, div-add-mod' F W, div-add-mod' ((m + 1) * F) W)) ∙ zero-mod W

-- where q has the inverse v modulo W, u q + W a tells u
pub key-of : (W q v u P a b : ℕ) → u < W → q * v % W ≡ 1 % W → P + W * a ≡ u * q + W * b → P % W * v % W ≡ u
key-of W q v u P a b l i e =
    mul_mod_l W P v ∙ rw (mul_comm P v) (cong_r W v P (u * q) (cong_of W P (u * q) a b e))
    ∙ again ∙ cong_r W u (q * v) 1 i ∙ rw (mul-one u) (mod-eq_of_lt l)
  where
    again : v * (u * q) % W ≡ u * (q * v) % W
    again = let e : v * (u * q) ≡ u * (q * v) = omega arith in ap (λ (n : ℕ). n % W) e

-- Newton's step: where e = q x is 1 modulo K, and f is 2 - e modulo K K, then e f is 1 modulo K K
newton_of : (K c b e f : ℕ) → e ≡ 1 + K * b → f + e ≡ K * K * c + 2 → e * f % (K * K) ≡ 1 % (K * K)
newton_of K c b e f h k =
    let s : e * e ≡ (1 + K * b) * (1 + K * b) = ap (λ (n : ℕ). n * n) h in
    let t : e * (f + e) ≡ e * (K * K * c + 2) = ap (λ (n : ℕ). e * n) k in
    cong_of (K * K) (e * f) 1 (b * b) (e * c) (omega arith)

one_more : (K e : ℕ) → 1 < K → e % K ≡ 1 → e ≡ 1 + K * (e / K)
one_more K e h i = omega (arith, div-add-mod' e K)

pub newton : (K c e f : ℕ) → 1 < K → e % K ≡ 1 → f + e ≡ K * K * c + 2 → e * f % (K * K) ≡ 1
newton K c e f h i k =
    newton_of K c (e / K) e f (one_more K e h i) k
    ∙ mod-eq_of_lt (omega (arith, mul-le-mul_right {m = 1} {n = K} K (omega arith)))

-- the same with remainders modulo W, a multiple of K K, as code computes it
pub newton_step : (W K c q x e f y : ℕ) → 1 < K → K * K * c ≡ W → e ≡ q * x % W → (f + e) % W ≡ 2 → y ≡ x * f % W → q * x % K ≡ 1 → q * y % (K * K) ≡ 1
newton_step W K c q x e f y k w he hf hy i =
    let both : K * (K * c) ≡ W = sym (mul_assoc K K c) ∙ w in
    let one : e % K ≡ 1 = ap (λ (n : ℕ). n % K) he ∙ ap (λ (n : ℕ). q * x % n % K) (sym both) ∙ mod_down K (K * c) (q * x) ∙ i in
    let sum : f + e ≡ K * K * (c * ((f + e) / W)) + 2 =
    sym (div-add-mod' (f + e) W) ∙ ap₂ (λ (n r : ℕ). n + r) (mul_comm ((f + e) / W) W ∙ ap (λ (n : ℕ). n * ((f + e) / W)) (sym w) ∙ mul_assoc (K * K) c ((f + e) / W)) hf in
    let lower : (t : ℕ) → t % W % (K * K) ≡ t % (K * K) = λ t. ap (λ (n : ℕ). t % n % (K * K)) (sym w) ∙ mod_down (K * K) c t in
    let over : q * y % W ≡ e * f % W =
    ap (λ (n : ℕ). q * n % W) hy ∙ mul_mod_r W q (x * f) ∙ ap (λ (n : ℕ). n % W) (sym (mul_assoc q x f)) ∙ sym (mul_mod_l W (q * x) f) ∙ ap (λ (n : ℕ). n * f % W) (sym he) in
    sym (lower (q * y)) ∙ ap (λ (n : ℕ). n % (K * K)) over ∙ lower (e * f) ∙ newton K (c * ((f + e) / W)) e f k one sum

-- an odd number is its own inverse modulo 4
pub odd_square : (q : ℕ) → q % 2 ≡ 1 → q * q % 4 ≡ 1
odd_square q o =
    let h : q ≡ 1 + 2 * (q / 2) = omega arith in
    let s : q * q ≡ (1 + 2 * (q / 2)) * (1 + 2 * (q / 2)) = ap (λ (n : ℕ). n * n) h in
    omega arith

-- an odd number has an inverse modulo each power of 2
pub inverse : (q k : ℕ) → q % 2 ≡ 1 → (v : ℕ) × (q * v % 2 ^ suc k ≡ 1)
inverse q zero o = (1, rw (mul-one q) o)
inverse q (suc k) o =
    let w = inverse q k o in
    let K = 2 ^ suc k in
    let e = q * w.0 in
    let f = K * K * e + 2 - e in
    let big : 1 * e ≤ K * K * e = mul-le-mul_right e (omega (arith, pow_pos k, mul-le-mul_right {m = 1} {n = K} K (omega (arith, pow_pos k)))) in
    let n = newton K e e f (omega (arith, pow_pos k)) w.1 (omega arith) in
    let two : K * K ≡ 2 ^ suc (suc k) * 2 ^ k = simp (pow-suc 2 (suc k), pow-suc 2 k) (omega arith) in (
      w.0 * f,
      ap (λ (x : ℕ). x % 2 ^ suc (suc k)) (sym (mul_assoc q w.0 f))
          ∙ sym (mod_down (2 ^ suc (suc k)) (2 ^ k) (e * f)) ∙ ap (λ (x : ℕ). e * f % x % 2 ^ suc (suc k)) (sym two)
          ∙ ap (λ (x : ℕ). x % 2 ^ suc (suc k)) n ∙ mod-eq_of_lt (omega (arith, pow_pos k)),
    )

-- a product modulo H H by halves: a = h H + l, b = k H + m, and the product h k of the upper halves drops out
pub mul_halves : (H h l k m : ℕ) → (l * m + (h * m % H + l * k % H) % H * H) % (H * H) ≡ (h * H + l) * (k * H + m) % (H * H)
mul_halves H h l k m =
    let u = h * m in
    let v = l * k in
    let c = u % H + v % H in
    let eu : (u / H * H + u % H) * H ≡ u * H = ap (λ (n : ℕ). n * H) (div-add-mod' u H) in
    let ev : (v / H * H + v % H) * H ≡ v * H = ap (λ (n : ℕ). n * H) (div-add-mod' v H) in
    let ec : (c / H * H + c % H) * H ≡ c * H = ap (λ (n : ℕ). n * H) (div-add-mod' c H) in
    cong_of (H * H) (l * m + c % H * H) ((h * H + l) * (k * H + m)) (u / H + v / H + c / H + h * k) 0 (omega arith)
