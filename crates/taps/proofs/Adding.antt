-- The sums over the taps, tap by tap, and that they fit.
use Rattle.std.proofs.Common.{◌≡◌, ℕ, zero, suc, ◌+◌, ◌-◌, ◌*◌, ◌/◌, ◌%◌, ◌^◌, ◌<◌, ◌≤◌, refl, ap, ap₂, arith, mul-le-mul, mod-lt, mod-eq_of_lt, pow_mono}
use lib.Pow.{shr_le, pow_pos}
use Rattle.bits.specs.Bits.{bit_of}
use Rattle.taps.specs.Sums.{parts_to, taps_to, over_to}

-- the machine's 2^b
pub shifted : (b : ℕ) → b ≤ 32 → 1 * 2 ^ b % 2 ^ 64 ≡ 2 ^ b
shifted b h = let p : 2 ^ b ≤ 2 ^ 32 = pow_mono {j = 32} h in omega arith

-- a tap adds at most 2^b
pub part_le : (t a b : ℕ) → t % 2 * (a % 2 ^ b) ≤ 2 ^ b
part_le t a b =
    let p : t % 2 * (a % 2 ^ b) ≤ 1 * 2 ^ b = mul-le-mul {n₂ = 1} {m₂ = 2 ^ b} (omega arith) (omega (arith, mod-lt a (pow_pos b))) in
    omega arith

-- the sum over k taps is that over k - 1 with one tap more
pub turn : (b q a r k j s : ℕ) → 1 ≤ k → j ≡ k → s ≡ parts_to b q a r (k - 1) → s ≤ (k - 1) * 2 ^ b
    → (s + (q + 1) / 2 ^ k % 2 * (a / 2 ^ (r - k) % 2 ^ b) ≡ parts_to b q a r j) × (s + (q + 1) / 2 ^ k % 2 * (a / 2 ^ (r - k) % 2 ^ b) ≤ j * 2 ^ b)
unfolding parts_to
turn b q a r zero j s h i e l = absurd (omega arith)
turn b q a r (suc k) j s h i e l =
    let before : suc k - 1 ≡ k = omega arith in
    let sum_is = rw before at e in
    let most = rw before at l in
    let x = bit_of (q + 1) (suc k) * (a / 2 ^ (r - suc k) % 2 ^ b) in
    rw i (ap (λ (s : ℕ). s + x) sum_is, omega (arith, most, part_le ((q + 1) / 2 ^ suc k) (a / 2 ^ (r - suc k)) b))

bit_mul : (a b : ℕ) → a % 2 * (b % 2) ≤ 1
bit_mul a b = mul-le-mul {n₂ = 1} {m₂ = 1} (omega arith) (omega arith)

pub taps_le : (q a r k : ℕ) → taps_to q a r k ≤ k
unfolding taps_to
taps_le q a r zero = omega arith
taps_le q a r (suc k) = omega (arith, taps_le q a r k, bit_mul ((q + 1) / 2 ^ suc k) (a / 2 ^ (r - suc k)))

-- of one bit each, and of all 32
pub parts_taps : (q a r k : ℕ) → parts_to 1 q a r k ≡ taps_to q a r k
unfolding parts_to taps_to
parts_taps q a r zero = refl
parts_taps q a r (suc k) = ap (λ (s : ℕ). s + bit_of (q + 1) (suc k) * bit_of a (r - suc k)) (parts_taps q a r k)

pub parts_over : (q a r k : ℕ) → a < 2 ^ 32 → parts_to 32 q a r k ≡ over_to q a r k
unfolding parts_to over_to
parts_over q a r zero l = refl
parts_over q a r (suc k) l =
    let all : a / 2 ^ (r - suc k) % 2 ^ 32 ≡ a / 2 ^ (r - suc k) = mod-eq_of_lt (omega (arith, shr_le a (r - suc k))) in
    ap₂ (λ (s x : ℕ). s + bit_of (q + 1) (suc k) * x) (parts_over q a r k l) all
