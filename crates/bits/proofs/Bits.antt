-- What the numbers say of single bits: bit i of a list of bytes is bit i of its number; packing and unpacking are inverse.
use Prim.Native.Nat.{ℕ, zero, suc, ◌+◌, ◌*◌, ◌-◌, ◌/◌, ◌%◌, ◌^◌, ◌≤◌, ◌<◌}
use mathlib.Core.Path.{◌≡◌, refl, sym, ap, ◌∙◌, ap₂}
use mathlib.Core.List.{List}
use mathlib.Core.Logic.{◌↔◌, ⊎_elim}
use native.Mathlib.Nat.{pow-succ', div-eq_of_lt, div-div-eq-div-mul, div-add-mod, div-lt_iff_lt-mul, pow-le-pow_right, div-le_self, div-add-mod'}
use native.Mathlib.Omega.{arith}
use lib.ListN.{length, get_or, get_or-eq_default}
use lib.Pow.{pow_pos, pow_mono, pow-add, field, mod-mod-pow}
use Rattle.bits.specs.Bits.{num, digits, Below, bit_at}
use Rattle.bits.proofs.Numbers.{num-digits, digits-num, num_lt, get_or-digits, pow8}
use Rattle.integers.proofs.Finite.{lt_or_ge}
use lib.Bits.{bit_xor, differ, xor_step, xor_shr, xor_mod}

low_bits : (s m : ℕ) → s < 8 → m % 256 / 2 ^ s % 2 ≡ m / 2 ^ s % 2
low_bits s m h =
    let e : 8 ≡ (7 - s + 1) + s = omega arith in
    ap (λ (n : ℕ). m % 2 ^ n / 2 ^ s % 2) e ∙ ap (λ (n : ℕ). n % 2) (field m (7 - s + 1) s) ∙ mod-mod-pow (m / 2 ^ s) (7 - s) 1

-- byte j of a list of bytes is byte j of its number
pub byte_of : (bytes : List ℕ) (j : ℕ) → Below 256 bytes → get_or bytes j 0 ≡ num 256 bytes / 256 ^ j % 256
byte_of bytes j l =
    ⊎_elim
    (λ (h : j < length bytes). ap (λ (x : List ℕ). get_or x j 0) (sym (digits-num 256 bytes (omega arith) l)) ∙ get_or-digits 256 (length bytes) (num 256 bytes) j h)
    (λ (h : length bytes ≤ j).
    let z : num 256 bytes / 256 ^ j ≡ 0 = div-eq_of_lt (let a = num_lt 256 bytes l in let b = pow-le-pow_right {n = 256} (omega arith) h in omega arith) in
    get_or-eq_default bytes 0 {n = j} h ∙ sym (ap (λ (x : ℕ). x % 256) z))
    (lt_or_ge j (length bytes))

pub bit-of : (bytes : List ℕ) (i : ℕ) → Below 256 bytes → bit_at bytes i ≡ num 256 bytes / 2 ^ i % 2
bit-of bytes i l =
    let e : 256 ^ (i / 8) * 2 ^ (i % 8) ≡ 2 ^ i = ap (λ (x : ℕ). x * 2 ^ (i % 8)) (pow8 (i / 8)) ∙ sym (pow-add 2 (8 * (i / 8)) (i % 8)) ∙ ap (λ (x : ℕ). 2 ^ x) (div-add-mod i 8) in
    ap (λ (x : ℕ). x / 2 ^ (i % 8) % 2) (byte_of bytes (i / 8) l)
    ∙ low_bits (i % 8) (num 256 bytes / 256 ^ (i / 8)) (omega arith)
    ∙ ap (λ (x : ℕ). x % 2) (div-div-eq-div-mul (num 256 bytes) (256 ^ (i / 8)) (2 ^ (i % 8)) ∙ ap (λ (x : ℕ). num 256 bytes / x) e)

-- unpacked, bit i is bit i of the bytes
pub unpacked_bit : (bytes : List ℕ) (n i : ℕ) → Below 256 bytes → i < n → get_or (digits 2 n (num 256 bytes)) i 0 ≡ bit_at bytes i
unpacked_bit bytes n i l h = get_or-digits 2 n (num 256 bytes) i h ∙ sym (bit-of bytes i l)

-- packing, then unpacking
pub unpack_pack : (k : ℕ) (bits : List ℕ) → Below 2 bits → length bits ≤ 8 * k → digits 2 (length bits) (num 256 (digits 256 k (num 2 bits))) ≡ bits
unpack_pack k bits l h =
    let s : num 2 bits < 256 ^ k = (let a = num_lt 2 bits l in let b = pow_mono {i = length bits} {j = 8 * k} h in omega (arith, pow8 k)) in
    ap (digits 2 (length bits)) (num-digits 256 k (num 2 bits) (omega arith) s) ∙ digits-num 2 bits (omega arith) l

-- unpacking, then packing, where the spare bits are zero
pub pack_unpack : (n : ℕ) (bytes : List ℕ) → Below 256 bytes → num 256 bytes < 2 ^ n → digits 256 (length bytes) (num 2 (digits 2 n (num 256 bytes))) ≡ bytes
pack_unpack n bytes l h = ap (digits 256 (length bytes)) (num-digits 2 n (num 256 bytes) (omega arith) h) ∙ digits-num 256 bytes (omega arith) l

-- a number below 2 ^ c has no bit at or past c, and the other way round
no_bit : (c i n : ℕ) → n < 2 ^ c → c ≤ i → n / 2 ^ i % 2 ≡ 0
no_bit c i n l h = ap (λ (x : ℕ). x % 2) (div-eq_of_lt (let p = pow_mono {i = c} {j = i} h in omega arith))

none_at_all : (k n : ℕ) → n < 2 ^ k → ((i : ℕ) → n / 2 ^ i % 2 ≡ 0) → n ≡ 0
none_at_all zero n l h = omega arith
none_at_all (suc k) n l h =
    let z = none_at_all k (n / 2) ((div-lt_iff_lt-mul {k = 2} {x = n} {y = 2 ^ k} (omega arith)).1 (omega (arith, pow-succ' 2 k)))
    (λ i. ap (λ (x : ℕ). x % 2) (div-div-eq-div-mul n 2 (2 ^ i) ∙ ap (λ (x : ℕ). n / x) (sym (pow-succ' 2 i))) ∙ h (suc i)) in
    let p : n / 1 % 2 ≡ 0 = h 0 in
    omega arith

spare_zero : (bytes : List ℕ) (c : ℕ) → Below 256 bytes → num 256 bytes < 2 ^ c → (i : ℕ) → c ≤ i → bit_at bytes i ≡ 0
spare_zero bytes c l h i k = bit-of bytes i l ∙ no_bit c i (num 256 bytes) h k

zero_spare : (bytes : List ℕ) (c : ℕ) → Below 256 bytes → ((i : ℕ) → c ≤ i → bit_at bytes i ≡ 0) → num 256 bytes < 2 ^ c
zero_spare bytes c l h =
    let n = num 256 bytes in
    let z : n / 2 ^ c ≡ 0 = none_at_all (8 * length bytes) (n / 2 ^ c) (omega (arith, num_lt 256 bytes l, pow8 (length bytes), div-le_self n (2 ^ c))) (λ i. ap (λ (x : ℕ). x % 2) (div-div-eq-div-mul n (2 ^ c) (2 ^ i) ∙ ap (λ (x : ℕ). n / x) (sym (pow-add 2 c i))) ∙ sym (bit-of bytes (c + i) l) ∙ h (c + i) (omega arith)) in
    let y : n < 1 * 2 ^ c = (div-lt_iff_lt-mul {k = 2 ^ c} {x = n} {y = 1} (pow_pos c)).0 (omega arith) in
    omega arith

-- so the test of a number is the rule on its bits: none is set at or past c
pub spare_bits : (bytes : List ℕ) (c : ℕ) → Below 256 bytes → (num 256 bytes < 2 ^ c) ↔ ((i : ℕ) → c ≤ i → bit_at bytes i ≡ 0)
spare_bits bytes c l = (spare_zero bytes c l, zero_spare bytes c l)

-- ---- exclusive or with the same number twice changes nothing
differ_back : (d e : ℕ) → d < 2 → e < 2 → differ (bit_xor d e) e ≡ d
differ_back zero zero h k = refl
differ_back zero (suc zero) h k = refl
differ_back (suc zero) zero h k = refl
differ_back (suc zero) (suc zero) h k = refl
differ_back (suc (suc d)) e h k = let f : ⊥ = omega arith in absurd f
differ_back zero (suc (suc e)) h k = let f : ⊥ = omega arith in absurd f
differ_back (suc zero) (suc (suc e)) h k = let f : ⊥ = omega arith in absurd f

pub xor_back : (a k : ℕ) → bit_xor (bit_xor a k) k ≡ a
xor_back a k = go (a + k) a k (omega arith) (omega arith)
  where
    go : (n a k : ℕ) → a ≤ n → k ≤ n → bit_xor (bit_xor a k) k ≡ a
    go zero a k h l =
        let e : a ≡ 0 = omega arith in
        let f : k ≡ 0 = omega arith in
        ap₂ (λ (x y : ℕ). bit_xor (bit_xor x y) y) e f ∙ sym e
    go (suc n) a k h l =
        xor_step (bit_xor a k) k
        ∙ ap₂ (λ (x y : ℕ). x * 2 + y)
        (ap (λ (x : ℕ). bit_xor x (k / 2)) (xor_shr a k 1) ∙ go n (a / 2) (k / 2) (omega arith) (omega arith))
        (ap (λ (x : ℕ). differ x (k % 2)) (xor_mod a k 1) ∙ differ_back (a % 2) (k % 2) (omega arith) (omega arith))
        ∙ div-add-mod' a 2
