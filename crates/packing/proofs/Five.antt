-- A window of at most 32 bits lies in five bytes.
use Prim.Native.Nat.{ℕ, ◌+◌, ◌*◌, ◌-◌, ◌/◌, ◌%◌, ◌^◌, ◌≤◌}
use mathlib.Core.Path.{◌≡◌, sym, ap, ◌∙◌}
use mathlib.Core.List.{List}
use native.Mathlib.Nat.{div-div-eq-div-mul, div-add-mod}
use native.Mathlib.Omega.{arith}
use lib.Pow.{pow-add, mod-pow-add, field, mod-mod-pow}
use lib.ListN.{get_or}
use Rattle.bits.specs.Bits.{num, Below, window}
use Rattle.bits.proofs.Numbers.{pow8}
use Rattle.bits.proofs.Bits.{byte_of}

five : (M : ℕ) → M % 256 + 256 * (M / 256 % 256) + 65536 * (M / 65536 % 256) + 16777216 * (M / 16777216 % 256) + 4294967296 * (M / 4294967296 % 256) ≡ M % 1099511627776
five M = sum _ _ _ _ _ _ _ _ (mod-pow-add M 8 8) (mod-pow-add M 8 16) (mod-pow-add M 8 24) (mod-pow-add M 8 32)
  where
    sum : (a b c d e w x y : ℕ) {z : ℕ} → w ≡ b * 256 + a → x ≡ c * 65536 + w → y ≡ d * 16777216 + x → z ≡ e * 4294967296 + y
        → a + 256 * b + 65536 * c + 16777216 * d + 4294967296 * e ≡ z
    sum a b c d e w x y h i j k = omega arith

-- byte j + t by the number from byte j on
byte_on : (bytes : List ℕ) (j t : ℕ) → Below 256 bytes → get_or bytes (j + t) 0 ≡ num 256 bytes / 256 ^ j / 256 ^ t % 256
byte_on bytes j t l =
    byte_of bytes (j + t) l
    ∙ ap (λ (x : ℕ). x % 256) (ap (λ (x : ℕ). num 256 bytes / x) (pow-add 256 j t) ∙ sym (div-div-eq-div-mul (num 256 bytes) (256 ^ j) (256 ^ t)))

pub window_bytes : (bytes : List ℕ) (i m x : ℕ) → Below 256 bytes → m ≤ 32
    → x ≡ get_or bytes (i / 8) 0 + 256 * get_or bytes (i / 8 + 1) 0 + 65536 * get_or bytes (i / 8 + 2) 0 + 16777216 * get_or bytes (i / 8 + 3) 0 + 4294967296 * get_or bytes (i / 8 + 4) 0
    → x / 2 ^ (i % 8) % 2 ^ m ≡ window bytes i m
window_bytes bytes i m x l h e =
    let j = i / 8 in
    let s = i % 8 in
    let M = num 256 bytes / 256 ^ j in
    let k = 40 - (s + m) in
    let all : x ≡ M % 2 ^ 40 =
    e ∙ omega (arith, byte_of bytes j l, byte_on bytes j 1 l, byte_on bytes j 2 l, byte_on bytes j 3 l, byte_on bytes j 4 l) ∙ five M in
    let split : 40 ≡ (k + m) + s = omega arith in
    let from : 256 ^ j * 2 ^ s ≡ 2 ^ i = ap (λ (x : ℕ). x * 2 ^ s) (pow8 j) ∙ sym (pow-add 2 (8 * j) s) ∙ ap (λ (x : ℕ). 2 ^ x) (div-add-mod i 8) in
    ap (λ (n : ℕ). n / 2 ^ s % 2 ^ m) (all ∙ ap (λ (n : ℕ). M % 2 ^ n) split)
    ∙ ap (λ (n : ℕ). n % 2 ^ m) (field M (k + m) s)
    ∙ mod-mod-pow (M / 2 ^ s) k m
    ∙ ap (λ (n : ℕ). n % 2 ^ m) (div-div-eq-div-mul (num 256 bytes) (256 ^ j) (2 ^ s) ∙ ap (λ (n : ℕ). num 256 bytes / n) from)
