-- Bytes in hexadecimal, one byte after the other.
--
--   hex_length   two digits for each byte
--   hexing_room   there is room for one byte more
--   hexing_more   one byte more, behind what was written
use Prim.Native.Nat.{ℕ, ◌+◌, ◌*◌, ◌/◌, ◌%◌, ◌≤◌, ◌<◌}
use mathlib.Core.Path.{◌≡◌, refl, ap, ◌∙◌}
use mathlib.Core.List.{List, [], ◌∷◌, ◌++◌, append_assoc}
use native.Mathlib.Omega.{arith}
use native.Mathlib.Numerals.{add-one}
use lib.ListN.{length, length-append, get_or, take}
use lib.Seq.{take-suc, length-take-le}
use Rattle.reading.specs.Line.{hex_digit, hex_byte, hex_of, line_size}

pub hex_length : (bs : List ℕ) → length (hex_of bs) ≡ 2 * length bs
unfolding hex_of
hex_length [] = refl
hex_length (b ∷ bs) = let e = hex_length bs in omega arith

hex_append : (xs ys : List ℕ) → hex_of (xs ++ ys) ≡ hex_of xs ++ hex_of ys
unfolding hex_of
hex_append [] ys = refl
hex_append (x ∷ xs) ys = ap (λ (l : List ℕ). hex_byte x ++ l) (hex_append xs ys)

hex_one : (b : ℕ) → hex_of (b ∷ []) ≡ hex_byte b
unfolding hex_of
hex_one b = refl

hex_more : (bs : List ℕ) (i : ℕ) → i < length bs → hex_of (take (i + 1) bs) ≡ hex_of (take i bs) ++ hex_byte (get_or bs i 0)
hex_more bs i h =
    ap hex_of (ap (λ (n : ℕ). take n bs) (add-one i) ∙ take-suc bs i 0 h) ∙ hex_append (take i bs) (get_or bs i 0 ∷ []) ∙ ap (λ (l : List ℕ). hex_of (take i bs) ++ l) (hex_one (get_or bs i 0))

pub hexing_room : (old out bs : List ℕ) (i : ℕ) → i < length bs → out ≡ old ++ hex_of (take i bs) → length old + 2 * length bs ≤ line_size → length out + 2 ≤ line_size
hexing_room old out bs i h w room =
    rw (w, length-append) (omega (arith, hex_length (take i bs), length-take-le i bs (omega (arith, h))))

-- one byte more, behind what was written
pub hexing_more : (old out mid : List ℕ) {new : List ℕ} {high low : ℕ} (bs : List ℕ) (i : ℕ) → i < length bs → out ≡ old ++ hex_of (take i bs)
    → mid ≡ out ++ (high ∷ []) → high ≡ hex_digit (get_or bs i 0 / 16) → new ≡ mid ++ (low ∷ []) → low ≡ hex_digit (get_or bs i 0 % 16) → new ≡ old ++ hex_of (take (i + 1) bs)
hexing_more old out mid {high = high} {low = low} bs i h w p a q b =
    q ∙ ap (λ (l : List ℕ). l ++ (low ∷ [])) (p ∙ ap (λ (l : List ℕ). l ++ (high ∷ [])) w)
    ∙ rw (a, b, hex_more bs i h) (simp append_assoc)
