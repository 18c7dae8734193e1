-- What whitening comes to.
--
--   whitens_unique      register and bytes have one answer, one register after, and one list of bytes after
--   whitens_expansion   the bytes after are the bytes before exclusive-or the digits of num(g)/q, byte by byte, the register 8·n steps on
--   white_emitted       .. and as one number: the first 8·n bits at once
--   white_number        .. which are the first 8·n digits
--   whitens_twice       from the same register again: the first bytes come back
--   whitens_append      a, then b from the register after a, is a ++ b
--   whitens_none        no bytes: no steps
use mathlib.Core.Path.{◌≡◌, refl, sym, ap, ap₂, ◌∙◌, subst}
use mathlib.Core.List.{List, [], ◌∷◌, ◌++◌}
use Prim.Native.Nat.{ℕ, zero, suc, ◌+◌, ◌*◌, ◌≤◌, ◌<◌}
use native.Mathlib.Omega.{arith}
use lib.Bits.{bit_xor, xor_block}
use lib.IntN.{ℤ}
use lib.ListN.{length, get_or, length-append}
use Rattle.bits.specs.Bits.{num, Below}
use Rattle.fractions.specs.Expansion.{iter_num, digits_to}
use Rattle.registers.specs.Registers.{Valid, iter_of, out_to, num_of}
use Rattle.registers.specs.declared.Register.{Register}
use Rattle.registers.proofs.Validity.{valid_iter, iter_q}
use Rattle.registers.proofs.States.{numerator_iter, emits, iter_add, out_add, out_lt}
use Rattle.whitening.specs.Whitening.{white_of, most, Whitens, whitened, invalid, long}
use Rattle.bits.proofs.Bits.{xor_back}

-- ---- one answer
pub whitens_unique : (g : Register) (xs : List ℕ) (m n : ℕ) (h k : Register) (ys zs : List ℕ) → Whitens g xs m h ys → Whitens g xs n k zs
    → (m ≡ n) × (h ≡ k) × (ys ≡ zs)
whitens_unique g xs m n h k ys zs (whitened v l) (whitened v' l') = (refl, refl, refl)
whitens_unique g xs m n h k ys zs (whitened v l) (invalid f) = absurd (f v)
whitens_unique g xs m n h k ys zs (whitened v l) (long v' l') = let f : ⊥ = omega arith in absurd f
whitens_unique g xs m n h k ys zs (invalid f) (whitened v l) = absurd (f v)
whitens_unique g xs m n h k ys zs (invalid f) (invalid f') = (refl, refl, refl)
whitens_unique g xs m n h k ys zs (invalid f) (long v l) = absurd (f v)
whitens_unique g xs m n h k ys zs (long v l) (whitened v' l') = let f : ⊥ = omega arith in absurd f
whitens_unique g xs m n h k ys zs (long v l) (invalid f) = absurd (f v)
whitens_unique g xs m n h k ys zs (long v l) (long v' l') = (refl, refl, refl)

-- ---- the bytes, one at a time
pub white_length : (g : Register) (xs : List ℕ) → length (white_of g xs) ≡ length xs
unfolding white_of
white_length g [] = refl
white_length g (x ∷ xs) = ap suc (white_length (iter_of 8 g) xs)

pub white_at : (g : Register) (xs : List ℕ) (i : ℕ) → i < length xs → get_or (white_of g xs) i 0 ≡ bit_xor (get_or xs i 0) (out_to 8 (iter_of (8 * i) g))
unfolding white_of iter_of
white_at g [] i h = let f : ⊥ = omega arith in absurd f
white_at g (x ∷ xs) zero h = refl
white_at g (x ∷ xs) (suc i) h =
    let e : 8 * suc i ≡ 8 + 8 * i = omega arith in
    white_at (iter_of 8 g) xs i (omega arith) ∙ ap (λ (s : Register). bit_xor (get_or xs i 0) (out_to 8 s)) (sym (ap (λ (n : ℕ). iter_of n g) e ∙ iter_add 8 (8 * i) g))

-- ---- the expansion of num(g)/q
pub emits_at : (g : Register) → Valid g → (n m : ℕ) → out_to m (iter_of n g) ≡ digits_to g.q m (iter_num g.q n (num_of g))
emits_at g v n m = emits m (iter_of n g) (valid_iter n g v) ∙ ap₂ (λ (q : ℕ) (p : ℤ). digits_to q m p) (iter_q n g) (numerator_iter n g v)

pub record Expanded (g : Register) (xs : List ℕ) (h : Register) (ys : List ℕ) : Type 0 where
  pub same_length : length ys ≡ length xs
  pub bytes : (i : ℕ) → i < length xs → get_or ys i 0 ≡ bit_xor (get_or xs i 0) (digits_to g.q 8 (iter_num g.q (8 * i) (num_of g)))
  pub register : h ≡ iter_of (8 * length xs) g
  pub valid : Valid h
  pub numerator : num_of h ≡ iter_num g.q (8 * length xs) (num_of g)

pub whitens_expansion : (g : Register) (xs : List ℕ) (h : Register) (ys : List ℕ) → Whitens g xs 0 h ys → Expanded g xs h ys
whitens_expansion g xs h ys (whitened v l) =
    record {
      same_length = white_length g xs;
      bytes = λ i k. white_at g xs i k ∙ ap (bit_xor (get_or xs i 0)) (emits_at g v (8 * i) 8);
      register = refl;
      valid = valid_iter (8 * length xs) g v;
      numerator = numerator_iter (8 * length xs) g v;
    }

-- as one number, lowest byte first
pub white_emitted : (g : Register) (xs : List ℕ) → Below 256 xs → num 256 (white_of g xs) ≡ bit_xor (num 256 xs) (out_to (8 * length xs) g)
unfolding num white_of out_to
white_emitted g [] b = refl
white_emitted g (x ∷ xs) b =
    let n = num 256 xs in
    let o = out_to 8 g in
    let r = out_to (8 * length xs) (iter_of 8 g) in
    let e : 8 * suc (length xs) ≡ 8 + 8 * length xs = omega arith in
    let f : out_to (8 * suc (length xs)) g ≡ r * 256 + o = ap (λ (k : ℕ). out_to k g) e ∙ out_add 8 (8 * length xs) g ∙ omega arith in
    let s : x + 256 * n ≡ n * 256 + x = omega arith in
    ap (λ (k : ℕ). bit_xor x o + 256 * k) (white_emitted (iter_of 8 g) xs (λ i. b (suc i)))
    ∙ omega (arith, xor_block 8 n r x o (b 0) (out_lt 8 g), ap₂ bit_xor s f)

pub white_number : (g : Register) (xs : List ℕ) → Valid g → Below 256 xs → num 256 (white_of g xs) ≡ bit_xor (num 256 xs) (digits_to g.q (8 * length xs) (num_of g))
white_number g xs v b = white_emitted g xs b ∙ ap (bit_xor (num 256 xs)) (emits (8 * length xs) g v)

-- ---- twice
pub white_twice : (g : Register) (xs : List ℕ) → white_of g (white_of g xs) ≡ xs
unfolding white_of
white_twice g [] = refl
white_twice g (x ∷ xs) = ap₂ (λ (a : ℕ) (l : List ℕ). a ∷ l) (xor_back x (out_to 8 g)) (white_twice (iter_of 8 g) xs)

pub whitens_twice : (g : Register) (xs : List ℕ) (m n : ℕ) (h k : Register) (ys zs : List ℕ) → Whitens g xs m h ys → Whitens g ys n k zs
    → (n ≡ m) × (k ≡ h) × (zs ≡ xs)
whitens_twice g xs m n h k ys zs (whitened v l) w =
    let e = white_length g xs in
    let u = whitens_unique g ys n 0 k (iter_of (8 * length ys) g) zs (white_of g ys) w (whitened v (omega arith)) in
    (u.0, u.1 ∙ ap (λ (c : ℕ). iter_of (8 * c) g) e, u.2 ∙ white_twice g xs)
whitens_twice g xs m n h k ys zs (invalid f) w = whitens_unique g xs n 5 k g zs xs w (invalid f)
whitens_twice g xs m n h k ys zs (long v l) w = whitens_unique g xs n 9 k g zs xs w (long v l)

-- ---- one after the other
pub white_append : (g : Register) (xs ys : List ℕ) → white_of g (xs ++ ys) ≡ white_of g xs ++ white_of (iter_of (8 * length xs) g) ys
unfolding white_of iter_of
white_append g [] ys = refl
white_append g (x ∷ xs) ys =
    let e : 8 * suc (length xs) ≡ 8 + 8 * length xs = omega arith in
    let s : iter_of (8 * length xs) (iter_of 8 g) ≡ iter_of (8 * suc (length xs)) g = sym (ap (λ (n : ℕ). iter_of n g) e ∙ iter_add 8 (8 * length xs) g) in
    ap (λ (l : List ℕ). bit_xor x (out_to 8 g) ∷ l)
    (white_append (iter_of 8 g) xs ys ∙ ap (λ (h : Register). white_of (iter_of 8 g) xs ++ white_of h ys) s)

pub whitens_append : (g : Register) (xs ys : List ℕ) (h k : Register) (us vs : List ℕ) → length (xs ++ ys) ≤ most
    → Whitens g xs 0 h us → Whitens h ys 0 k vs → Whitens g (xs ++ ys) 0 k (us ++ vs)
whitens_append g xs ys h k us vs n (whitened v l) (whitened w m) =
    let e : 8 * length (xs ++ ys) ≡ 8 * length xs + 8 * length ys = omega (arith, length-append xs ys) in
    subst (λ (l : List ℕ). Whitens g (xs ++ ys) 0 k l) (white_append g xs ys)
    (subst (λ (s : Register). Whitens g (xs ++ ys) 0 s (white_of g (xs ++ ys))) (ap (λ (c : ℕ). iter_of c g) e ∙ iter_add (8 * length xs) (8 * length ys) g) (whitened v n))

pub whitens_none : (g : Register) → Valid g → Whitens g [] 0 g []
unfolding white_of iter_of
whitens_none g v = whitened v (omega arith)
