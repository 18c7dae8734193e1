-- The whole way. Let g be any valid register whose read-back is p/q with |p| and q below 2^b, b from 1 to 30. If the first n bits that it emits, 2b+1 ≤ n ≤ 4,096,
-- reach a meter's place of a fresh store through any sequence of accepted blocks, cut into records in any way and among any other meters' records, then learning by
-- that meter answers p/q; the register loaded from it emits what g emits, for ever; and a payload whitened with g is given back by whitening with the loaded register
-- from the same step on.
--
--   emitted_bits n g                      the first n bits that g emits, as a list
--   Trained g p q b n meter blocks t     the hypotheses: t is the store after the blocks. That g reads back p/q says that it is valid
--   Recovered g p q number p' q' m k     the conclusions: what learning by meter and loading answer, and what the loaded register does
--   whole_way                            the one leads to the other
use mathlib.Core.Path.{◌≡◌, refl, sym, ap, ap₂, ◌∙◌, subst, subst₂}
use mathlib.Core.Logic.{inl, inr}
use mathlib.Core.List.{List, [], ◌∷◌}
use Prim.Native.Nat.{ℕ, ◌+◌, ◌*◌, ◌%◌, ◌^◌, ◌≤◌, ◌<◌}
use native.Mathlib.Omega.{arith}
use native.Mathlib.Nat.{mod-eq_of_lt, eq_of_mul-eq-mul_left}
use lib.Pow.{pow_pos}
use lib.Bits.{bit_xor}
use lib.IntN.{ℤ, nat_abs}
use lib.ListN.{length}
use Rattle.integers.proofs.Tests.{not_both}
use Rattle.bits.specs.Bits.{num, digits}
use Rattle.bits.proofs.Numbers.{length_digits}
use Rattle.bits.proofs.Values.{num_low}
use Rattle.fractions.specs.Pairs.{Inside, Fits, Lowest}
use Rattle.fractions.specs.Expansion.{digits_to}
use Rattle.fractions.proofs.Numerators.{digits_lt}
use Rattle.fractions.proofs.Expansion.{expansion_fits, digits_same}
use Rattle.fractions.proofs.Order.{smallest_recovered}
use Rattle.records.specs.Block.{meters}
use Rattle.registers.specs.declared.Register.{Register}
use Rattle.registers.specs.Registers.{Valid, iter_of, out_to, num_of}
use Rattle.registers.specs.Answers.{Loads, ReadsBack, pair}
use Rattle.registers.proofs.States.{emits, iter_add, out_add}
use Rattle.registers.proofs.Answers.{load_accepted, loaded_valid, read_back_emits}
use Rattle.registers.proofs.Validity.{valid_iter}
use Rattle.places.specs.Places.{is_store, fresh, burst}
use Rattle.by_meter.specs.ByMeter.{LearnsMeter, answer, damaged, unknown, none}
use Rattle.store.specs.Runs.{Runs, brought_by}
use Rattle.places.proofs.Decode.{fresh-store}
use Rattle.store.proofs.Meters.{runs_kept, runs_fresh}
use Rattle.whitening.specs.Whitening.{white_of, Whitens, whitened}
use Rattle.whitening.proofs.Laws.{whitens_unique, white_length, white_twice}

abbrev pub emitted_bits : ℕ → Register → List ℕ
emitted_bits n g = digits 2 n (out_to n g)

pub record Trained (g : Register) (p : ℤ) (q b n meter : ℕ) (blocks : List (List ℕ)) (t : List ℕ) : Type 0 where
  pub read : ReadsBack g 0 p q
  pub b_low : 1 ≤ b
  pub b_high : b ≤ 30
  pub p_below : nat_abs p < 2 ^ b
  pub q_below : q < 2 ^ b
  pub enough : 2 * b + 1 ≤ n
  pub most : n ≤ 4096
  pub meter_low : 0 < meter
  pub meter_high : meter ≤ meters
  pub runs : Runs fresh blocks t
  pub bits : brought_by meter blocks ≡ emitted_bits n g

-- learning answered number, p' and q', and loading that pair answered m and k
pub record Recovered (g : Register) (p : ℤ) (q number : ℕ) (p' : ℤ) (q' m : ℕ) (k : Register) : Type 0 where
  pub learned : number ≡ 0
  pub p_is : p' ≡ p
  pub q_is : q' ≡ q
  pub loaded : m ≡ 0
  pub emits : (n : ℕ) → out_to n k ≡ out_to n g
  -- xs whitened with g after i steps, then with the loaded register after i steps: it is not refused, and xs come back
  pub gives_back : (i : ℕ) (xs ys : List ℕ) (h : Register) → Whitens (iter_of i g) xs 0 h ys
      → (a : ℕ) (h' : Register) (zs : List ℕ) → Whitens (iter_of i k) ys a h' zs → (a ≡ 0) × (zs ≡ xs)

-- what reading back says
record Read (g : Register) (p : ℤ) (q : ℕ) : Type 0 where
  valid : Valid g
  inside : Inside p q
  lowest : Lowest (num_of g) g.q p q

read_parts : (g : Register) (p : ℤ) (q : ℕ) → ReadsBack g 0 p q → Read g p q
read_parts g p q (pair v l i) = record { valid = v; inside = i; lowest = l }

-- a register emits the expansion of what it reads back
read_digits : (g : Register) (p : ℤ) (q n : ℕ) → ReadsBack g 0 p q → out_to n g ≡ digits_to q n p
read_digits g p q n r =
    let a = read_parts g p q r in
    emits n g a.valid ∙ digits_same n (num_of g) g.q p q a.valid.odd a.inside.odd a.lowest.same

module _ (g : Register) (p : ℤ) (q b n meter : ℕ) (blocks : List (List ℕ)) (t : List ℕ) (h : Trained g p q b n meter blocks t) where
  place_bits : burst t meter ≡ emitted_bits n g
  place_bits = runs_fresh meter h.meter_low h.meter_high blocks t h.runs ∙ h.bits

  place_count : length (burst t meter) ≡ n
  place_count = ap length place_bits ∙ length_digits 2 n (out_to n g)

  place_value : num 2 (burst t meter) ≡ digits_to q n p
  place_value =
      ap (num 2) place_bits ∙ num_low n (out_to n g) ∙ ap (λ (x : ℕ). x % 2 ^ n) (read_digits g p q n h.read) ∙ mod-eq_of_lt (digits_lt q n p)

  place_fits : Fits (length (burst t meter)) (num 2 (burst t meter)) p q
  place_fits = subst₂ (λ (m A : ℕ). Fits m A p q) (sym place_count) (sym place_value) (expansion_fits q n p (read_parts g p q h.read).inside.odd)

  learns : (number : ℕ) (p' : ℤ) (q' : ℕ) → LearnsMeter t meter number p' q' → (number ≡ 0) × ((p' ≡ p) × (q' ≡ q))
  learns number p' q' (answer a f) =
      let r = read_parts g p q h.read in
      (refl, smallest_recovered (length (burst t meter)) (num 2 (burst t meter)) b p' q' p q f r.inside place_fits r.lowest.lowest h.p_below h.q_below (omega (arith, place_count, h.enough)))
  learns number p' q' (damaged d) = absurd (not_both (is_store t) (runs_kept fresh blocks t fresh-store h.runs) d)
  learns number p' q' (unknown d (inl e)) = absurd (omega (arith, h.meter_low))
  learns number p' q' (unknown d (inr e)) = absurd (omega (arith, h.meter_high))
  learns number p' q' (none a f) = absurd (f p q (read_parts g p q h.read).inside place_fits)

-- ---- for ever
module _ (g k : Register) (p : ℤ) (q : ℕ) (r : ReadsBack g 0 p q) (l : Loads p q 0 k) where
  -- after any number of steps the two emit the same bits
  same_after : (i m : ℕ) → out_to m (iter_of i k) ≡ out_to m (iter_of i g)
  same_after i m =
      eq_of_mul-eq-mul_left (2 ^ i) (pow_pos i) (out_to m (iter_of i k)) (out_to m (iter_of i g))
      (omega (arith, out_add i m k, out_add i m g, read_back_emits (i + m) g k p q r l, read_back_emits i g k p q r l))

  same_white : (i : ℕ) (xs : List ℕ) → white_of (iter_of i k) xs ≡ white_of (iter_of i g) xs
  unfolding white_of
  same_white i [] = refl
  same_white i (x ∷ xs) =
      ap₂ (λ (y : ℕ) (ys : List ℕ). bit_xor x y ∷ ys) (same_after i 8)
      (ap (λ (h : Register). white_of h xs) (sym (iter_add i 8 k)) ∙ same_white (i + 8) xs ∙ ap (λ (h : Register). white_of h xs) (iter_add i 8 g))

  back : (i : ℕ) (xs ys : List ℕ) (h : Register) → Whitens (iter_of i g) xs 0 h ys
      → (a : ℕ) (h' : Register) (zs : List ℕ) → Whitens (iter_of i k) ys a h' zs → (a ≡ 0) × (zs ≡ xs)
  back i xs ys h (whitened v n) a h' zs w =
      let y = white_of (iter_of i g) xs in
      let u = whitens_unique (iter_of i k) y a 0 h' _ zs (white_of (iter_of i k) y) w (whitened (valid_iter i k (loaded_valid p q k l)) (omega (arith, white_length (iter_of i g) xs))) in
      (u.0, u.2 ∙ same_white i y ∙ white_twice (iter_of i g) xs)

pub whole_way : (g : Register) (p : ℤ) (q b n meter : ℕ) (blocks : List (List ℕ)) (t : List ℕ) → Trained g p q b n meter blocks t
    → (number : ℕ) (p' : ℤ) (q' : ℕ) → LearnsMeter t meter number p' q' → (m : ℕ) (k : Register) → Loads p' q' m k → Recovered g p q number p' q' m k
whole_way g p q b n meter blocks t h number p' q' a m k l =
    let c = learns g p q b n meter blocks t h number p' q' a in
    let l' : Loads p q m k = subst₂ (λ (x : ℤ) (y : ℕ). Loads x y m k) c.1.0 c.1.1 l in
    let e = load_accepted p q m k (read_parts g p q h.read).inside l' in
    let d : Loads p q 0 k = subst (λ (x : ℕ). Loads p q x k) e l' in
    record {
      learned = c.0;
      p_is = c.1.0;
      q_is = c.1.1;
      loaded = e;
      emits = λ n. read_back_emits n g k p q h.read d;
      gives_back = back g k p q h.read d;
    }
