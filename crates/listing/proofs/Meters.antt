-- What learning answers for a meter decides which line it has.
--
--   answer_asked, answer_inside   what an answer of learning says of its meter's place, and of its fraction
--   line_empty .. line_none               the line, by the answer
use mathlib.Core.Path.{◌≡◌, sym, subst}
use mathlib.Core.Logic.{inl, inr}
use mathlib.Core.List.{List, [], ◌∷◌, ◌++◌, append_assoc}
use Prim.Native.Nat.{ℕ}
use native.Mathlib.Omega.{arith}
use lib.IntN.{ℤ, pos}
use lib.ListN.{length}
use Rattle.integers.proofs.Tests.{not_both}
use Rattle.fractions.specs.Pairs.{Inside}
use Rattle.fractions.proofs.Order.{none_some}
use Rattle.places.specs.Places.{is_store, burst, HasPlace}
use Rattle.by_meter.specs.ByMeter.{LearnsMeter, meter_number, meter_p, meter_q}
use Rattle.by_meter.specs.ByMeter as M
use Rattle.std.specs.Prelude.{Result, Err}
use Rattle.fractions.specs.declared.Fraction.{Fraction}
use Rattle.by_meter.specs.declared.Refusal.{Refusal}
use Rattle.by_meter.specs.declared.Refusal.TheVariants as Refusals
use Rattle.text.specs.Text.{decimal_of}
use Rattle.phrases.specs.Phrases.{line_end, spaced}
use Rattle.listing.specs.Lines.{none_word, HasBits, Lines, silent, fraction, none}
use Rattle.listing.specs.Pieces.{Rest, rest}

abbrev learns : List ℕ → ℕ → Result Fraction Refusal → Type 0
learns s m a = LearnsMeter s m (meter_number a) (meter_p a) (meter_q a)

-- ---- a meter with bits, or not

pub answer_asked : {s : List ℕ} {m : ℕ} {p : ℤ} {q : ℕ} → LearnsMeter s m 0 p q → HasPlace s m
answer_asked (M.answer a f) = a

pub answer_inside : {s : List ℕ} {m : ℕ} {p : ℤ} {q : ℕ} → LearnsMeter s m 0 p q → Inside p q
answer_inside (M.answer a f) = f.inside

damaged_not : {s : List ℕ} {m : ℕ} → LearnsMeter s m 10 (pos 0) 0 → HasBits s m → ⊥
damaged_not {s} (M.damaged d) b = not_both (is_store s) b.asked.store d

unknown_not : {s : List ℕ} {m : ℕ} → LearnsMeter s m 14 (pos 0) 0 → HasBits s m → ⊥
unknown_not (M.unknown e (inl z)) b = omega (arith, b.asked.low)
unknown_not (M.unknown e (inr l)) b = omega (arith, b.asked.high)

-- ---- the lines

bits_of : {s : List ℕ} {m n : ℕ} → HasPlace s m → n ≡ length (burst s m) → (n ≡ 0 → ⊥) → HasBits s m
bits_of a e z = record { asked = a; some = omega arith }

none_bits : {s : List ℕ} {m : ℕ} → LearnsMeter s m 3 (pos 0) 0 → HasBits s m
none_bits {s} {m} (M.none a f) = record { asked = a; some = none_some (length (burst s m)) _ f }

fraction_text : {s : List ℕ} {m n : ℕ} {p : ℤ} {q : ℕ} {t : List ℕ} → HasBits s m → n ≡ length (burst s m) → LearnsMeter s m 0 p q → Rest p q t
    → Lines s m (spaced (decimal_of m) ++ spaced (decimal_of n) ++ t)
fraction_text {s} {m} b e h (rest l two) = rw e (subst (Lines s m) (sym (simp append_assoc)) (fraction b h l two))

none_text : {s : List ℕ} {m n : ℕ} → HasBits s m → n ≡ length (burst s m) → LearnsMeter s m 3 (pos 0) 0
    → Lines s m (spaced (decimal_of m) ++ spaced (decimal_of n) ++ (none_word ++ (line_end ∷ [])))
none_text {s} {m} b e h = rw e (subst (Lines s m) (sym (simp append_assoc)) (none b h))

module _ {s : List ℕ} {m : ℕ} where
  pub line_damaged : {a : Result Fraction Refusal} → learns s m a → a ≡ Err Refusals.NotAStore → Lines s m []
  line_damaged h e = silent (damaged_not (subst (learns s m) e h))

  pub line_unknown : {a : Result Fraction Refusal} → learns s m a → a ≡ Err Refusals.BadMeter → Lines s m []
  line_unknown h e = silent (unknown_not (subst (learns s m) e h))

  module _ {n : ℕ} (e : n ≡ length (burst s m)) where
    pub line_empty : n ≡ 0 → Lines s m []
    line_empty z = silent (λ b. omega (arith, b.some))

    pub line_fraction : {p : ℤ} {q : ℕ} {t : List ℕ} → (n ≡ 0 → ⊥) → LearnsMeter s m 0 p q → Rest p q t → Lines s m (spaced (decimal_of m) ++ spaced (decimal_of n) ++ t)
    line_fraction z h r = fraction_text (bits_of (answer_asked h) e z) e h r

    pub line_none : LearnsMeter s m 3 (pos 0) 0 → Lines s m (spaced (decimal_of m) ++ spaced (decimal_of n) ++ (none_word ++ (line_end ∷ [])))
    line_none h = none_text (none_bits h) e h
