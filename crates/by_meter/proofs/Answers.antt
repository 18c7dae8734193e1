-- Learning by meter number: the place's bytes are its burst, so what learning answers for them it answers for the burst.
--
--   meter_answer, meter_none   an answer, or a refusal, for the bytes of a place is one for the meter; passed_on: so is what learning answers
--   meter_unique               two answers that meet the contract have the same numbers; learn_meter_unique: so they are the same answer
--   meter_burst                the answer depends on the meter's burst alone
use Prim.Native.Nat.{ℕ, ◌+◌, ◌<◌, ◌≤◌}
use mathlib.Core.Path.{◌≡◌, refl, sym, ap, ◌∙◌, subst, subst₂}
use mathlib.Core.Bool.{true}
use mathlib.Core.Logic.{◌⊎◌, inl, inr}
use mathlib.Core.List.{List}
use native.Mathlib.Omega.{arith}
use lib.IntN.{ℤ, pos}
use lib.ListN.{length}
use Rattle.std.proofs.Common.{cond, eqb}
use Rattle.std.specs.Prelude.{Result, Ok, Err, IsErrAnd}
use Rattle.std.specs.Result.{MatchResult}
use Rattle.fractions.specs.declared.Fraction.{Fraction}
use Rattle.integers.proofs.Tests.{not_both}
use Rattle.bits.specs.Bits.{num}
use Rattle.fractions.specs.Pairs.{Smallest, NoneFits}
use Rattle.fractions.proofs.Order.{smallest_unique}
use Rattle.records.specs.Block.{meters}
use Rattle.learning.specs.Learning as L
use Rattle.learning.specs.Learning.{Learns}
use Rattle.learning.specs.declared.Refusal as LR
use Rattle.learning.specs.declared.Refusal.TheVariants as LV
use Rattle.bits.specs.Bits.{Below}
use Rattle.places.specs.Places.{place_size, place_at, is_store, burst, HasPlace}
use Rattle.by_meter.specs.declared.Refusal.{Refusal}
use Rattle.by_meter.specs.declared.Refusal.TheVariants.{NotAStore, BadMeter, NoneInside}
use Rattle.by_meter.specs.ByMeter.{refusal_number, meter_number, meter_p, meter_q, LearnsMeter, answer, damaged, unknown, none}
use Rattle.places.proofs.Bursts.{place_in, Holds}

module _ (s : List ℕ) (meter : ℕ) (bytes : List ℕ) (n : ℕ) (a : HasPlace s meter) (h : Holds bytes n (burst s meter)) where
  pub meter_answer : {p : ℤ} {q : ℕ} → Learns bytes n 0 p q → LearnsMeter s meter 0 p q
  meter_answer {p} {q} (L.answer e f) = answer a (subst₂ (λ (k A : ℕ). Smallest k A p q) h.count_is h.value_is f)

  pub meter_none : Learns bytes n 3 (pos 0) 0 → LearnsMeter s meter 3 (pos 0) 0
  meter_none (L.none e f) = none a (subst₂ NoneFits h.count_is h.value_is f)

  -- refusals 1 and 2 do not come: a place has at most 4,096 bits, and the bytes for them
  no_answer : (e : LR.Refusal) → Learns bytes n (L.refusal_number e) (pos 0) 0 → LearnsMeter s meter 3 (pos 0) 0
  no_answer LV.CountTooLarge (L.too_large l) = absurd (omega (arith, h.most))
  no_answer LV.TooFewBytes (L.too_few l k) = absurd (omega (arith, h.there))
  no_answer LV.NoneInside l = meter_none l

  -- so whatever learning answers, with refusal 3 for each of its own, is the answer for the meter
  pub passed_on : (r : Result Fraction LR.Refusal) (x : Result Fraction Refusal) {Q : LR.Refusal → Refusal → Type 0} → Learns bytes n (L.number_of r) (L.p_of r) (L.q_of r)
      → MatchResult r (λ f. x ≡ Ok f) (λ e. IsErrAnd x (Q e)) → ((e : LR.Refusal) (d : Refusal) → Q e d → d ≡ NoneInside) → LearnsMeter s meter (meter_number x) (meter_p x) (meter_q x)
  passed_on (Ok f) x l e k = subst (λ (x : Result Fraction Refusal). LearnsMeter s meter (meter_number x) (meter_p x) (meter_q x)) (sym e) (meter_answer l)
  passed_on (Err e) (Ok y) l m k = absurd m
  passed_on (Err e) (Err d) l m k = subst (λ (d : Refusal). LearnsMeter s meter (refusal_number d) (pos 0) 0) (sym (k e d m)) (no_answer e l)

pub place_inside : {s : List ℕ} {meter at : ℕ} → Below 256 s → HasPlace s meter → at ≡ place_at meter → at + place_size ≤ length s
place_inside {s} {meter} l a e = subst (λ (at : ℕ). at + place_size ≤ length s) (sym e) (place_in s meter l a.store a.low a.high)

outside : (s : List ℕ) (meter : ℕ) → HasPlace s meter → (meter ≡ 0) ⊎ (meters < meter) → ⊥
outside s meter a (inl e) = omega (arith, a.low)
outside s meter a (inr l) = omega (arith, a.high)

pub meter_unique : (s : List ℕ) (meter m n : ℕ) (p p' : ℤ) (q q' : ℕ) → LearnsMeter s meter m p q → LearnsMeter s meter n p' q' → (m ≡ n) × ((p ≡ p') × (q ≡ q'))
meter_unique s meter m n p p' q q' (answer a f) (answer b g) = (refl, smallest_unique _ _ p q p' q' f g)
meter_unique s meter m n p p' q q' (answer a f) (damaged d) = absurd (not_both (is_store s) a.store d)
meter_unique s meter m n p p' q q' (answer a f) (unknown d e) = absurd (outside s meter a e)
meter_unique s meter m n p p' q q' (answer a f) (none b g) = absurd (g p q f.inside f.fits)
meter_unique s meter m n p p' q q' (damaged d) (answer b g) = absurd (not_both (is_store s) b.store d)
meter_unique s meter m n p p' q q' (damaged d) (damaged e) = (refl, (refl, refl))
meter_unique s meter m n p p' q q' (damaged d) (unknown e f) = absurd (not_both (is_store s) e d)
meter_unique s meter m n p p' q q' (damaged d) (none b g) = absurd (not_both (is_store s) b.store d)
meter_unique s meter m n p p' q q' (unknown d e) (answer b g) = absurd (outside s meter b e)
meter_unique s meter m n p p' q q' (unknown d e) (damaged f) = absurd (not_both (is_store s) d f)
meter_unique s meter m n p p' q q' (unknown d e) (unknown f g) = (refl, (refl, refl))
meter_unique s meter m n p p' q q' (unknown d e) (none b g) = absurd (outside s meter b e)
meter_unique s meter m n p p' q q' (none a f) (answer b g) = absurd (f p' q' g.inside g.fits)
meter_unique s meter m n p p' q q' (none a f) (damaged d) = absurd (not_both (is_store s) a.store d)
meter_unique s meter m n p p' q q' (none a f) (unknown d e) = absurd (outside s meter a e)
meter_unique s meter m n p p' q q' (none a f) (none b g) = (refl, (refl, refl))

refusal_of : ℕ → Refusal
refusal_of n = cond (eqb n 10) NotAStore (cond (eqb n 14) BadMeter NoneInside)

refusal_is : (e : Refusal) → e ≡ refusal_of (refusal_number e)
unfolding refusal_of
refusal_is NotAStore = refl
refusal_is BadMeter = refl
refusal_is NoneInside = refl

no_zero : (e : Refusal) → 0 ≡ refusal_number e → ⊥
no_zero NotAStore h = omega arith
no_zero BadMeter h = omega arith
no_zero NoneInside h = omega arith

same_answer : (x y : Result Fraction Refusal) → meter_number x ≡ meter_number y → meter_p x ≡ meter_p y → meter_q x ≡ meter_q y → x ≡ y
same_answer (Ok x) (Ok y) e ep eq = ap Ok (λ i. record { p = ep i; q = eq i })
same_answer (Ok x) (Err d) e ep eq = absurd (no_zero d e)
same_answer (Err d) (Ok y) e ep eq = absurd (no_zero d (sym e))
same_answer (Err c) (Err d) e ep eq = ap Err (refusal_is c ∙ ap refusal_of e ∙ sym (refusal_is d))

pub learn_meter_unique : (s : List ℕ) (meter : ℕ) (x y : Result Fraction Refusal) → LearnsMeter s meter (meter_number x) (meter_p x) (meter_q x) → LearnsMeter s meter (meter_number y) (meter_p y) (meter_q y) → x ≡ y
learn_meter_unique s meter x y h k =
    let u = meter_unique s meter (meter_number x) (meter_number y) (meter_p x) (meter_p y) (meter_q x) (meter_q y) h k in
    same_answer x y u.0 u.1.0 u.1.1

pub meter_burst : (s t : List ℕ) (meter n : ℕ) (p : ℤ) (q : ℕ) → is_store s ≡ true → is_store t ≡ true → burst s meter ≡ burst t meter → LearnsMeter s meter n p q → LearnsMeter t meter n p q
meter_burst s t meter n p q hs ht e (answer a f) = answer (record { store = ht; low = a.low; high = a.high }) (subst (λ (b : List ℕ). Smallest (length b) (num 2 b) p q) e f)
meter_burst s t meter n p q hs ht e (damaged d) = absurd (not_both (is_store s) hs d)
meter_burst s t meter n p q hs ht e (unknown d f) = unknown ht f
meter_burst s t meter n p q hs ht e (none a f) = none (record { store = ht; low = a.low; high = a.high }) (subst (λ (b : List ℕ). NoneFits (length b) (num 2 b)) e f)
