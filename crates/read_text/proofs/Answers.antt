-- What is printed, and that there is one answer.
--
--   whole_unique   a question has one printed text
--   print_unique   any two results that meet the contract of `print` are equal, the answers and every byte of the text
--   print_exists   .. and there is one
use mathlib.Core.Path.{◌≡◌, refl, ap, subst}
use mathlib.Core.List.{List, [], ◌∷◌, ◌++◌}
use Prim.Native.Nat.{ℕ}
use native.Mathlib.Omega.{arith}
use Rattle.std.specs.Prelude.{Option, Some, None, Result, Ok, Err}
use Rattle.std.specs.Option.{ok_or}
use Rattle.text.specs.Numerals.{Says}
use Rattle.text.proofs.Parsing.{says_unique, says_exists}
use Rattle.phrases.specs.Phrases.{line_end}
use Rattle.reading.proofs.Answers.{tells_unique, tells_exists}
use Rattle.read_text.specs.declared.NoNumber.{NoNumber}
use Rattle.read_text.specs.declared.NoNumber.TheVariants as E
use Rattle.read_text.specs.Prints.{Whole, ended, Prints, line, no_meter, no_ordinal}

module _ (first second : List ℕ) (meter ordinal : ℕ) where
  pub whole_unique : {t t' : List ℕ} → Whole first second meter ordinal t → Whole first second meter ordinal t' → t ≡ t'
  whole_unique (ended d) (ended d') = ap (λ (x : List ℕ). x ++ (line_end ∷ [])) (tells_unique first second meter ordinal d d')

  whole_exists : (t : List ℕ) × Whole first second meter ordinal t
  whole_exists = let d = tells_exists first second meter ordinal in (d.0 ++ (line_end ∷ []), ended d.1)

-- ---- one answer
number_of : {s : List ℕ} {a b : ℕ} → Says s (Some a) → Says s (Some b) → a ≡ b
number_of {s} {a} {b} p q = let e : Some a ≡ Some b = says_unique p q in cc

not_both : {s : List ℕ} {a : ℕ} → Says s (Some a) → Says s None → ⊥
not_both {s} {a} p q = let e : Some a ≡ None = says_unique p q in let z : ◌≡◌ {A = ℕ} 0 1 = cc in omega arith

-- what `ok_or` makes of what the bytes say
module _ {s : List ℕ} {r : Result ℕ NoNumber} (e : NoNumber) where
  pub is_number : {n : ℕ} (x : Option ℕ) → Says s x → r ≡ ok_or x e → r ≡ Ok n → Says s (Some n)
  is_number {n} None h p q = absurd (let z : ◌≡◌ {A = ℕ} 0 1 = cc in omega arith)
  is_number {n} (Some k) h p q = subst (λ (i : ℕ). Says s (Some i)) (let z : k ≡ n = cc in z) h

  pub no_number : {d : NoNumber} (x : Option ℕ) → Says s x → r ≡ ok_or x e → r ≡ Err d → Says s None × (d ≡ e)
  no_number {d} None h p q = (h, cc)
  no_number {d} (Some k) h p q = absurd (let z : ◌≡◌ {A = ℕ} 0 1 = cc in omega arith)

module _ {m o first second : List ℕ} where
  pub print_unique : {x x' : Result (List ℕ) NoNumber} → Prints m o first second x → Prints m o first second x' → x ≡ x'
  print_unique (line {meter = a} {ordinal = b} p q w) (line {meter = a'} {ordinal = b'} {text = t'} p' q' w') =
      let v = subst (λ (i : ℕ). Whole first second i b' t') (number_of p' p) w' in
      ap Ok (whole_unique first second a b w (subst (λ (i : ℕ). Whole first second a i t') (number_of q' q) v))
  print_unique (line p q w) (no_meter n) = absurd (not_both p n)
  print_unique (line p q w) (no_ordinal p' n) = absurd (not_both q n)
  print_unique (no_meter n) (line p q w) = absurd (not_both p n)
  print_unique (no_meter n) (no_meter n') = refl
  print_unique (no_meter n) (no_ordinal p n') = absurd (not_both p n)
  print_unique (no_ordinal p n) (line p' q w) = absurd (not_both q n)
  print_unique (no_ordinal p n) (no_meter n') = absurd (not_both p n')
  print_unique (no_ordinal p n) (no_ordinal p' n') = refl

-- ---- and always one
pub print_exists : (m o first second : List ℕ) → (x : Result (List ℕ) NoNumber) × Prints m o first second x
print_exists m o first second = go (says_exists m).0 (says_exists o).0 (says_exists m).1 (says_exists o).1
  where
    go : (a b : Option ℕ) → Says m a → Says o b → (x : Result (List ℕ) NoNumber) × Prints m o first second x
    go None b p q = (Err E.Meter, no_meter p)
    go (Some a) None p q = (Err E.Ordinal, no_ordinal p q)
    go (Some a) (Some b) p q = let t = whole_exists first second a b in (Ok t.0, line p q t.1)
