-- What the line needs of an answer: a record's count and part are short. And that a question has one line.
--
--   found_fits      a record's count and its part
--   tells_malformed, tells_refused   a refusal is told by its number and its place, or by its number alone
--   tells_unique    a question has one line: two results that meet the contract of `line` are equal
--   tells_exists    .. and always one
--   line_unique     where it is put at the start of bytes, every byte and its length are determined
use Prim.Native.Nat.{ℕ, ◌≤◌}
use mathlib.Core.Path.{◌≡◌, refl, sym, ap, ◌∙◌, subst}
use mathlib.Core.Logic.{◌⊎◌, ⊎_elim}
use mathlib.Core.List.{List}
use lib.ListN.{length}
use Rattle.records.specs.declared.Refusal as records
use Rattle.records.specs.Block.{record_bits, bytes_for, number_of, place_of}
use Rattle.antennas.specs.declared.Seen.{Seen}
use Rattle.std.specs.Prelude.{Ok, Err}
use Rattle.antennas.specs.declared.Refusal.TheVariants as Reasons
use Rattle.antennas.specs.declared.Refusal.{Refusal}
use Rattle.antennas.specs.Antennas.{About, refusal_number, read_count, Read, part_of, Part}
use Rattle.text.specs.Text.{Writes}
use Rattle.text.proofs.Writing.{writes_unique}
use Rattle.antennas.proofs.Unique.{read_about_unique, part_unique, read_exists}
use Rattle.antennas.proofs.Laws.{answers_agree, read_within}
use Rattle.phrases.specs.Phrases.{refused_text, placed_text}
use Rattle.reading.specs.Line.{line_of, Tells, told}

module _ {first second : List ℕ} {meter ordinal : ℕ} {r : About} (h : Read first second meter ordinal r) where
  pub found_fits : {x : Seen} {bytes : List ℕ} → Part first second meter ordinal bytes → r ≡ Ok x → (x.count ≤ record_bits) × (length bytes ≡ bytes_for x.count)
  found_fits {x} {bytes} p q =
      let e : read_count r ≡ x.count = ap read_count q in
      (subst (λ (n : ℕ). n ≤ record_bits) e (read_within first second meter ordinal r h).count_few, (answers_agree first second meter ordinal r bytes h p).as_many ∙ ap bytes_for e)

told_by : {r : About} {e d : Refusal} (part : List ℕ) → r ≡ Err e → e ≡ d → line_of r part ≡ line_of (Err d) part
told_by part is b = ap (λ (x : About). line_of x part) (is ∙ ap (λ (x : Refusal). Err x) b)

module _ (first second : List ℕ) (meter ordinal : ℕ) where
  pub tells_malformed : {r : About} {e : Refusal} {part : List ℕ} {x : records.Refusal} → Read first second meter ordinal r → Part first second meter ordinal part → r ≡ Err e → e ≡ Reasons.Malformed x
      → Tells first second meter ordinal (placed_text (number_of x) (place_of x))
  tells_malformed {part} h p is b = subst (Tells first second meter ordinal) (told_by part is b) (told h p)

  -- a refusal without a place is told by its number
  pub tells_refused : {r : About} {e : Refusal} {part : List ℕ} {n : ℕ} → Read first second meter ordinal r → Part first second meter ordinal part → r ≡ Err e
      → (e ≡ Reasons.BadMeter) ⊎ (e ≡ Reasons.NoRecord) → n ≡ refusal_number e → Tells first second meter ordinal (refused_text n)
  tells_refused {part} {n} h p is c e = subst (Tells first second meter ordinal) (⊎_elim (λ b. told_by part is b ∙ ap refused_text (sym (e ∙ ap refusal_number b))) (λ b. told_by part is b ∙ ap refused_text (sym (e ∙ ap refusal_number b))) c) (told h p)

  pub tells_unique : {t t' : List ℕ} → Tells first second meter ordinal t → Tells first second meter ordinal t' → t ≡ t'
  tells_unique (told {about} {part} h p) (told {about = about'} {part = part'} h' p') =
      let a = read_about_unique first second meter ordinal about about' h h' in
      let b = part_unique first second meter ordinal part part' p p' in
      λ i. line_of (a i) (b i)

  pub tells_exists : (t : List ℕ) × Tells first second meter ordinal t
  tells_exists =
      let a = read_exists first second meter ordinal in
      (line_of a.0 (part_of first second a.0), told a.1 (record { about = a.0; read = a.1; bytes_are = refl }))

  pub line_unique : {old new new' : List ℕ} {r r' : ℕ} → Writes (Tells first second meter ordinal) old 0 new r → Writes (Tells first second meter ordinal) old 0 new' r'
      → (new ≡ new') × (r ≡ r')
  line_unique = writes_unique (λ t t' p q. tells_unique p q)
