-- Bytes that are put into a part of lent bytes.
--
--   put_part     what was put at the start of a part was put into the whole, where the part begins
--   put_agree    two results agree in every byte but those that were put
use Rattle.std.proofs.Common.{◌≡◌, ℕ, ◌+◌, ◌≤◌, List, ◌++◌, length, take, drop, sym, ap, ◌∙◌, arith, zero-add}
use Rattle.std.proofs.Math.Seq.{drop-drop, drop-append-add, length-take-le}
use Rattle.std.proofs.lemmas.Grind.{common_steps}
use Rattle.std.proofs.lemmas.List.{drop-append-le, take-append-drop}
use Rattle.std.proofs.lemmas.Slice.{take-put_mid_below}
use borrow.Rule.Slice.PartMut.{put_mid}
use Rattle.cases.specs.Cases.{Put}

-- the part is lent as `&mut old[at..at + k]`
pub put_part : {old part : List ℕ} {count : ℕ} (at k : ℕ) → at + k ≤ length old → Put (take k (drop at old)) 0 count part → Put old at count (put_mid at k old part)
put_part {old} {part} {count} at k h p =
    let rest = drop k (drop at old) in
    let same = rw zero-add at p.behind in
    let within : count ≤ length part = omega (arith, p.there, p.size) in
    record {
      there = grind (arith, common_steps, p.there);
      size = grind (arith, common_steps, p.size);
      before = take-put_mid_below at k old part at (omega arith) (omega arith);
      behind =
          ap (λ (n : ℕ). drop (n + count) (put_mid at k old part)) (sym (length-take-le at old (omega arith))) ∙ drop-append-add (take at old) (part ++ rest) count
          ∙ drop-append-le count part rest within ∙ ap (λ (l : List ℕ). l ++ rest) same ∙ sym (drop-append-le count (take k (drop at old)) rest (omega (arith, p.size)))
          ∙ ap (drop count) (take-append-drop k (drop at old)) ∙ drop-drop count at old;
    }

-- what a contract by `Put` leaves open is what was read, and nothing else
pub put_agree : {old new new' : List ℕ} {at count : ℕ} → Put old at count new → Put old at count new' → (take at new ≡ take at new') × (drop (at + count) new ≡ drop (at + count) new')
put_agree p p' = (p.before ∙ sym p'.before, p.behind ∙ sym p'.behind)
