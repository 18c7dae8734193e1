-- Lines one behind another, behind the header: where the writing stands before the line of a meter.
use mathlib.Core.Path.{◌≡◌, refl, ap, ◌∙◌, subst}
use mathlib.Core.List.{List, [], ◌++◌, append_assoc}
use Prim.Native.Nat.{ℕ, suc, ◌+◌, ◌*◌, ◌≤◌}
use native.Mathlib.Omega.{arith}
use lib.ListN.{length, length-append}
use Rattle.records.specs.Block.{meters}
use Rattle.listing.specs.Lines.{header_text, Lines, line_size}
use Rattle.list_text.specs.Prints.{UpTo, none, more}

pub record Lining (s : List ℕ) (meter : ℕ) (out : List ℕ) : Type 0 where
  pub done : ℕ
  pub next : meter ≡ suc done
  pub lines : List ℕ
  pub are : UpTo s done lines
  pub out_is : out ≡ header_text ++ lines
  pub short : length out ≤ 40 + line_size * done

pub lining_none : (s : List ℕ) → Lining s 1 header_text
lining_none s = record { done = 0; next = refl; lines = []; are = none; out_is = refl; short = omega arith }

pub lining_more : {s out line : List ℕ} {meter : ℕ} → Lining s meter out → Lines s meter line → length line ≤ line_size → Lining s (meter + 1) (out ++ line)
lining_more {s} {out} {line} h l f =
    record {
      done = suc h.done;
      next = omega (arith, h.next);
      lines = h.lines ++ line;
      are = more h.are (subst (λ (i : ℕ). Lines s i line) h.next l);
      out_is = ap (λ (x : List ℕ). x ++ line) h.out_is ∙ append_assoc header_text h.lines line;
      short = rw length-append (omega (arith, h.short));
    }

pub lining_done : {s out : List ℕ} {meter : ℕ} (h : Lining s meter out) → meter ≡ meters + 1 → UpTo s meters h.lines
lining_done {s} h e = subst (λ (k : ℕ). UpTo s k h.lines) (let d : h.done ≡ meters = omega (arith, h.next) in d) h.are
