-- A walk over a block, record by record: what is left is known from here on.
--
--   Walk s w rest    the iterator w goes over the block s, and what is left of s parses to `rest`
--   walk_start       an iterator over all records has all of the block left
--   walk_more, More  after a record: it stands in the block, it is the first of what was left, and what is left then
--   walk_refused, walk_ended   after a refusal, or nothing: there was no record left, and that was the form
--   Left P s w       the walk stands where P holds of what is left
--   Each P, each_of  what holds of a record that stands in the block holds of each of its records
--   each_record      each is a list of bits for a meter from 1 to 32
use Prim.Native.Nat.{ℕ, zero, suc, ◌+◌, ◌≤◌, ◌<◌}
use mathlib.Core.Path.{◌≡◌, refl, sym, ap, ◌∙◌, subst}
use mathlib.Core.List.{List, [], ◌∷◌}
use native.Mathlib.Omega.{arith}
use lib.ListN.{length}
use Rattle.std.specs.Prelude.{Option, Some, None, Result, Ok, Err}
use Rattle.records.specs.declared.Record.{Record}
use Rattle.records.specs.declared.Records.{Records}
use Rattle.records.specs.declared.Refusal.{Refusal}
use Rattle.records.specs.Block.{meters, payload, Head, head_at, Entry, entry_of, Parsed, on_head, parse_from, parse}
use Rattle.records.specs.Steps.{Moves, Steps}
use Rattle.bits.specs.Bits.{num, Below}
use Rattle.bits.proofs.Numbers.{digits-below}
use Rattle.records.proofs.Standing.{Stands, found_stands}

pub record Walk (s : List ℕ) (w : Records) (rest : Parsed) : Type 0 where
  on : w.block.now ≡ s
  within : w.at ≤ length s
  fuel : ℕ
  enough : length s < w.at + fuel
  same : parse_from fuel s w.at ≡ rest

pub record More (s : List ℕ) (w : Records) (r : Record) (t : Records) (rest : Parsed) : Type 0 where
  pub stands : Stands s w.at r
  pub then : Parsed
  pub walk : Walk s t then
  pub records : rest.records ≡ entry_of s w.at r ∷ then.records
  pub form : rest.form ≡ then.form

pub walk_start : {s : List ℕ} {w : Records} → w.block.now ≡ s → w.at ≡ 0 → Walk s w (parse s)
unfolding parse
walk_start {s} {w} b a = record { on = b; within = omega arith; fuel = length s + 1; enough = omega arith; same = ap (parse_from (length s + 1) s) a }

-- one turn of the parser, by what stands at the position
turn : (f : ℕ) (s : List ℕ) (at : ℕ) (h : Head) {rest : Parsed} → length s < at + f → parse_from f s at ≡ rest → at ≤ length s → head_at s at ≡ h
    → (g : ℕ) × (f ≡ suc g) × (rest ≡ on_head h s at (parse_from g s))
unfolding parse_from
turn zero s at h e p l k = absurd (omega arith)
turn (suc f) s at h e p l k = (f, refl, sym p ∙ ap (λ (x : Head). on_head x s at (parse_from f s)) k)

-- what the iterator gives stands in the block
given : {s : List ℕ} {w t : Records} {x : Option (Result Record Refusal)} (y : Option (Result Record Refusal)) → w.block.now ≡ s → Steps w x t → x ≡ y → (t.block.now ≡ s) × Moves s w.at y t.at
given {s} {w} {t} y on go e = (go.block ∙ on, subst (λ (b : List ℕ). Moves b w.at y t.at) on (subst (λ (z : Option (Result Record Refusal)). Moves w.block.now w.at z t.at) e go.moves))

module _ {s : List ℕ} {w t : Records} {rest : Parsed} {x : Option (Result Record Refusal)} (k : Walk s w rest) (go : Steps w x t) where
  pub walk_more : {y : Result Record Refusal} {r : Record} → x ≡ Some y → y ≡ Ok r → More s w r t rest
  walk_more {y} {r} e f =
      let m = given (Some (Ok r)) k.on go (e ∙ ap (λ (z : Result Record Refusal). Some z) f) in
      let i = found_stands s w.at r m.1.0 in
      let n = turn k.fuel s w.at (Ok (Some r)) k.enough k.same k.within m.1.0 in
      record {
        stands = i;
        then = parse_from n.0 s r.next;
        walk = record { on = m.0; within = omega (arith, i.last, m.1.1); fuel = n.0; enough = omega (arith, k.enough, n.1, m.1.1, i.starts, i.ends); same = ap (parse_from n.0 s) m.1.1 };
        records = ap (λ (p : Parsed). p.records) n.2;
        form = ap (λ (p : Parsed). p.form) n.2;
      }

  pub walk_refused : {y : Result Record Refusal} {z : Refusal} → x ≡ Some y → y ≡ Err z → rest ≡ record { records = []; form = Err z }
  walk_refused {y} {z} e f =
      (turn k.fuel s w.at (Err z) k.enough k.same k.within (given (Some (Err z)) k.on go (e ∙ ap (λ (q : Result Record Refusal). Some q) f)).1.0).2

  pub walk_ended : x ≡ None → rest ≡ record { records = []; form = Ok tt }
  walk_ended e = (turn k.fuel s w.at (Ok None) k.enough k.same k.within (given None k.on go e).1.0).2

pub record Left (P : Parsed → Type 0) (s : List ℕ) (w : Records) : Type 0 where
  pub rest : Parsed
  pub walk : Walk s w rest
  pub holds : P rest

-- what holds of a record that stands in the block holds of each of the block's records
pub data Each (P : Entry → Type 0) : List Entry → Type 0 where
  none : Each P []
  one : {e : Entry} {es : List Entry} → P e → Each P es → Each P (e ∷ es)

module _ (s : List ℕ) (P : Entry → Type 0) (holds : (at : ℕ) (r : Record) → Stands s at r → P (entry_of s at r)) where
  each_step : (at : ℕ) (go : ℕ → Parsed) → ((n : ℕ) → Each P (go n).records) → (h : Head) → head_at s at ≡ h → Each P (on_head h s at go).records
  each_step at go k (Ok (Some r)) e = one (holds at r (found_stands s at r e)) (k r.next)
  each_step at go k (Ok None) e = none
  each_step at go k (Err x) e = none

  each_from : (f at : ℕ) → Each P (parse_from f s at).records
  unfolding parse_from
  each_from zero at = none
  each_from (suc f) at = each_step at (parse_from f s) (λ n. each_from f n) (head_at s at) refl

  pub each_of : Each P (parse s).records
  unfolding parse
  each_of = each_from (length s + 1) 0

-- every record of a block is a list of bits for a meter from 1 to 32
pub record ForMeter (e : Entry) : Type 0 where
  pub low : 0 < e.meter
  pub high : e.meter ≤ meters
  pub bits : Below 2 e.bits

pub each_record : (s : List ℕ) → Each ForMeter (parse s).records
each_record s = each_of s ForMeter (λ at r i. record {
  low = i.meter_low;
  high = i.meter_high;
  bits = digits-below 2 r.count (num 256 (payload s r.start r.count)) (omega arith);
})
