-- Where the search stands in a block, and what one record does to it.
--
--   Seeking    what is found in the rest of the block, with so many still to pass, is what is sought in the whole
--   seek_hit, seek_pass, seek_skip   a record of that meter that is the one, one that is not yet, and one of another meter
--   seek_none, seek_end   no record is left
use Prim.Native.Nat.{ℕ, ◌-◌, ◌≤◌, ◌<◌}
use mathlib.Core.Path.{◌≡◌, sym, ap, ◌∙◌, subst}
use mathlib.Core.List.{List, [], ◌∷◌}
use native.Mathlib.Omega.{arith}
use lib.ListN.{length}
use borrow.Author.Tests.{eq-eqb, ne_eqb}
use Rattle.std.specs.Prelude.{Option, Some, None, Result, Ok, Err}
use Rattle.bits.specs.Bits.{num}
use Rattle.bits.proofs.Numbers.{length_digits}
use Rattle.records.specs.declared.Record.{Record}
use Rattle.records.specs.declared.Records.{Records}
use Rattle.records.specs.declared.Refusal as records
use Rattle.records.specs.Block.{bytes_for, payload, Entry, entry_of, Parsed, parse}
use Rattle.records.specs.Named.{named}
use Rattle.records.specs.Steps.{Steps}
use Rattle.records.proofs.Walk.{Walk, More, walk_start, walk_more, walk_refused, walk_ended}
use Rattle.records.proofs.Cond.{yes, no}
use Rattle.antennas.specs.declared.Antenna.{Antenna}
use Rattle.antennas.specs.declared.Refusal.TheVariants.{NoRecord}
use Rattle.antennas.specs.Antennas.{About, Nth, here, later, seen_of}
use Rattle.antennas.specs.Search.{Sought, sought, fewer}

pub record Seeking (antenna : Antenna) (s : List ℕ) (meter ordinal left : ℕ) (w : Records) : Type 0 where
  pub some : 0 < left
  pub rest : Parsed
  pub walk : Walk s w rest
  pub same : (r : About) → Sought antenna (named meter rest.records) left r → Sought antenna (named meter (parse s).records) ordinal r

one_more : (antenna : Antenna) (d : Entry) (es : List Entry) (left : ℕ) → 1 < left → (r : About) → Sought antenna es (left - 1) r → Sought antenna (d ∷ es) left r
one_more antenna d es left h r (sought {e} n) = sought (subst (λ (k : ℕ). Nth k (d ∷ es) e) (omega arith) (later n))
one_more antenna d es left h r (fewer n) = fewer (omega arith)

module _ {antenna : Antenna} {s : List ℕ} {meter ordinal : ℕ} where
  pub seek_start : {w : Records} → 0 < ordinal → w.block.now ≡ s → w.at ≡ 0 → Seeking antenna s meter ordinal ordinal w
  seek_start h b a = record { some = h; rest = parse s; walk = walk_start b a; same = λ r x. x }

  module _ {left : ℕ} {w t : Records} {x : Option (Result Record records.Refusal)} (k : Seeking antenna s meter ordinal left w) (go : Steps w x t) where
    seek_over : k.rest.records ≡ [] → Sought antenna (named meter (parse s).records) ordinal (Err NoRecord)
    unfolding named
    seek_over e = k.same (Err NoRecord) (subst (λ (l : List Entry). Sought antenna (named meter l) left (Err NoRecord)) (sym e) (fewer k.some))

    pub seek_none : {y : Result Record records.Refusal} {z : records.Refusal} → x ≡ Some y → y ≡ Err z → Sought antenna (named meter (parse s).records) ordinal (Err NoRecord)
    seek_none p q = seek_over (ap (λ (v : Parsed). v.records) (walk_refused k.walk go p q))

    pub seek_end : x ≡ None → Sought antenna (named meter (parse s).records) ordinal (Err NoRecord)
    seek_end p = seek_over (ap (λ (v : Parsed). v.records) (walk_ended k.walk go p))

    module _ {y : Result Record records.Refusal} {r : Record} (p : x ≡ Some y) (q : y ≡ Ok r) where
      found : More s w r t k.rest
      found = walk_more k.walk go p q

      -- this record is of that meter, or it is not
      taken : r.meter ≡ meter → named meter k.rest.records ≡ entry_of s w.at r ∷ named meter found.then.records
      unfolding named
      taken e = ap (named meter) found.records ∙ yes _ _ (eq-eqb _ _ e)

      passed : (r.meter ≡ meter → ⊥) → named meter k.rest.records ≡ named meter found.then.records
      unfolding named
      passed n = ap (named meter) found.records ∙ no _ _ (ne_eqb _ _ n)

      pub seek_length : r.start ≤ r.next
      seek_length = omega (arith, found.stands.ends)

      seen_is : record { count = r.count; antenna = antenna; start = r.start; length = r.next - r.start } ≡ seen_of antenna (entry_of s w.at r)
      seen_is =
          let n : r.count ≡ length (entry_of s w.at r).bits = sym (length_digits 2 r.count (num 256 (payload s r.start r.count))) in
          let l : r.next - r.start ≡ bytes_for (length (entry_of s w.at r).bits) = omega (arith, found.stands.ends, ap bytes_for n) in
          λ i. record { count = n i; antenna = antenna; start = r.start; length = l i }

      pub seek_hit : r.meter ≡ meter → left ≡ 1
          → Sought antenna (named meter (parse s).records) ordinal (Ok (record { count = r.count; antenna = antenna; start = r.start; length = r.next - r.start }))
      seek_hit e z =
          let n : Nth left (named meter k.rest.records) (entry_of s w.at r) =
          subst (λ (l : List Entry). Nth left l (entry_of s w.at r)) (sym (taken e)) (subst (λ (j : ℕ). Nth j (entry_of s w.at r ∷ named meter found.then.records) (entry_of s w.at r)) (sym z) here) in
          k.same _ (subst (λ (v : _). Sought antenna (named meter k.rest.records) left (Ok v)) (sym seen_is) (sought n))

      pub seek_pass : r.meter ≡ meter → (left ≡ 1 → ⊥) → Seeking antenna s meter ordinal (left - 1) t
      seek_pass e n = record {
        some = omega (arith, k.some);
        rest = found.then;
        walk = found.walk;
        same = λ v u. k.same v (subst (λ (l : List Entry). Sought antenna l left v) (sym (taken e)) (one_more antenna _ _ left (omega (arith, k.some)) v u));
      }

      pub seek_skip : (r.meter ≡ meter → ⊥) → Seeking antenna s meter ordinal left t
      seek_skip n = record {
        some = k.some;
        rest = found.then;
        walk = found.walk;
        same = λ v u. k.same v (subst (λ (l : List Entry). Sought antenna l left v) (sym (passed n)) u);
      }
