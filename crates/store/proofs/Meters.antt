-- What taking a block does to one meter's place, m from 1 to 32.
--
--   store_place       the bytes of a place are the encoding of its bits
--   take_bits         after a block was taken: the bits before, then those of the records that name the meter, in block order
--   take_count        so the count grows by exactly the counts of those records
--   take_untouched    a block without the meter leaves every byte of its place as it was
--   take_same         blocks that bring the meter the same bits leave its place the same
--   take_own          A RECORD'S COUNT NEVER BRINGS IN A BIT FROM OUTSIDE THAT RECORD: the place is known from the store and the bytes of
--                     the meter's own records; two blocks in which those are the same leave it the same, whatever else they hold
--   take_surroundings so what stands before and behind a meter's records makes no difference
--   runs_kept, runs_below, runs_bits, runs_count   the same over any sequence of blocks that were taken
--   runs_fresh        from a fresh store a place has the bits of the records that name its meter, in the order they came, and nothing else
--   runs_same         so its bytes depend on those bits alone
use Prim.Native.Nat.{ℕ, ◌+◌, ◌-◌, ◌≤◌, ◌<◌}
use mathlib.Core.Path.{◌≡◌, sym, ap, ◌∙◌}
use mathlib.Core.Bool.{true}
use mathlib.Core.List.{List, [], ◌∷◌, ◌++◌, append_assoc, append-nil}
use native.Mathlib.Omega.{arith}
use lib.ListN.{length, get_or, length-append}
use Rattle.bits.specs.Bits.{Below}
use Rattle.records.specs.Block.{meters, parse, form_of}
use Rattle.records.specs.Named.{named, own_bytes, brought, counts}
use Rattle.records.proofs.Walk.{each_record}
use Rattle.records.proofs.Blocks.{form_parts, parse_append, bits_own}
use Rattle.records.proofs.Brought.{brought_join, brought_none, brought_count, counts_append}
use Rattle.std.specs.Prelude.{Ok}
use Rattle.places.specs.Places.{place_at, count_of, encode, is_store, bits_of, fresh, burst}
use Rattle.store.specs.Taking.{append_all, take_of}
use Rattle.store.specs.Runs.{place_bytes, Runs, none, then, brought_by, named_by}
use Rattle.places.proofs.Encode.{store_law, length-bits_from, place_of, burst_count}
use Rattle.places.proofs.Decode.{fresh_empty}
use Rattle.store.proofs.Kept.{by_meter}
use Rattle.store.proofs.After.{taken_parts, take_sound, take_lists, take_kept, take_below}

module _ (m : ℕ) (low : 0 < m) (high : m ≤ meters) where
  pub store_place : (s : List ℕ) → Below 256 s → is_store s ≡ true → place_bytes s m ≡ encode (burst s m)
  store_place s l e =
      ap (λ (x : List ℕ). place_bytes x m) (store_law s l e).same ∙ place_of (bits_of s) (m - 1) (omega (arith, length-bits_from meters s 0))

  module _ (s b : List ℕ) (k : (take_of s b).answer ≡ Ok tt) where
    lists_at : get_or (append_all (bits_of s) (parse b).records) (m - 1) [] ≡ burst s m ++ brought m (parse b).records
    lists_at = by_meter (bits_of s) (parse b).records m (each_record b) low (omega (arith, length-bits_from meters s 0))

    pub take_bits : burst (take_of s b).store m ≡ burst s m ++ brought m (parse b).records
    take_bits = ap (λ (l : List (List ℕ)). get_or l (m - 1) []) (take_lists s b k) ∙ lists_at

    pub take_bytes : place_bytes (take_of s b).store m ≡ encode (burst s m ++ brought m (parse b).records)
    take_bytes =
        let a = taken_parts s b k in
        ap (λ (x : List ℕ). place_bytes x m) a.after
        ∙ place_of (append_all (bits_of s) (parse b).records) (m - 1) (omega (arith, (take_sound s b a).0)) ∙ ap encode lists_at

    pub take_count : count_of (take_of s b).store (place_at m) ≡ count_of s (place_at m) + counts (named m (parse b).records)
    take_count =
        sym (burst_count m low high (take_of s b).store) ∙ ap length take_bits ∙ length-append (burst s m) (brought m (parse b).records)
        ∙ ap (λ (n : ℕ). n + length (brought m (parse b).records)) (burst_count m low high s) ∙ ap (λ (n : ℕ). count_of s (place_at m) + n) (brought_count m (parse b).records)

    pub take_untouched : Below 256 s → named m (parse b).records ≡ [] → place_bytes (take_of s b).store m ≡ place_bytes s m
    take_untouched l e =
        take_bytes ∙ ap (λ (x : List ℕ). encode (burst s m ++ x)) (brought_none m (parse b).records e) ∙ ap encode (append-nil (burst s m))
        ∙ sym (store_place s l (taken_parts s b k).store)

  module _ (s a b : List ℕ) (h : (take_of s a).answer ≡ Ok tt) (k : (take_of s b).answer ≡ Ok tt) where
    pub take_same : brought m (parse a).records ≡ brought m (parse b).records → place_bytes (take_of s a).store m ≡ place_bytes (take_of s b).store m
    take_same e = take_bytes s a h ∙ ap (λ (x : List ℕ). encode (burst s m ++ x)) e ∙ sym (take_bytes s b k)

    pub take_own : own_bytes a m ≡ own_bytes b m → place_bytes (take_of s a).store m ≡ place_bytes (take_of s b).store m
    take_own e = take_same (bits_own a b m (form_parts a (taken_parts s a h).form).1 (form_parts b (taken_parts s b k).form).1 e)

  -- u, u', v and v' do not name the meter
  pub take_surroundings : (s u r v u' v' : List ℕ)
      → form_of u ≡ Ok tt → form_of r ≡ Ok tt → form_of v ≡ Ok tt → form_of u' ≡ Ok tt → form_of v' ≡ Ok tt
      → named m (parse u).records ≡ [] → named m (parse v).records ≡ [] → named m (parse u').records ≡ [] → named m (parse v').records ≡ []
      → (take_of s (u ++ (r ++ v))).answer ≡ Ok tt → (take_of s (u' ++ (r ++ v'))).answer ≡ Ok tt
      → place_bytes (take_of s (u ++ (r ++ v))).store m ≡ place_bytes (take_of s (u' ++ (r ++ v'))).store m
  take_surroundings s u r v u' v' fu fr fv fu' fv' nu nv nu' nv' h k =
      take_same s (u ++ (r ++ v)) (u' ++ (r ++ v')) h k (only u r v fu fr fv nu nv ∙ sym (only u' r v' fu' fr fv' nu' nv'))
    where
      only : (u r v : List ℕ) → form_of u ≡ Ok tt → form_of r ≡ Ok tt → form_of v ≡ Ok tt → named m (parse u).records ≡ [] → named m (parse v).records ≡ []
          → brought m (parse (u ++ (r ++ v))).records ≡ brought m (parse r).records
      only u r v fu fr fv nu nv =
          let pu = (form_parts u fu).1 in
          let pr = (form_parts r fr).1 in
          let pv = (form_parts v fv).1 in
          brought_join m u (r ++ v) pu (ap (λ x. x.form) (parse_append r v pr pv))
          ∙ ap (λ (x : List ℕ). x ++ brought m (parse (r ++ v)).records) (brought_none m (parse u).records nu)
          ∙ brought_join m r v pr pv ∙ ap (λ (x : List ℕ). brought m (parse r).records ++ x) (brought_none m (parse v).records nv)
          ∙ append-nil (brought m (parse r).records)

-- ---- any sequence of blocks that were taken
pub runs_kept : (s : List ℕ) (bs : List (List ℕ)) (t : List ℕ) → is_store s ≡ true → Runs s bs t → is_store t ≡ true
runs_kept s [] t e none = e
runs_kept s (b ∷ bs) t e (then k r) = runs_kept (take_of s b).store bs t (take_kept s b e) r

pub runs_below : (s : List ℕ) (bs : List (List ℕ)) (t : List ℕ) → Below 256 s → Runs s bs t → Below 256 t
runs_below s [] t l none = l
runs_below s (b ∷ bs) t l (then k r) = runs_below (take_of s b).store bs t (take_below s b l) r

module _ (m : ℕ) (low : 0 < m) (high : m ≤ meters) where
  pub runs_bits : (s : List ℕ) (bs : List (List ℕ)) (t : List ℕ) → Runs s bs t → burst t m ≡ burst s m ++ brought_by m bs
  unfolding brought_by
  runs_bits s [] t none = sym (append-nil (burst s m))
  runs_bits s (b ∷ bs) t (then k r) =
      runs_bits (take_of s b).store bs t r ∙ ap (λ (x : List ℕ). x ++ brought_by m bs) (take_bits m low high s b k)
      ∙ append_assoc (burst s m) (brought m (parse b).records) (brought_by m bs)

  pub runs_count : (s : List ℕ) (bs : List (List ℕ)) (t : List ℕ) → Runs s bs t → count_of t (place_at m) ≡ count_of s (place_at m) + counts (named_by m bs)
  unfolding named_by counts
  runs_count s [] t none = omega arith
  runs_count s (b ∷ bs) t (then k r) =
      let p = runs_count (take_of s b).store bs t r in
      let q = take_count m low high s b k in
      let c = counts_append (named m (parse b).records) (named_by m bs) in
      omega arith

  pub runs_fresh : (bs : List (List ℕ)) (t : List ℕ) → Runs fresh bs t → burst t m ≡ brought_by m bs
  runs_fresh bs t r = runs_bits fresh bs t r ∙ ap (λ (x : List ℕ). x ++ brought_by m bs) (fresh_empty m)

  pub runs_same : (s : List ℕ) (bs cs : List (List ℕ)) (t u : List ℕ) → Below 256 s → is_store s ≡ true → Runs s bs t → Runs s cs u
      → brought_by m bs ≡ brought_by m cs → place_bytes t m ≡ place_bytes u m
  runs_same s bs cs t u l e p q d =
      store_place m low high t (runs_below s bs t l p) (runs_kept s bs t e p)
      ∙ ap encode (runs_bits s bs t p ∙ ap (λ (x : List ℕ). burst s m ++ x) d ∙ sym (runs_bits s cs u q))
      ∙ sym (store_place m low high u (runs_below s cs u l q) (runs_kept s cs u e q))
