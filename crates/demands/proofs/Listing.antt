-- The listing of two blocks, worked from the definitions.
--
--   unnamed_silent   a meter that no record of the block names has no line
--   empty_prints     "An empty block prints the header alone."
--   example_text     the header and the lines "3 13 -1 37 5 0 0 36" and "7 3 -1 3 2 0 0 2"
--   example_prints   "Input 5A C3 00 03 00 0D 53 04 5A C3 00 07 00 03 05 prints exactly:" this text
use mathlib.Core.Path.{◌≡◌, refl, sym, ap, ◌∙◌, subst}
use mathlib.Core.Logic.{⊎_elim}
use mathlib.Core.List.{List, [], ◌∷◌, ◌++◌, append-nil}
use Prim.Native.Nat.{ℕ, zero, suc, ◌≤◌, ◌<◌}
use native.Mathlib.Omega.{arith}
use lib.IntN.{ℤ, pos, negsuc}
use lib.ListN.{length}
use borrow.Author.Tests.{ne_eqb}
use Rattle.integers.specs.Numbers.{log2, log_in}
use Rattle.integers.proofs.Finite.{lt_or_ge}
use Rattle.bits.specs.Bits.{num, digits, value}
use Rattle.fractions.specs.Pairs.{Smallest}
use Rattle.fractions.specs.Expansion.{next_num, iter_num, digits_to}
use Rattle.records.specs.Block.{meters, judged, head_at, Parsed, parse_from, parse}
use Rattle.records.specs.Named.{named, brought}
use Rattle.std.specs.Prelude.{Ok}
use Rattle.records.proofs.Cond.{no}
use Rattle.records.proofs.Blocks.{form_whole}
use Rattle.records.proofs.Brought.{brought_none}
use Rattle.learning.specs.Learning.{Learns}
use Rattle.learning.specs.Learning as L
use Rattle.registers.specs.declared.Register.{Register}
use Rattle.registers.specs.Registers.{cell_count, sum_below, y_to}
use Rattle.registers.specs.Answers.{Loads}
use Rattle.walking.specs.Walks.{Walks}
use Rattle.walking.specs.Walks as W
use Rattle.places.specs.Places.{bits_of, burst, fresh, HasPlace}
use Rattle.places.proofs.Decode.{fresh-store, fresh_empty}
use Rattle.room.specs.Rooms.{room_of}
use Rattle.store.specs.Taking.{take_of}
use Rattle.store.proofs.Taking as store
use Rattle.store.proofs.After.{take_kept}
use Rattle.store.proofs.Meters.{take_bits}
use Rattle.store.proofs.Worked.{listing, listing_parse, listing_taken, listing_3, listing_7}
use Rattle.by_meter.specs.ByMeter as M
use Rattle.demands.proofs.Starred.{load, Holds, starred, holds}
use Rattle.text.specs.Text.{decimal_of, decimal_in, signed_of}
use Rattle.listing.specs.Lines.{row, header_text, allowance, LastTwo, walked, HasBits, Lines, silent, fraction}
use Rattle.list_text.specs.Prints.{UpTo, none, more, Prints, taken}
use Rattle.list_text.proofs.Printing.{prints_unique}

-- ---- meters without bits
empty_silent : {s : List ℕ} {m : ℕ} → burst s m ≡ [] → HasBits s m → ⊥
empty_silent e b = omega (arith, b.some, ap length e)

pub unnamed_silent : (b : List ℕ) (m : ℕ) → 0 < m → m ≤ meters → (take_of fresh b).answer ≡ Ok tt → named m (parse b).records ≡ [] → HasBits (take_of fresh b).store m → ⊥
unnamed_silent b m l h k e =
    empty_silent {s = (take_of fresh b).store} {m = m}
    (take_bits m l h fresh b k ∙ ap (λ (x : List ℕ). x ++ brought m (parse b).records) (fresh_empty m) ∙ brought_none m (parse b).records e)

up_silent : {s : List ℕ} {k : ℕ} {t : List ℕ} (i : ℕ) → k ≤ i → ((m : ℕ) → k < m → m ≤ i → HasBits s m → ⊥) → UpTo s k t → UpTo s i t
up_silent {s} {k} {t} zero h n u = subst (λ (x : ℕ). UpTo s x t) (let e : k ≡ 0 = omega arith in e) u
up_silent {s} {k} {t} (suc i) h n u =
    ⊎_elim
    (λ l. subst (UpTo s (suc i)) (append-nil t) (more (up_silent i (omega arith) (λ m p q. n m p (omega arith)) u) (silent (n (suc i) l (omega arith)))))
    (λ g. subst (λ (x : ℕ). UpTo s x t) (let e : k ≡ suc i = omega arith in e) u)
    (lt_or_ge k (suc i))

-- ---- the empty block
empty_parse : parse [] ≡ record { records = []; form = Ok tt }
unfolding parse parse_from head_at judged
empty_parse = refl

empty_taken : (take_of fresh []).answer ≡ Ok tt
unfolding room_of
empty_taken = sym (store.taken fresh [] _ fresh-store (form_whole [] (omega arith) (ap (λ (p : Parsed). p.form) empty_parse))
    (ap (λ (p : Parsed). room_of (bits_of fresh) p.records) empty_parse) refl).0

empty_is : Prints [] header_text
unfolding named
empty_is =
    subst (Prints []) (append-nil header_text)
    (taken empty_taken (up_silent meters (omega arith) (λ m p q. unnamed_silent [] m p q empty_taken (ap (λ (x : Parsed). named m x.records) empty_parse)) none))

pub empty_prints : {t : List ℕ} → Prints [] t → t ≡ header_text
empty_prints p = prints_unique p empty_is

-- ---- a line from its bits
smallest_of : {bytes : List ℕ} {n : ℕ} {p : ℤ} {q : ℕ} → Learns bytes n 0 p q → Smallest n (value bytes n) p q
smallest_of (L.answer e f) = f

walk_more : {g : Register} {k l t s : ℕ} → Walks g k 0 l t s → k ≤ allowance → LastTwo g (decimal_of l) (decimal_of t)
walk_more (W.walked v l e h) f = walked (W.walked v l e (omega arith))

line_of : {s : List ℕ} {m : ℕ} (bits : List ℕ) {p : ℤ} {q : ℕ} {g : Register} {a b : List ℕ} → HasPlace s m → burst s m ≡ bits → 0 < length bits
    → Smallest (length bits) (num 2 bits) p q → Loads p q 0 g → LastTwo g a b
    → Lines s m (row (decimal_of m) (decimal_of (length bits) ∷ signed_of p ∷ decimal_of q ∷ decimal_of (cell_count q) ∷ signed_of g.memory ∷ a ∷ b ∷ []))
line_of {s} {m} bits {p} {q} {g} {a} {b} h e l f d t =
    subst (λ (x : List ℕ). Lines s m (row (decimal_of m) (decimal_of (length x) ∷ signed_of p ∷ decimal_of q ∷ decimal_of (cell_count q) ∷ signed_of g.memory ∷ a ∷ b ∷ []))) e
    (fraction (record { asked = h; some = subst (λ (x : List ℕ). 0 < length x) (sym e) l })
    (M.answer h (subst (λ (x : List ℕ). Smallest (length x) (num 2 x) p q) (sym e) f)) d t)

-- ---- the document's block
abbrev pub example_text : List ℕ
example_text =
    header_text
    ++ ((51 ∷ 32 ∷ 49 ∷ 51 ∷ 32 ∷ 45 ∷ 49 ∷ 32 ∷ 51 ∷ 55 ∷ 32 ∷ 53 ∷ 32 ∷ 48 ∷ 32 ∷ 48 ∷ 32 ∷ 51 ∷ 54 ∷ 10 ∷ [])
    ++ (55 ∷ 32 ∷ 51 ∷ 32 ∷ 45 ∷ 49 ∷ 32 ∷ 51 ∷ 32 ∷ 50 ∷ 32 ∷ 48 ∷ 32 ∷ 48 ∷ 32 ∷ 50 ∷ 10 ∷ []))

abbrev after : List ℕ
after = (take_of fresh listing).store

place : (m : ℕ) → 0 < m → m ≤ meters → HasPlace after m
place m l h = record { store = take_kept fresh listing fresh-store; low = l; high = h }

others_silent : (m : ℕ) → 0 < m → m ≤ meters → (3 ≡ m → ⊥) → (7 ≡ m → ⊥) → HasBits after m → ⊥
unfolding named
others_silent m l h three seven =
    unnamed_silent listing m l h listing_taken
    (ap (λ (x : Parsed). named m x.records) listing_parse ∙ no _ _ (ne_eqb 3 m three) ∙ no _ _ (ne_eqb 7 m seven))

-- 13 bits to -1/37, and its register: two rows of the starred table
third : Lines after 3 (51 ∷ 32 ∷ 49 ∷ 51 ∷ 32 ∷ 45 ∷ 49 ∷ 32 ∷ 51 ∷ 55 ∷ 32 ∷ 53 ∷ 32 ∷ 48 ∷ 32 ∷ 48 ∷ 32 ∷ 51 ∷ 54 ∷ 10 ∷ [])
unfolding value num digits log2 log_in decimal_of decimal_in
third =
    let f = starred.1.1.1.1.1.1.1.0 in
    let g = starred.1.1.1.1.1.1.1.1.1.1.0 in
    line_of (1 ∷ 1 ∷ 0 ∷ 0 ∷ 1 ∷ 0 ∷ 1 ∷ 0 ∷ 0 ∷ 0 ∷ 1 ∷ 0 ∷ 0 ∷ []) (place 3 (omega arith) (omega arith)) listing_3 (omega arith) (smallest_of f) g.0 (walk_more g.2 (omega arith))

-- 3 bits to -1/3 in the starred table; its register is tested as the table's are
loaded_3 : Holds (load (negsuc 0) 3 1 (pos 0) (negsuc 0) 3 0 2)
unfolding value num digits digits_to iter_num next_num y_to sum_below log2 log_in
loaded_3 = holds (load (negsuc 0) 3 1 (pos 0) (negsuc 0) 3 0 2) tt

seventh : Lines after 7 (55 ∷ 32 ∷ 51 ∷ 32 ∷ 45 ∷ 49 ∷ 32 ∷ 51 ∷ 32 ∷ 50 ∷ 32 ∷ 48 ∷ 32 ∷ 48 ∷ 32 ∷ 50 ∷ 10 ∷ [])
unfolding value num digits log2 log_in decimal_of decimal_in
seventh =
    let f = starred.1.1.1.1.1.0.0 in
    line_of (1 ∷ 0 ∷ 1 ∷ []) (place 7 (omega arith) (omega arith)) listing_7 (omega arith) (smallest_of f) loaded_3.0 (walk_more loaded_3.2 (omega arith))

example_is : Prints listing example_text
example_is =
    taken listing_taken
    (up_silent meters (omega arith) (λ m p q. others_silent m (omega arith) q (λ e. omega arith) (λ e. omega arith))
    (more (up_silent 6 (omega arith) (λ m p q. others_silent m (omega arith) (omega arith) (λ e. omega arith) (λ e. omega arith))
    (more (up_silent 2 (omega arith) (λ m p q. others_silent m (omega arith) (omega arith) (λ e. omega arith) (λ e. omega arith)) none) third)) seventh))

pub example_prints : {t : List ℕ} → Prints listing t → t ≡ example_text
example_prints p = prints_unique p example_is
