-- Every meter of every store has a line.
--
--   last_exists    every valid register has its last two fields
--   lines_exists   every meter has a line, empty where it has no bits
use mathlib.Core.Path.{◌≡◌, refl}
use mathlib.Core.Bool.{Bool, true, false}
use mathlib.Core.Logic.{◌⊎◌, inl, inr}
use mathlib.Core.List.{List, []}
use Prim.Native.Nat.{ℕ, ◌+◌, ◌≤◌}
use native.Mathlib.Decide.{dec_le}
use lib.IntN.{ℤ}
use lib.ListN.{length}
use Rattle.integers.proofs.Finite.{le_or_gt}
use Rattle.integers.proofs.Tests.{not_both}
use Rattle.bits.specs.Bits.{num}
use Rattle.fractions.specs.Pairs.{Smallest, NoneFits}
use Rattle.fractions.proofs.Existence.{smallest_exists}
use Rattle.registers.specs.declared.Register.{Register}
use Rattle.registers.specs.Registers.{Valid}
use Rattle.registers.proofs.Answers.{load_exists, loaded_valid}
use Rattle.walking.specs.Walks as W
use Rattle.walking.proofs.Walks.{walk_exists}
use Rattle.records.specs.Block.{meters}
use Rattle.places.specs.Places.{is_store, burst}
use Rattle.by_meter.specs.ByMeter as M
use Rattle.text.specs.Text.{decimal_of}
use Rattle.listing.specs.Lines.{dash, allowance, LastTwo, walked, past, HasBits, Lines, silent, fraction, none}

pub last_exists : (g : Register) → Valid g → (a : List ℕ) × (b : List ℕ) × LastTwo g a b
last_exists g v =
    let w = walk_exists g v in
    elim (le_or_gt (w.0 + w.1) allowance) [ inl h ↦ (decimal_of w.0, decimal_of w.1, walked (W.walked v w.2 refl h)) | inr h ↦ (dash, dash, past (W.past w.0 w.1 v w.2 h)) ]

-- the line of a meter with bits
with_bits : {s : List ℕ} {m : ℕ} → HasBits s m → ((p : ℤ) × (q : ℕ) × Smallest (length (burst s m)) (num 2 (burst s m)) p q) ⊎ NoneFits (length (burst s m)) (num 2 (burst s m))
    → (t : List ℕ) × Lines s m t
with_bits b (inl f) =
    let l = load_exists f.0 f.1 f.2.inside in
    let w = last_exists l.0 (loaded_valid f.0 f.1 l.0 l.1) in
    (_, fraction b (M.answer b.asked f.2) l.1 w.2)
with_bits b (inr n) = (_, none b (M.none b.asked n))

pub lines_exists : (s : List ℕ) (m : ℕ) → (t : List ℕ) × Lines s m t
lines_exists s m = go (is_store s) refl (dec_le 1 m) (dec_le m meters) (dec_le 1 (length (burst s m)))
  where
    go : (b : Bool) → is_store s ≡ b → Dec (1 ≤ m) → Dec (m ≤ meters) → Dec (1 ≤ length (burst s m)) → (t : List ℕ) × Lines s m t
    go true e (yes l) (yes h) (yes k) = with_bits (record { asked = record { store = e; low = l; high = h }; some = k }) (smallest_exists (length (burst s m)) (num 2 (burst s m)))
    go true e (yes l) (yes h) (no k) = ([], silent (λ b. k b.some))
    go true e (yes l) (no h) k = ([], silent (λ b. h b.asked.high))
    go true e (no l) h k = ([], silent (λ b. l b.asked.low))
    go false e l h k = ([], silent (λ b. not_both (is_store s) b.asked.store e))
