-- The walk, in the words of the document's "Lead-in and period", and what it answers by the numbers for no.
--
--   states_of g n     the state after n steps
--   Loops s L T      "Lead-in is the least L, and period the least T >= 1, for which the state after L+T steps equals the state after L."
--   refusal_number e   the number of each reason for no
--   number_of r, lead_in_of r, period_of r, sum_of r   the number of an answer, and its values; 0 where there are none
--   Walks g allowance number lead-in period sum   "A walk is given an allowance of 0 to 2^32 - 1 steps. It answers L, T and L+T, or refuses when L+T exceeds the allowance."
-- The law `walk_exists` says that every valid register has its L and T, `walk_unique` that an answer is one.
use Rattle.std.specs.Prelude.{◌≡◌, ℕ, ◌+◌, ◌≤◌, ◌<◌, Result}
use Rattle.refusals.specs.Refusals as refusals
use Rattle.registers.specs.Registers.{Valid, iter_of}
use Rattle.registers.specs.declared.Register.{Register}
use Rattle.walking.specs.declared.Way.{Way}
use Rattle.walking.specs.declared.Refusal.{Refusal}
use Rattle.walking.specs.declared.Refusal.TheVariants.{Invalid, Past}

abbrev pub states_of : Register → ℕ → Register
states_of g n = iter_of n g

pub record Loops {A : Type 0} (s : ℕ → A) (L T : ℕ) : Type 0 where
  pub some : 1 ≤ T
  pub again : s (L + T) ≡ s L
  pub least : (l t : ℕ) → 1 ≤ t → s (l + t) ≡ s l → (L ≤ l) × (T ≤ t)

abbrev pub refusal_number : Refusal → ℕ
refusal_number Invalid = 5
refusal_number Past = 6

abbrev pub number_of : Result Way Refusal → ℕ
number_of r = refusals.number_of refusal_number r

abbrev pub lead_in_of : Result Way Refusal → ℕ
lead_in_of r = refusals.field_of 0 (λ w. w.lead_in) r

abbrev pub period_of : Result Way Refusal → ℕ
period_of r = refusals.field_of 0 (λ w. w.period) r

abbrev pub sum_of : Result Way Refusal → ℕ
sum_of r = refusals.field_of 0 (λ w. w.sum) r

pub data Walks (g : Register) (allowance : ℕ) : ℕ → ℕ → ℕ → ℕ → Type 0 where
  walked : {L T S : ℕ} → Valid g → Loops (states_of g) L T → S ≡ L + T → S ≤ allowance → Walks g allowance 0 L T S
  -- "register not valid"
  invalid : (Valid g → ⊥) → Walks g allowance 5 0 0 0
  -- "allowance smaller than L+T"
  past : (L T : ℕ) → Valid g → Loops (states_of g) L T → allowance < L + T → Walks g allowance 6 0 0 0
