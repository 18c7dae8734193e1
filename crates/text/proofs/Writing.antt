-- A text that somebody puts on bytes of their own, at a position: bytes and position are determined by the text, and so by a kind that has one text.
use mathlib.Core.Path.{◌≡◌, sym, ◌∙◌, subst}
use mathlib.Core.List.{List}
use Prim.Native.Nat.{ℕ}
use Rattle.text.specs.Text.{Wrote, Writes}

pub wrote_unique : {old : List ℕ} {at : ℕ} {text new new' : List ℕ} {r r' : ℕ} → Wrote old at text new r → Wrote old at text new' r' → (new ≡ new') × (r ≡ r')
wrote_unique w v = (w.new_is ∙ sym v.new_is, w.r_is ∙ sym v.r_is)

pub writes_unique : {P : List ℕ → Type 0} {old new new' : List ℕ} {at r r' : ℕ} → ((t t' : List ℕ) → P t → P t' → t ≡ t')
    → Writes P old at new r → Writes P old at new' r' → (new ≡ new') × (r ≡ r')
writes_unique {old = old} {new' = new'} {at = at} {r' = r'} one v w =
    wrote_unique v.wrote (subst (λ (t : List ℕ). Wrote old at t new' r') (sym (one v.text w.text v.is w.is)) w.wrote)
