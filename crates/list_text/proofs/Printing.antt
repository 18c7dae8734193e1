-- What is printed, by the answer of taking the block into a fresh store.
--
--   print_refused, print_taken   the two cases
--   up_unique                    the lines of the meters 1 to k are determined by the store
--   prints_unique                a block has one listing, so any two results that meet the contract of `print` are equal, in every byte and in their length
--   prints_exists                .. and always one
--   print_unique                 .. and where it is put at the start of bytes, every byte and its length are determined
use mathlib.Core.Path.{◌≡◌, refl, sym, ap, ap₂, ◌∙◌, subst}
use mathlib.Core.List.{List, [], ◌++◌}
use Prim.Native.Nat.{ℕ, zero, suc}
use Rattle.records.specs.Block.{meters}
use Rattle.places.specs.Places.{fresh}
use Rattle.std.specs.Prelude.{Ok, Err}
use Rattle.store.specs.declared.Refusal.{Refusal}
use Rattle.store.specs.Taking.{Answer, take_of, refusal_number, refusal_place, number_of, place_of}
use Rattle.text.specs.Text.{Writes}
use Rattle.text.proofs.Writing.{writes_unique}
use Rattle.phrases.specs.Phrases.{placed_text}
use Rattle.listing.specs.Lines.{row, header_text}
use Rattle.listing.proofs.Uniqueness.{lines_unique}
use Rattle.listing.proofs.Existence.{lines_exists}
use Rattle.list_text.specs.Prints.{UpTo, none, more, Prints, taken, refused}

module _ {block : List ℕ} {x : Answer} (answer : x ≡ (take_of fresh block).answer) where
  pub print_refused : {e : Refusal} {n p : ℕ} → x ≡ Err e → n ≡ refusal_number e → p ≡ refusal_place e → Prints block (row (placed_text n p) [])
  print_refused {e} {n} {p} is number place =
      let a : number_of (take_of fresh block).answer ≡ n = ap number_of (sym answer ∙ is) ∙ sym number in
      let b : place_of (take_of fresh block).answer ≡ p = ap place_of (sym answer ∙ is) ∙ sym place in
      subst (Prints block) (ap₂ (λ (i j : ℕ). row (placed_text i j) []) a b) (refused (λ q. let c : ◌≡◌ {A = Answer} (Err e) (Ok tt) = sym is ∙ answer ∙ q in cc))

  pub print_taken : {s lines : List ℕ} → x ≡ Ok tt → s ≡ (take_of fresh block).store → UpTo s meters lines → Prints block (header_text ++ lines)
  print_taken {s} {lines} is store u = taken (sym answer ∙ is) (subst (λ (t : List ℕ). UpTo t meters lines) store u)

-- ---- one listing
pub up_unique : {s : List ℕ} {k : ℕ} {t t' : List ℕ} → UpTo s k t → UpTo s k t' → t ≡ t'
up_unique none none = refl
up_unique (more u l) (more u' l') = ap₂ ◌++◌ (up_unique u u') (lines_unique l l')

pub prints_unique : {block t t' : List ℕ} → Prints block t → Prints block t' → t ≡ t'
prints_unique (taken a u) (taken a' u') = ap (λ (x : List ℕ). header_text ++ x) (up_unique u u')
prints_unique (taken a u) (refused n) = absurd (n a)
prints_unique (refused n) (taken a u) = absurd (n a)
prints_unique (refused n) (refused n') = refl

pub print_unique : {block old new new' : List ℕ} {r r' : ℕ} → Writes (Prints block) old 0 new r → Writes (Prints block) old 0 new' r' → (new ≡ new') × (r ≡ r')
print_unique = writes_unique (λ t t' p q. prints_unique p q)

-- ---- and always one
up_exists : (s : List ℕ) (k : ℕ) → (t : List ℕ) × UpTo s k t
up_exists s zero = ([], none)
up_exists s (suc k) = let u = up_exists s k in let l = lines_exists s (suc k) in (u.0 ++ l.0, more u.1 l.1)

pub prints_exists : (block : List ℕ) → (t : List ℕ) × Prints block t
prints_exists block = go (take_of fresh block).answer refl
  where
    other : ((take_of fresh block).answer ≡ Ok tt → ⊥) → (t : List ℕ) × Prints block t
    other n = (_, refused n)

    go : (x : Answer) → (take_of fresh block).answer ≡ x → (t : List ℕ) × Prints block t
    go (Ok u) e = let u = up_exists (take_of fresh block).store meters in (header_text ++ u.0, taken e u.1)
    go (Err x) e = other (λ h. cc)
