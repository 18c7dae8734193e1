-- A meter has one line, so two answers that meet a contract are the same; and a line can be read back.
--
--   last_unique    the last two fields are determined by the register
--   lines_unique   a meter has one line, so the text that `line` answers is determined
--   line_unique    .. and where it is put on bytes at a position, every byte and the position behind it
--   row_unique     two rows that are equal have the same fields, none of which holds a space or a line end
--   line_says      two lines that are equal say the same meter, count, p, q and memory
use mathlib.Core.Path.{◌≡◌, refl, sym, ap, subst}
use mathlib.Core.List.{List, [], ◌∷◌}
use Prim.Native.Nat.{ℕ, ◌≤◌}
use native.Mathlib.Omega.{arith}
use lib.Dec.{lit<, lit≤}
use lib.IntN.{ℤ}
use lib.ListN.{length, get_or, length-append}
use Rattle.registers.specs.Registers.{cell_count}
use Rattle.registers.specs.Answers.{Loads}
use Rattle.registers.specs.declared.Register.{Register}
use Rattle.registers.proofs.Answers.{loads_same}
use Rattle.walking.specs.Walks as W
use Rattle.walking.proofs.Walks.{loops_unique}
use Rattle.places.specs.Places.{burst}
use Rattle.by_meter.proofs.Answers.{meter_unique}
use Rattle.text.specs.Text.{Writes, decimal_of, signed_of}
use Rattle.text.proofs.Digits.{Above, decimal_above, signed_above, decimal_unique, signed_unique, field_unique}
use Rattle.text.proofs.Writing.{writes_unique}
use Rattle.phrases.specs.Phrases.{space}
use Rattle.listing.specs.Lines.{row, LastTwo, walked, past, Lines, silent, fraction, none}

pub last_unique : {g : Register} {a b a' b' : List ℕ} → LastTwo g a b → LastTwo g a' b' → (a ≡ a') × (b ≡ b')
last_unique (walked (W.walked v l e k)) (walked (W.walked v' l' e' k')) = let u = loops_unique l l' in (ap decimal_of u.0, ap decimal_of u.1)
last_unique (walked (W.walked v l e k)) (past (W.past L T v' l' h)) = absurd (let u = loops_unique l l' in omega arith)
last_unique (past (W.past L T v l h)) (walked (W.walked v' l' e' k')) = absurd (let u = loops_unique l l' in omega arith)
last_unique (past h) (past h') = (refl, refl)

-- what the line of a fraction says behind the count
abbrev said : ℤ → ℕ → ℤ → List ℕ → List ℕ → List (List ℕ)
said p q m a b = signed_of p ∷ decimal_of q ∷ decimal_of (cell_count q) ∷ signed_of m ∷ a ∷ b ∷ []

fraction_unique : {p p' : ℤ} {q q' : ℕ} {g g' : Register} {a b a' b' : List ℕ} → p ≡ p' → q ≡ q' → Loads p q 0 g → Loads p' q' 0 g' → LastTwo g a b → LastTwo g' a' b'
    → said p q g.memory a b ≡ said p' q' g'.memory a' b'
fraction_unique {p} {p'} {q} {q'} {g} {g'} {a} {b} {a'} {b'} e f l l' t t' =
    let k : g ≡ g' = (loads_same l (subst (λ (x : ℤ). Loads x q 0 g') (sym e) (subst (λ (x : ℕ). Loads p' x 0 g') (sym f) l'))).1 in
    let u = last_unique t (subst (λ (x : Register). LastTwo x a' b') (sym k) t') in
    λ i. said (e i) (f i) (k i).memory (u.0 i) (u.1 i)

pub lines_unique : {s : List ℕ} {m : ℕ} {t t' : List ℕ} → Lines s m t → Lines s m t' → t ≡ t'
lines_unique (silent n) (silent n') = refl
lines_unique (silent n) (fraction b h l e) = absurd (n b)
lines_unique (silent n) (none b h) = absurd (n b)
lines_unique (fraction b h l e) (silent n) = absurd (n b)
lines_unique {s} {m} (fraction b h l e) (fraction b' h' l' e') =
    let u = meter_unique s m _ _ _ _ _ _ h h' in
    ap (λ (fs : List (List ℕ)). row (decimal_of m) (decimal_of (length (burst s m)) ∷ fs)) (fraction_unique u.1.0 u.1.1 l l' e e')
lines_unique {s} {m} (fraction b h l e) (none b' h') = absurd (omega (arith, (meter_unique s m _ _ _ _ _ _ h h').0))
lines_unique (none b h) (silent n) = absurd (n b)
lines_unique {s} {m} (none b h) (fraction b' h' l' e') = absurd (omega (arith, (meter_unique s m _ _ _ _ _ _ h h').0))
lines_unique (none b h) (none b' h') = refl

pub line_unique : {s : List ℕ} {m : ℕ} {old new new' : List ℕ} {at r r' : ℕ} → Writes (Lines s m) old at new r → Writes (Lines s m) old at new' r' → (new ≡ new') × (r ≡ r')
line_unique = writes_unique (λ t t' p q. lines_unique p q)

-- ---- reading a line back

pub Fields : List (List ℕ) → Type 0
Fields [] = Unit {0}
Fields (f ∷ fs) = Above space f × Fields fs

row_long : (f : List ℕ) (fs : List (List ℕ)) → 1 ≤ length (row f fs)
row_long f [] = rw length-append (omega arith)
row_long f (g ∷ gs) = rw length-append (omega arith)

pub row_unique : (f g : List ℕ) (fs gs : List (List ℕ)) → Fields (f ∷ fs) → Fields (g ∷ gs) → row f fs ≡ row g gs → f ∷ fs ≡ g ∷ gs
unfolding Fields
row_unique f g [] [] h k e = ap (λ (x : List ℕ). x ∷ []) (field_unique space f g [] [] h.0 k.0 (lit≤ tt) (lit≤ tt) e).0
row_unique f g [] (g' ∷ gs) h k e =
    absurd (omega (arith, row_long g' gs, ap length (field_unique space f g [] (row g' gs) h.0 k.0 (lit≤ tt) (lit≤ tt) e).1))
row_unique f g (f' ∷ fs) [] h k e =
    absurd (omega (arith, row_long f' fs, ap length (field_unique space f g (row f' fs) [] h.0 k.0 (lit≤ tt) (lit≤ tt) e).1))
row_unique f g (f' ∷ fs) (g' ∷ gs) h k e =
    let u = field_unique space f g (row f' fs) (row g' gs) h.0 k.0 (lit≤ tt) (lit≤ tt) e in
    let v = row_unique f' g' fs gs h.1 k.1 u.1 in
    λ i. u.0 i ∷ v i

-- the numbers of a line
pub record Same (m m' n n' q q' : ℕ) (p p' k k' : ℤ) : Type 0 where
  pub meter : m ≡ m'
  pub count : n ≡ n'
  pub p_same : p ≡ p'
  pub q_same : q ≡ q'
  pub memory : k ≡ k'

pub line_says : (m m' n n' q q' : ℕ) (p p' k k' : ℤ) (a b a' b' : List ℕ) → Above space a → Above space b → Above space a' → Above space b'
    → row (decimal_of m) (decimal_of n ∷ said p q k a b) ≡ row (decimal_of m') (decimal_of n' ∷ said p' q' k' a' b') → Same m m' n n' q q' p p' k k'
unfolding Fields
line_says m m' n n' q q' p p' k k' a b a' b' ha hb ha' hb' e =
    let u = row_unique (decimal_of m) (decimal_of m') (decimal_of n ∷ said p q k a b) (decimal_of n' ∷ said p' q' k' a' b') (numbers m n q p k a b ha hb) (numbers m' n' q' p' k' a' b' ha' hb') e in
    let at : (i : ℕ) → get_or (decimal_of m ∷ decimal_of n ∷ said p q k a b) i [] ≡ get_or (decimal_of m' ∷ decimal_of n' ∷ said p' q' k' a' b') i [] = λ i. ap (λ (fs : List (List ℕ)). get_or fs i []) u in
    record {
      meter = decimal_unique m m' (at 0);
      count = decimal_unique n n' (at 1);
      p_same = signed_unique p p' (at 2);
      q_same = decimal_unique q q' (at 3);
      memory = signed_unique k k' (at 5);
    }
  where
    numbers : (m n q : ℕ) (p k : ℤ) (a b : List ℕ) → Above space a → Above space b → Fields (decimal_of m ∷ decimal_of n ∷ said p q k a b)
    numbers m n q p k a b ha hb = (
      decimal_above space m (lit< tt),
      (
        decimal_above space n (lit< tt),
        (
          signed_above space p (lit< tt),
          (
            decimal_above space q (lit< tt),
            (decimal_above space (cell_count q) (lit< tt), (signed_above space k (lit< tt), (ha, (hb, tt)))),
          ),
        ),
      ),
    )

pub last_above : {g : Register} {a b : List ℕ} → LastTwo g a b → Above space a × Above space b
unfolding Above
last_above (walked {L} {T} w) = (decimal_above space L (lit< tt), decimal_above space T (lit< tt))
last_above (past w) = ((lit< tt, tt), (lit< tt, tt))
