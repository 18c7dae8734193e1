-- Bytes whitened so far, and what is left of the expansion: what a turn of each loop keeps.
--
--   Going g before n now left   the first n of the bytes `before` are whitened from g, which makes them `now`, and left is what is left then
--   begun, more, ended          none; k more; all
--   word_turn, byte_turn        a turn of each loop keeps it
use Rattle.std.proofs.Common.{◌≡◌, ℕ, ◌+◌, ◌*◌, ◌^◌, ◌≤◌, ◌<◌, List, [], ◌∷◌, ◌++◌, length, take, drop, get_or, set, refl, sym, ap, ap₂, ◌∙◌, arith, length-take, length-drop, w32, zero, suc, ◌-◌, add-one}
use Rattle.std.specs.Int.{from_le_bytes, to_le_bytes}
use Rattle.std.specs.Int.Bits.{bit_xor}
use Rattle.std.proofs.Math.Seq.{take-add, drop-drop, drop-cons, take-suc-set, take_all, drop-set-lt}
use Rattle.std.proofs.lemmas.Nat.{xor_lt, le_bytes_4}
use borrow.Rule.Slice.PartMut.{put_mid}
use Rattle.std.proofs.lemmas.Slice.{take-put_mid, drop-put_mid}
use Rattle.std.proofs.lemmas.List.{take_rest, take-append-drop}
use Rattle.std.proofs.lemmas.Grind.{common_steps}
use Rattle.bits.specs.Bits.{num, Below}
use Rattle.fractions.specs.Expansion.{iter_num, digits_to}
use Rattle.registers.specs.Registers.{Valid, iter_of, out_to}
use Rattle.registers.specs.Inner.{StateOf, HasState}
use Rattle.registers.specs.declared.Register.{Register}
use Rattle.registers.proofs.Validity.{valid_iter, iter_q}
use Rattle.registers.proofs.States.{numerator_iter, emits, iter_add, out_lt, state_unique}
use Rattle.whitening.specs.Whitening.{white_of}
use Rattle.whitening.specs.Inner.{Left, left_from}
use Rattle.whitening.proofs.Laws.{white_length, white_emitted, white_append}

pub record Going (g : Register) (before : List ℕ) (n : ℕ) (now : List ℕ) (left : Left) : Type 0 where
  pub good : Valid g
  pub within : n ≤ length before
  pub whitened : take n now ≡ white_of g (take n before)
  pub rest : drop n now ≡ drop n before
  pub left_is : left ≡ left_from (iter_of (8 * n) g)

pub begun : (g : Register) (before : List ℕ) (left : Left) → Valid g → left ≡ left_from g → Going g before 0 before left
unfolding white_of iter_of
begun g before left v e = record { good = v; within = omega arith; whitened = refl; rest = refl; left_is = e }

-- ---- four bytes as a word
number : (xs : List ℕ) → length xs ≡ 4 → from_le_bytes w32 xs ≡ num 256 xs
unfolding num
number [] e = absurd (omega arith)
number (a ∷ []) e = absurd (omega arith)
number (a ∷ b ∷ []) e = absurd (omega arith)
number (a ∷ b ∷ c ∷ []) e = absurd (omega arith)
number (a ∷ b ∷ c ∷ d ∷ []) e = omega arith
number (a ∷ b ∷ c ∷ d ∷ x ∷ xs) e = absurd (omega arith)

white_below : (g : Register) (xs : List ℕ) → Below 256 xs → Below 256 (white_of g xs)
unfolding white_of
white_below g [] b i = omega arith
white_below g (x ∷ xs) b zero = xor_lt 8 x (out_to 8 g) (b 0) (out_lt 8 g)
white_below g (x ∷ xs) b (suc i) = white_below (iter_of 8 g) xs (λ k. b (suc k)) i

white_word : (g : Register) (xs : List ℕ) (u : ℕ) → length xs ≡ 4 → Below 256 xs → u ≡ out_to 32 g → to_le_bytes w32 (bit_xor (from_le_bytes w32 xs) u) ≡ white_of g xs
white_word g xs u e b k =
    let long = white_length g xs ∙ e in
    le_bytes_4 (white_of g xs) _ long (white_below g xs b)
    (ap₂ bit_xor (number xs e) (k ∙ ap (λ (n : ℕ). out_to (8 * n) g) (sym e)) ∙ sym (white_emitted g xs b) ∙ sym (number (white_of g xs) long))

-- ---- k bytes
module _ (g : Register) (before : List ℕ) (n : ℕ) (now : List ℕ) (left : Left) (o : Going g before n now left) where
  now_valid : Valid (iter_of (8 * n) g)
  now_valid = valid_iter (8 * n) g o.good

  -- the next k digits are the next k bits of the register
  pub digits_out : (k : ℕ) → digits_to left.q k left.p ≡ out_to k (iter_of (8 * n) g)
  digits_out k = ap (λ (l : Left). digits_to l.q k l.p) o.left_is ∙ sym (emits k (iter_of (8 * n) g) now_valid)

  pub digits_small : (k : ℕ) → digits_to left.q k left.p < 2 ^ k
  digits_small k = rw (digits_out k) (out_lt k (iter_of (8 * n) g))

  left_after : (k : ℕ) → record left { p = iter_num left.q k left.p } ≡ left_from (iter_of k (iter_of (8 * n) g))
  left_after k =
      let s = iter_of (8 * n) g in
      ap (λ (l : Left). record l { p = iter_num l.q k l.p }) o.left_is ∙ sym (λ i. record { q = iter_q k s i; p = numerator_iter k s now_valid i })

  pub more : (k m : ℕ) (new : List ℕ) (after : Left) → m ≡ n + k → m ≤ length before
      → take m new ≡ take n now ++ white_of (iter_of (8 * n) g) (take k (drop n now)) → drop m new ≡ drop m now
      → after ≡ record left { p = iter_num left.q (8 * k) left.p } → Going g before m new after
  more k m new after e h w r a =
      let s = iter_of (8 * n) g in
      let long : length (take n before) ≡ n = omega (arith, length-take n before, o.within) in
      record {
        good = o.good;
        within = h;
        whitened =
            w ∙ ap₂ ◌++◌ o.whitened (ap (λ (l : List ℕ). white_of s (take k l)) o.rest ∙ ap (λ (j : ℕ). white_of (iter_of (8 * j) g) (take k (drop n before))) (sym long))
            ∙ sym (white_append g (take n before) (take k (drop n before))) ∙ ap (white_of g) (sym (take-add n k before) ∙ ap (λ (j : ℕ). take j before) (sym e));
        rest = r ∙ ap (λ (j : ℕ). drop j now) e ∙ sym (drop-drop k n now) ∙ ap (drop k) o.rest ∙ drop-drop k n before ∙ ap (λ (j : ℕ). drop j before) (sym e);
        left_is = a ∙ left_after (8 * k) ∙ ap left_from (sym (iter_add (8 * n) (8 * k) g) ∙ ap (λ (j : ℕ). iter_of j g) (omega arith));
      }

  pub word_turn : (m k u : ℕ) (word : List ℕ) (after : Left) → m ≡ n + 4 → k ≡ 4 → m ≤ length before → length now ≡ length before → Below 256 before
      → word ≡ to_le_bytes w32 (bit_xor (from_le_bytes w32 (take k (drop n now))) u) → u ≡ digits_to left.q 32 left.p
      → after ≡ record left { p = iter_num left.q 32 left.p } → Going g before m (put_mid n k now word) after
  word_turn m k u word after e f h l b w d a =
      let s = iter_of (8 * n) g in
      let xs = take 4 (drop n now) in
      let four : length xs ≡ 4 = omega (arith, length-take 4 (drop n now), length-drop n now) in
      let is : word ≡ white_of s xs =
      w ∙ ap (λ (j : ℕ). to_le_bytes w32 (bit_xor (from_le_bytes w32 (take j (drop n now))) u)) f ∙ white_word s xs u four (λ i. grind (arith, common_steps, o.rest, b (n + i))) (d ∙ digits_out 32) in
      let long : length word ≡ 4 = ap length is ∙ white_length s xs ∙ four in
      more 4 m (put_mid n k now word) after e h
      (take-put_mid n k now word m (omega arith) (omega arith) ∙ ap (λ (ys : List ℕ). take n now ++ ys) is)
      (drop-put_mid n k now word m (omega arith) (omega arith) (omega arith)) a

  pub byte_turn : (u : ℕ) (after : Left) → n < length before → length now ≡ length before → u ≡ digits_to left.q 8 left.p
      → after ≡ record left { p = iter_num left.q 8 left.p } → Going g before (n + 1) (set now n (bit_xor (get_or now n 0) u)) after
  unfolding white_of
  byte_turn u after h l d a =
      let x = bit_xor (get_or now n 0) u in
      let here : n < length now = omega arith in
      more 1 (n + 1) (set now n x) after refl (omega arith)
      (ap (λ (j : ℕ). take j (set now n x)) (add-one n) ∙ take-suc-set now n x here
      ∙ ap (λ (j : ℕ). take n now ++ bit_xor (get_or now n 0) j ∷ []) (d ∙ digits_out 8)
      ∙ ap (λ (ys : List ℕ). take n now ++ white_of (iter_of (8 * n) g) (take 1 ys)) (sym (drop-cons now n 0 here)))
      (drop-set-lt (n + 1) now n x (omega arith)) a

  pub ended : length before ≤ n → length now ≡ length before → now ≡ white_of g before
  ended h l = sym (take_all n now (omega arith)) ∙ o.whitened ∙ ap (white_of g) (take_all n before h)

-- ---- the register at the end
left_register : (g h : Register) (n : ℕ) (left : Left) → Valid g → left ≡ left_from (iter_of n g) → StateOf left.p left.q h → h ≡ iter_of n g
left_register g h n left v e s = state_unique h (iter_of n g) s.valid (valid_iter n g v) (s.q_is ∙ ap (λ (l : Left). l.q) e) (s.numerator ∙ ap (λ (l : Left). l.p) e)

pub has_register : (g : Register) (n : ℕ) (left : Left) → Valid g → left ≡ left_from (iter_of n g) → HasState left.p left.q
has_register g n left v e = (iter_of n g, record { valid = valid_iter n g v; q_is = sym (ap (λ (l : Left). l.q) e); numerator = sym (ap (λ (l : Left). l.p) e) })

-- the front by words, and from n on by bytes
module _ (g : Register) (before : List ℕ) (n : ℕ) (now : List ℕ) (left : Left) (o : Going g before n now left) (l : length now ≡ length before) where
  pub behind : Going (iter_of (8 * n) g) (take (length now - n) (drop n now)) 0 (take (length now - n) (drop n now)) left
  behind = begun (iter_of (8 * n) g) (take (length now - n) (drop n now)) left (valid_iter (8 * n) g o.good) o.left_is

  module _ (k : ℕ) (part : List ℕ) (last : Left) (p : Going (iter_of (8 * n) g) (take (length now - n) (drop n now)) k part last)
      (m : length part ≡ length (take (length now - n) (drop n now))) (h : length (take (length now - n) (drop n now)) ≤ k) where
    long : length part ≡ length before - n
    long = omega (arith, m, length-take (length now - n) (drop n now), length-drop n now)

    pub whole : put_mid n (length now - n) now part ≡ white_of g before
    whole =
        let s = iter_of (8 * n) g in
        let front : length (take n before) ≡ n = omega (arith, length-take n before, o.within) in
        let is : part ≡ white_of s (drop n before) = ended s (take (length now - n) (drop n now)) k part last p h m ∙ ap (white_of s) (take_rest now n ∙ o.rest) in
        let all : length (put_mid n (length now - n) now part) ≡ n + length part = grind (arith, common_steps, o.within) in
        sym (take_all (n + length part) (put_mid n (length now - n) now part) (omega arith))
        ∙ take-put_mid n (length now - n) now part (n + length part) refl (omega (arith, o.within))
        ∙ ap₂ ◌++◌ o.whitened (is ∙ ap (λ (j : ℕ). white_of (iter_of (8 * j) g) (drop n before)) (sym front))
        ∙ sym (white_append g (take n before) (drop n before)) ∙ ap (white_of g) (take-append-drop n before)

    pub register_is : (r : Register) → StateOf last.p last.q r → r ≡ iter_of (8 * length before) g
    register_is r s =
        left_register (iter_of (8 * n) g) r (8 * k) last p.good p.left_is s
        ∙ sym (iter_add (8 * n) (8 * k) g) ∙ ap (λ (j : ℕ). iter_of j g) (omega (arith, o.within, p.within, m, h, long))
