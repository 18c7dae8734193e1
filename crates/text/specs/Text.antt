-- Text as bytes, in ASCII.
--
--   decimal_of n               n in decimal digits, the most significant first; "0" for 0, and no other number begins with a 0
--   signed_of z                the same, with "-" in front of a negative number
-- and a text that is put on bytes at a position:
--   written old at text       the bytes `old` with `text` in them from `at` on, and every other byte as it was
--   Wrote old at text new r   the bytes `new` are those, and r is the position after the text
--   Writes P old at new r     the same for some text of the kind P
-- The laws `decimal_unique` and `signed_unique` say that two numbers with one text are one number.
use Rattle.std.specs.Prelude.{◌≡◌, cond, List, [], ◌∷◌, ◌++◌, ℕ, zero, suc, ◌+◌, ◌/◌, ◌%◌, ltb, ℤ, pos, negsuc, length, take, drop}

-- the ASCII codes of a digit and of "-"
abbrev pub digit_of : ℕ → ℕ
digit_of d = 48 + d

abbrev pub minus_sign : ℕ
minus_sign = 45

-- by a number of turns, of which as many as the number says are enough: each makes it smaller
unfoldable pub decimal_in : ℕ → ℕ → List ℕ
decimal_in zero n = digit_of n ∷ []
decimal_in (suc turns) n = cond (ltb n 10) (digit_of n ∷ []) (decimal_in turns (n / 10) ++ (digit_of (n % 10) ∷ []))

unfoldable pub decimal_of : ℕ → List ℕ
unfolding decimal_in
decimal_of n = decimal_in n n

abbrev pub signed_of : ℤ → List ℕ
signed_of (pos n) = decimal_of n
signed_of (negsuc n) = minus_sign ∷ decimal_of (suc n)

abbrev pub written : List ℕ → ℕ → List ℕ → List ℕ
written old at text = take at old ++ (text ++ drop (at + length text) old)

pub record Wrote (old : List ℕ) (at : ℕ) (text new : List ℕ) (r : ℕ) : Type 0 where
  pub new_is : new ≡ written old at text
  pub r_is : r ≡ at + length text

pub record Writes (P : List ℕ → Type 0) (old : List ℕ) (at : ℕ) (new : List ℕ) (r : ℕ) : Type 0 where
  pub text : List ℕ
  pub is : P text
  pub wrote : Wrote old at text new r
