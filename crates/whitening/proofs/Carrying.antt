-- A turn of an expansion, in the numbers of the code: the next k digits, and what is left after them.
--
--   width     2^k, as the code has it
--   turned    the digits are the expansion's, nothing wraps, and what is carried then is what is left
use Rattle.std.proofs.Common.{◌≡◌, ℕ, ◌+◌, ◌-◌, ◌*◌, ◌/◌, ◌%◌, ◌^◌, ◌<◌, ◌≤◌, ap, arith, div-add-mod', mul-le-mul_right}
use lib.Pow.{pow_mono}
use Rattle.fractions.specs.Expansion.{iter_num, digits_to}
use Rattle.fractions.proofs.Carrying.{word_law, key_of, rest_of, small_part, lowered, offset_unique}
use Rattle.whitening.specs.Carrying.{left_of, Carries}
use Rattle.whitening.specs.declared.expansion.Expansion.TheInside.{Inside}

pub width : (k : ℕ) → k ≤ 32 → 1 * 2 ^ k % 2 ^ 64 ≡ 2 ^ k
width k h = let most : 2 ^ k ≤ 2 ^ 32 = pow_mono h in omega arith

-- half a number at most
half : (w n : ℕ) → 1 < w → 2 * (n / w) ≤ n
half w n h = omega (arith, div-add-mod' n w, mul-le-mul_right (n / w) h)

pub record Turned (e : Inside) (k : ℕ) : Type 0 where
  pub digits : key_of (2 ^ k) e.carried e.inverse ≡ digits_to e.q k (left_of e).p
  pub room : key_of (2 ^ k) e.carried e.inverse * e.q / 2 ^ k ≤ e.carried / 2 ^ k + (2 ^ 62 - 2 ^ 62 / 2 ^ k)
  pub carries : Carries (record e { carried = rest_of (2 ^ k) e.carried e.q e.inverse })
  pub left : left_of (record e { carried = rest_of (2 ^ k) e.carried e.q e.inverse }) ≡ record { q = e.q; p = iter_num e.q k (left_of e).p }

pub turned : (e : Inside) (k : ℕ) → 0 < k → k ≤ 32 → Carries e → Turned e k
turned e k s h c =
    let w = 2 ^ k in
    let wide : 1 < 2 ^ k = let two : 2 ^ 1 ≤ 2 ^ k = pow_mono s in omega arith in
    let law = word_law k e.q e.inverse e.carried (left_of e).p wide h c.q_small c.inverse (lowered e.carried) in
    let u = key_of w e.carried e.inverse in
    let part = small_part w e.q u (omega arith) in
    let front = half w e.carried wide in
    let back = half w (2 ^ 62) wide in
    record {
      digits = law.0;
      room = omega (arith, c.q_small, part, back);
      carries = record { small = omega (arith, c.small, front, back); q_small = c.q_small; inverse = c.inverse };
      left = ap (λ p. record { q = e.q; p = p }) (offset_unique (lowered (rest_of w e.carried e.q e.inverse)) law.1);
    }
