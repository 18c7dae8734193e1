-- `taps::digits::Expansion::next` meets its contract: the lowest bit of the numerator is its digit, and what is left stays far below 2^63.
use Rattle.std.proofs.Common.{◌≡◌, ℕ, ◌+◌, ◌*◌, ◌^◌, ◌≤◌, arith, ap, ◌∙◌, pos, ◌-ℤ◌, w64, to_z, of_z, nat_abs}
use mir.ValLaws.{to_z-of_z}
use Rattle.integers.specs.Numbers.{odd_z, half_z}
use Rattle.integers.proofs.Sizes.{fits64, back64, low_bit, odd_lt, abs--}
use Rattle.fractions.specs.Expansion.{next_num}
use Rattle.taps.proofs.Expanding.{digit_le}
use Rattle.taps.proofs.digits.Expansion.next.Goals.{then-odd, else-odd}
use Rattle.taps.proofs.digits.Expansion.next.Goals as goal

pub returns-clause-p : goal.returns-clause-p
unfolding next_num
returns-clause-p c =
    let p = c.args.self.now.p in
    let q = c.args.self.now.q in
    let t = c.if-odd.taken in
    let p_small = c.args.self.now.p_small in
    let q_small = c.args.self.now.q_small in
    let low = low_bit p (fits64 p (omega arith)) in
    let taken : t ≡ odd_z p * q = elim c.if-odd.branch [
      | then-odd w ↦ (let one : odd_z p ≡ 1 = omega (arith, low) in rw one (omega (arith, w.taken-is)))
      | else-odd w ↦ (let none : odd_z p ≡ 0 = omega (arith, low, odd_lt p) in rw none (omega (arith, w.taken-is)))
    ] in
    let small : t ≤ q = omega (arith, taken, digit_le (odd_z p) q (odd_lt p)) in
    let fits : nat_abs (p -ℤ pos t) ≤ 2 ^ 61 + 2 ^ 30 = abs-- p (pos t) {a = 2 ^ 61} {b = 2 ^ 30} (omega arith) (omega (arith, small)) in
    let left : to_z w64 (of_z w64 (to_z w64 (of_z w64 p) -ℤ to_z w64 (of_z w64 c.from.result))) ≡ p -ℤ pos t =
    rw (c.from.ensures, back64 p (omega arith), back64 (pos t) (omega (arith, small))) (back64 (p -ℤ pos t) (omega (arith, fits))) in
    to_z-of_z w64 _ (record { sfits = c.half-self.type_inv }) ∙ c.half-self.ensures ∙ ap half_z (left ∙ ap (λ (d : ℕ). p -ℤ pos d) taken)
