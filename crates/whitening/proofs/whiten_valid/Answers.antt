-- `whitening::whiten_valid` meets its contract: both loops keep what is whitened and what is left, and what is left at the end tells the register.
use Rattle.std.proofs.Common.{◌≡◌, ◌/◌, length, arith}
use Rattle.whitening.proofs.Bytes.{begun, digits_small, word_turn, byte_turn, has_register, behind, whole, register_is}
use Rattle.whitening.proofs.whiten_valid.Goals as goal

pub loop-i-init : goal.loop-i-init
loop-i-init c = (begun _ _ _ c.args.v.valid c.new-left.ensures, λ i. (c.type_inv.bytes i).fits)

pub overflow_cast-next_digits : goal.overflow_cast-next_digits
overflow_cast-next_digits c = record { fits = omega (arith, c.next_digits.ensures.digits, digits_small _ _ _ _ _ c.loop-i.invariant.0 32) }

pub loop-i-preserved : goal.loop-i-preserved
loop-i-preserved c =
    let d = c.next_digits.ensures in
    let below = c.loop-i.invariant.1 in
    (word_turn _ _ _ _ _ c.loop-i.invariant.0 _ _ _ _ _ (omega arith) (omega arith) (omega arith) c.loop-i.auto.bytes below c.mix_word.ensures d.digits d.left, below)

pub loop-byte-init : goal.loop-byte-init
loop-byte-init c =
    let e : c.loop-i.i ≡ length c.args.bytes.now / 4 = omega (arith, c.loop-i.auto.i-end) in
    behind _ _ _ _ _ (rw e at c.loop-i.invariant.0) c.loop-i.auto.bytes

pub overflow_cast-byte : goal.overflow_cast-byte
overflow_cast-byte c = record { fits = omega (arith, c.next_digits-in-loop-byte.ensures.digits, digits_small _ _ _ _ _ c.loop-byte.invariant 8) }

pub loop-byte-preserved : goal.loop-byte-preserved
loop-byte-preserved c =
    let d = c.next_digits-in-loop-byte.ensures in
    byte_turn _ _ _ _ _ c.loop-byte.invariant _ _ c.loop-byte-test.true c.loop-byte.auto.byte-items d.digits d.left

pub register-requires : goal.register-requires
register-requires c = has_register _ _ _ c.loop-byte.invariant.good c.loop-byte.invariant.left_is

pub returns : goal.returns
returns c =
    let e : c.loop-i.i ≡ length c.args.bytes.now / 4 = omega (arith, c.loop-i.auto.i-end) in
    let o = rw e at c.loop-i.invariant.0 in
    let l = c.loop-i.auto.bytes in
    let p = c.loop-byte.invariant in
    let m = c.loop-byte.auto.byte-items in
    let h = c.loop-byte-test.false in
    (register_is _ _ _ _ _ o l _ _ _ p m h _ c.register.ensures, whole _ _ _ _ _ o l _ _ _ p m h)
