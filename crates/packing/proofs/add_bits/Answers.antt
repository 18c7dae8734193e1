-- `packing::add_bits` meets its contract: each turn adds one byte of `more`, moved up by the bits that the byte it begins in already has.
use Rattle.std.proofs.Common.{ℕ, ◌+◌, ◌/◌, ◌%◌, ◌*◌, ◌^◌, refl, sym, ap, ◌∙◌, subst, arith}
use Rattle.bits.specs.Bits.{num, Below}
use Rattle.packing.specs.Inner.{WordFits}
use Rattle.packing.proofs.Appending.{word_fits, added_more, added_all, none_yet, shifted}
use Rattle.packing.proofs.add_bits.Goals as goal

pub loop-j-init : goal.loop-j-init
loop-j-init c = record { within = omega arith; long = refl; low = λ i. (c.type_inv.bytes i).fits; sum = none_yet _ _ c.args.more.now }

pub add_word-requires : goal.add_word-requires
add_word-requires c = let k : Below 256 c.args.more.now = λ i. (c.type_inv.more i).fits in
    subst (λ (w : ℕ). WordFits c.loop-j.bytes (c.args.have / 8 + c.loop-j.j) w) (sym (shifted c.args.more.now c.loop-j.j (c.args.have % 8) _ c.from.ensures (k c.loop-j.j) (omega arith)))
    (word_fits _ _ _ _ c.loop-j.j c.requires k c.loop-j.invariant c.loop-j-test.true)

pub loop-j-preserved : goal.loop-j-preserved
loop-j-preserved c = let k : Below 256 c.args.more.now = λ i. (c.type_inv.more i).fits in
    let e = shifted c.args.more.now c.loop-j.j (c.args.have % 8) _ c.from.ensures (k c.loop-j.j) (omega arith) in
    added_more _ _ _ _ c.loop-j.j c.requires k c.loop-j.invariant c.loop-j-test.true _ c.add_word.ensures.0
    (c.add_word.ensures.1 ∙ ap (λ (w : ℕ). num 256 c.loop-j.bytes + 256 ^ (c.args.have / 8 + c.loop-j.j) * w) e) (λ i. (c.type_inv.bytes i).fits)

pub returns : goal.returns
returns c = added_all _ _ _ _ c.loop-j.j c.loop-j.invariant c.loop-j-test.false
