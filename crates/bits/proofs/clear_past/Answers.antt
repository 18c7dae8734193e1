-- `bits::clear_past` meets its contract: the whole bytes below the count do not decide, and past it every byte must be 0.
use Rattle.std.proofs.Common.{◌+◌, ◌/◌, drop, eqb, rules, tests, ◌∙◌}
use Rattle.std.proofs.lemmas.Bool.{ne_eqb}
use Rattle.std.proofs.lemmas.List.{take_rest}
use Rattle.std.proofs.lemmas.Iterator.{YieldsList-from_slice}
use Rattle.std.proofs.lemmas.Iterator.Search.{all_from_yields_List}
use Rattle.bits.proofs.Laws.{fits_short, past_no, past_all}
use Rattle.bits.proofs.clear_past.Goals as goal

pub returns-then-bytes-from : goal.returns-then-bytes-from
returns-then-bytes-from c = fits_short _ c.args.count (λ i. (c.type_inv.bytes i).fits) c.if-bytes-from.true

pub returns-then-bytes-from-eq0 : goal.returns-then-bytes-from-eq0
returns-then-bytes-from-eq0 c =
    all_from_yields_List (λ x. eqb x 0) _ _ _ c.all.ensures.ran (YieldsList-from_slice (drop (c.args.count / 8 + 1) c.args.bytes.now) (c.iter.ensures.rest ∙ take_rest c.args.bytes.now (c.args.count / 8 + 1))) (λ x b q k. search (rules, tests))
    ∙ past_all _ c.args.count (λ i. (c.type_inv.bytes i).fits) c.if-bytes-from.false c.if-bytes-from-eq0.true

pub returns-else-bytes-from-eq0 : goal.returns-else-bytes-from-eq0
returns-else-bytes-from-eq0 c = ne_eqb _ 0 c.if-bytes-from-eq0.false ∙ past_no _ c.args.count (λ i. (c.type_inv.bytes i).fits) c.if-bytes-from.false c.if-bytes-from-eq0.false
