-- `records::form_of` meets its contract: what is left to parse has the form that the whole block has.
use mathlib.Core.Path.{sym, ap, ◌∙◌}
use native.Mathlib.Omega.{arith}
use borrow.Author.Tests.{le-ltb}
use lib.ListN.{length}
use Rattle.std.proofs.Common.{rules}
use Rattle.std.proofs.lemmas.Result.{err_from_is_err_and}
use Rattle.records.specs.Block.{Parsed, block_bytes, form_of}
use Rattle.records.proofs.Cond.{no}
use Rattle.records.proofs.Walk.{walk_start, walk_more, walk_refused, walk_ended}
use Rattle.records.proofs.form_of.Goals as goal

pub loop-record-init : goal.loop-record-init
unfolding form_of
loop-record-init c = record { rest = _; walk = walk_start (search rules) (search rules); holds = sym (no _ _ (le-ltb block_bytes (length c.args.block.now) (omega (arith, c.if-block-gt-BLOCK_BYTES.false)))) }

pub loop-record-preserved : goal.loop-record-preserved
loop-record-preserved c =
    let k = c.loop-record.invariant in
    let m = walk_more k.walk c.next.ensures.steps c.in-Some.is c.in_ok-record.was in
    record { rest = m.then; walk = m.walk; holds = sym m.form ∙ k.holds }

pub returns-in_err-record : goal.returns-in_err-record
returns-in_err-record c =
    let k = c.loop-record.invariant in
    let p = err_from_is_err_and c.from_residual.result c.from_residual.ensures.1 in
    rw (p.1, p.2) (sym (ap (λ (x : Parsed). x.form) (walk_refused k.walk c.next.ensures.steps c.in-Some.is c.in_err-record.was)) ∙ k.holds)

pub returns : goal.returns
returns c =
    let k = c.loop-record.invariant in
    sym (ap (λ (x : Parsed). x.form) (walk_ended k.walk c.next.ensures.steps c.in-None.is)) ∙ k.holds
