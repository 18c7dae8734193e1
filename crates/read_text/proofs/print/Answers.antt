-- `read_text::print` meets its contract: each argument is read as a number, and the line is that of the two numbers.
use native.Mathlib.Omega.{arith}
use Rattle.std.proofs.lemmas.Result.{err_from_is_err_and}
use Rattle.read_text.specs.Prints.{ended, line, no_meter, no_ordinal}
use Rattle.read_text.proofs.Answers.{is_number, no_number}
use Rattle.read_text.proofs.print.Goals as goal

pub returns-in_err-number : goal.returns-in_err-number
returns-in_err-number c =
    let n = no_number _ c.parsed.result c.parsed.ensures c.ok_or.ensures.value c.in_err-number.was in
    let r = err_from_is_err_and c.from_residual.result c.from_residual.ensures.1 in
    rw (r.1, r.2, n.1) (no_meter n.0)

pub returns-in_err-which : goal.returns-in_err-which
returns-in_err-which c =
    let m = is_number _ c.parsed.result c.parsed.ensures c.ok_or.ensures.value c.in_ok-number.was in
    let n = no_number _ c.parsed-2.result c.parsed-2.ensures c.ok_or-2.ensures.value c.in_err-which.was in
    let r = err_from_is_err_and c.from_residual-in_err-which.result c.from_residual-in_err-which.ensures.1 in
    rw (r.1, r.2, n.1) (no_ordinal m n.0)

pub returns : goal.returns
returns c =
    let m = is_number _ c.parsed.result c.parsed.ensures c.ok_or.ensures.value c.in_ok-number.was in
    let o = is_number _ c.parsed-2.result c.parsed-2.ensures c.ok_or-2.ensures.value c.in_ok-which.was in
    rw (c.push.ensures.ascii (omega arith), c.push_str.ensures.bytes, c.new-out.ensures, c.deref.ensures.0) (line m o (ended c.line.ensures))
