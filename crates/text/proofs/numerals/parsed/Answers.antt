-- `text::numerals::parsed` meets its contract: the library's `parse` reads what the bytes say, where no plus is in front.
use Rattle.std.proofs.Common.{rules}
use Rattle.text.proofs.Parsing.{plus_no, no_text, parsed_is}
use Rattle.text.proofs.numerals.parsed.Goals as goal

pub returns-then-starts_with : goal.returns-then-starts_with
returns-then-starts_with c = plus_no c.starts_with.ensures.value c.if-starts_with.true

pub returns-in_err-ok : goal.returns-in_err-ok
returns-in_err-ok c = rw c.from_residual.ensures (no_text (search rules))

pub returns : goal.returns
returns c = rw c.ok-2.ensures.value (parsed_is {t = c.in_ok-ok.field-0.now} c.parse.result c.starts_with.ensures.value c.if-starts_with.false (search rules) c.parse.ensures.value.0)
