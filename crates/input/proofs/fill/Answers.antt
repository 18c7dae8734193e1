-- `input::fill` meets its contract: the bytes read so far are those that the input has lost.
use Rattle.std.proofs.Common.{rules}
use Rattle.input.proofs.Reading.{read_more}
use Rattle.input.proofs.fill.Goals as goal

pub loop-done-preserved : goal.loop-done-preserved
loop-done-preserved g c =
    let l = c.loop-done in
    (search rules, read_more _ _ _ l.out c.read.new.buf l.done _ c.in-Ok.n l.invariant.0 c.in-Ok.ensures.bound.0 l.invariant.1 c.in-Ok.ensures.bytes.0)
