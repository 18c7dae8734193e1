-- `antennas::find` meets its contract: what is found in the rest of the block, with `left` still to count, is what is sought in the whole.
use Rattle.std.proofs.Common.{rules}
use Rattle.antennas.proofs.Seek.{seek_start, seek_end, seek_none, seek_length, seek_hit, seek_pass, seek_skip}
use Rattle.antennas.proofs.find.Goals as goal

pub loop-record-init : goal.loop-record-init
loop-record-init c = seek_start c.requires (search rules) (search rules)

pub overflow_sub-result : goal.overflow_sub-result
overflow_sub-result c = seek_length c.loop-record.invariant c.next.ensures.steps c.in-Some.is c.in-Ok.is

pub returns-then-left-eq1 : goal.returns-then-left-eq1
returns-then-left-eq1 c = seek_hit c.loop-record.invariant c.next.ensures.steps c.in-Some.is c.in-Ok.is c.if-record-meter.true c.if-left-eq1.true

pub loop-record-preserved-then-record-meter : goal.loop-record-preserved-then-record-meter
loop-record-preserved-then-record-meter c = seek_pass c.loop-record.invariant c.next.ensures.steps c.in-Some.is c.in-Ok.is c.if-record-meter.true c.if-left-eq1.false

pub loop-record-preserved : goal.loop-record-preserved
loop-record-preserved c = seek_skip c.loop-record.invariant c.next.ensures.steps c.in-Some.is c.in-Ok.is c.if-record-meter.false

pub returns-in-None : goal.returns-in-None
returns-in-None c = seek_end c.loop-record.invariant c.next.ensures.steps c.in-None.is

pub returns-in_default : goal.returns-in_default
returns-in_default c = seek_none c.loop-record.invariant c.next.ensures.steps c.in-Some.is c.in_default.is
